use Rattle.std.proofs.Common.{◌≡◌, ℤ, pos, ◌+ℤ◌, ◌<ℤ◌, neg_ℤ, Some, refl, ap, ◌∙◌, subst, arith, w32, w64, SFits, to_z, of_z, rules}
use Rattle.std.proofs.lemmas.Int.{ints, to_z-of_z}
use Rattle.partial_sum.specs.Ends.{Reached}
use Rattle.partial_sum.proofs.Ending.{in_column, gap_lower, gap_upper}
use Rattle.partial_sum.proofs.sum.PartialSum.ends.Goals as goal

pub returns-in-None : goal.returns-in-None
returns-in-None c =
    let p = c.args.self.now in
    let rest : SFits w64 p.rest = search rules in
    let there = in_column p c.from_window-end.result (pos 0) p.column (to_z w64 (of_z w64 p.rest)) refl c.from_window-end.ensures.placed (omega (arith, ints)) in
    record { lower = rw c.in-None.is there; upper = rw c.in-None.is there; lower_small = search rules; upper_small = search rules }

pub returns-in-Some : goal.returns-in-Some
returns-in-Some c =
    let p = c.args.self.now in
    let n = c.args.below.reaching in
    let d = c.in-Some.next in
    let rest : SFits w64 p.rest = search rules in
    let column : SFits w32 p.column = search rules in
    let next : SFits w32 d = search rules in
    let small = p.sound.shaped.rest_small in
    let reached : Reached p n (Some d) = subst (Reached p n) c.in-Some.is c.requires in
    let adjacent : d +ℤ pos 1 ≡ p.column = omega (arith, ints, c.if-next-self.true) in
    record {
      lower = rw c.in-Some.is (in_column p c.from_window-lower.result (neg_ℤ (pos n)) (d +ℤ pos 1) _ adjacent c.from_window-lower.ensures.placed (omega (arith, ints, c.from-reaching.ensures)));
      upper = rw c.in-Some.is (in_column p c.from_window-upper.result (pos n) (d +ℤ pos 1) _ adjacent c.from_window-upper.ensures.placed (omega (arith, ints, c.from-reaching.ensures)));
      lower_small = search rules;
      upper_small = search rules;
    }

pub returns-in-Some-2 : goal.returns-in-Some-2
returns-in-Some-2 c =
    let p = c.args.self.now in
    let n = c.args.below.reaching in
    let d = c.in-Some.next in
    let rest : SFits w64 p.rest = search rules in
    let column : SFits w32 p.column = search rules in
    let next : SFits w32 d = search rules in
    let small = p.sound.shaped.rest_small in
    let reached : Reached p n (Some d) = subst (Reached p n) c.in-Some.is c.requires in
    let apart : ¬ (d +ℤ pos 1 ≡ p.column) = λ same. c.if-next-self.false (ap (of_z w32) (ap (λ (z : ℤ). z +ℤ pos 1) (to_z-of_z w32 d next) ∙ same)) in
    let below = reached.0 in
    let far : (d +ℤ pos 1) <ℤ p.column = omega (arith, ints) in
    record {
      lower = rw c.in-Some.is (gap_lower p n d far reached.1 reached.2 c.between_units-lower.result _ c.between_units-lower.ensures.partial c.between_units-lower.ensures.placed (omega (arith, ints)));
      upper = rw c.in-Some.is (gap_upper p n d far reached.1 reached.2 c.between_units-upper.result _ c.between_units-upper.ensures.partial c.between_units-upper.ensures.placed (omega (arith, ints)));
      lower_small = search rules;
      upper_small = search rules;
    }
