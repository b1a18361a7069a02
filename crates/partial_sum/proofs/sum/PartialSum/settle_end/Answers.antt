use Rattle.std.proofs.Common.{◌≡◌, ℕ, Bool, true, ℤ, pos, ◌+ℤ◌, nat_abs, sym, ap, ◌∙◌, subst, arith, w64, SFits, rules}
use Rattle.std.proofs.lemmas.Int.{ints, to_z-of_z}
use Rattle.exact.specs.Integers.{is_negative}
use Rattle.exact.specs.Limbs.{limbs_value}
use Rattle.partial_sum.specs.Holding.{window}
use Rattle.partial_sum.specs.Ends.{Meant}
use Rattle.partial_sum.proofs.Meaning.{meant_part}
use Rattle.partial_sum.proofs.sum.PartialSum.settle_end.Goals as goal

pub returns-then-end : goal.returns-then-end
returns-then-end c =
    let p = c.args.self.now in
    let v = window p +ℤ c.args.end.offset in
    let n = limbs_value c.settle_with.new.limbs in
    let fits : SFits w64 c.args.end.offset = search rules in
    let few = c.requires.few in
    let minus : is_negative v ≡ true = ap (λ (z : ℤ). is_negative (window p +ℤ z)) (sym (to_z-of_z w64 c.args.end.offset fits)) ∙ sym c.settle_with-negative.ensures.negative ∙ c.if-negative.true in
    let next : (z : ℤ) → z ≡ c.args.end.offset +ℤ pos 1 → nat_abs (window p +ℤ z) ≡ nat_abs (v +ℤ pos 1) = λ z e. ap nat_abs (let m : window p +ℤ z ≡ v +ℤ pos 1 = omega (arith, ints) in m) in
    let is : n ≡ nat_abs (v +ℤ pos 1) = c.settle_with.ensures.magnitude ∙ next _ (omega (arith, ints)) in
    subst (λ (b : Bool). Meant b c.args.end.partial n v) (sym c.if-negative.true)
    (subst (λ (b : Bool). Meant true b n v) (sym c.if-end.true) (subst (λ (k : ℕ). Meant true true k v) (sym is) (meant_part v minus)))
