use Rattle.std.proofs.Common.{◌≡◌, ℕ, ◌≤◌, ℤ, pos, ◌-ℤ◌, ap, ◌∙◌, subst, arith, w32, w64, SFits, of_z, rules}
use Rattle.std.proofs.lemmas.Int.{ints, to_z-of_z}
use Rattle.partial_sum.specs.Lying.{Placed}
use Rattle.partial_sum.specs.Limits.{drop_between}
use Rattle.partial_sum.proofs.sum.PartialSum.from_window.Goals as goal

pub returns-then-self-2-clause-placed : goal.returns-then-self-2-clause-placed
returns-then-self-2-clause-placed c =
    let p = c.args.self.now in
    let r = c.one_column_up.result in
    let column : SFits w32 p.column = search rules in
    let lowest : SFits w32 p.lowest = search rules in
    let order = c.args.self.now.sound.shaped.order in
    let k : 32 ≡ drop_between p.lowest p.column = omega (arith, ints, c.if-self-2.true) in
    subst (λ (i : ℕ). Placed r.partial i c.args.units r.offset) k
    (subst (λ (z : ℤ). Placed r.partial 32 z r.offset) (to_z-of_z w64 c.args.units c.ranges.units) c.one_column_up.ensures.placed)

pub returns-else-self-2-clause-placed : goal.returns-else-self-2-clause-placed
returns-else-self-2-clause-placed c =
    let p = c.args.self.now in
    let r = c.far_up.result in
    let column : SFits w32 p.column = search rules in
    let lowest : SFits w32 p.lowest = search rules in
    let order = c.args.self.now.sound.shaped.order in
    let here : ¬ (p.lowest ≡ p.column) = λ same. c.if-self.false (ap (of_z w32) same) in
    let next : ¬ (p.lowest -ℤ pos 1 ≡ p.column) = λ same. c.if-self-2.false (ap (of_z w32) (ap (λ (z : ℤ). z -ℤ pos 1) (to_z-of_z w32 p.lowest lowest) ∙ same)) in
    let k : 64 ≤ drop_between p.lowest p.column = omega (arith, ints) in
    subst (λ (z : ℤ). Placed r.partial (drop_between p.lowest p.column) z r.offset) (to_z-of_z w64 c.args.units c.ranges.units) (c.far_up.ensures.placed (drop_between p.lowest p.column) k)
