use Rattle.std.proofs.Common.{ℤ, sym, subst, w64, SFits, rules}
use Rattle.std.proofs.lemmas.Int.{to_z-of_z}
use Rattle.partial_sum.specs.Ends.{Between}
use Rattle.partial_sum.proofs.sum.PartialSum.between_units.Goals as goal

pub returns-clause-placed : goal.returns-clause-placed
returns-clause-placed c =
    let p = c.args.self.now in
    let r = c.from_window.result in
    let fits : SFits w64 r.offset = search rules in
    let units = to_z-of_z w64 c.args.units c.ranges.units in
    subst (λ (z : ℤ). Between p c.args.units z) (sym (to_z-of_z w64 r.offset fits)) (subst (λ (z : ℤ). Between p z r.offset) units (r.partial, c.from_window.ensures.placed))
