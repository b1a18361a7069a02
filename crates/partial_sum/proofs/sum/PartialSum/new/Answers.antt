use Rattle.std.proofs.Common.{set, replicate, ℤ, pos, refl, ap, w32, w64, to_z, of_z}
use Rattle.std.proofs.lemmas.Int.{to_z-of_z}
use Rattle.partial_sum.specs.Limits.{Fields}
use Rattle.partial_sum.proofs.Absorbing.{started}
use Rattle.partial_sum.proofs.sum.PartialSum.new.Goals as goal

abbrev first : ℤ → ℤ → Fields
first t d = record { totals = set (replicate 130 (pos 0)) 129 t; from = 129; lowest = d; column = d; rest = pos 0 }

pub invariant_of-result-clause-sound : goal.invariant_of-result-clause-sound
invariant_of-result-clause-sound c = (started (first (to_z w64 (of_z w64 c.args.total)) (to_z w32 (of_z w32 c.args.column))) c.args.total c.requires (ap (λ (z : ℤ). set (replicate 130 (pos 0)) 129 z) (to_z-of_z w64 c.args.total c.ranges.total)) refl refl refl).1

pub returns-clause-held : goal.returns-clause-held
returns-clause-held c = (started (first (to_z w64 (of_z w64 c.args.total)) (to_z w32 (of_z w32 c.args.column))) c.args.total c.requires (ap (λ (z : ℤ). set (replicate 130 (pos 0)) 129 z) (to_z-of_z w64 c.args.total c.ranges.total)) refl refl refl).0
