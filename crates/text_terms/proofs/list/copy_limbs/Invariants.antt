-- The first limbs are written.
use Rattle.std.proofs.Common.{◌≡◌, take}
use Rattle.fields.specs.Held.{limbs_held}
use Rattle.text_terms.proofs.list.copy_limbs.Given as goal

abbrev pub invariant-loop-i : goal.invariant-loop-i
invariant-loop-i l = take l.i l.places ≡ take l.i (limbs_held l.limbs)
