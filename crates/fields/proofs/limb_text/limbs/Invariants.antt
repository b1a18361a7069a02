use Rattle.std.proofs.Common.{◌≡◌, drop}
use Rattle.fields.specs.Checking.{break_from, in_limbs}
use Rattle.fields.proofs.limb_text.limbs.Given as goal

-- no byte so far breaks
abbrev pub invariant-loop-place : goal.invariant-loop-place
invariant-loop-place l = break_from in_limbs l.place (drop l.place l.text) ≡ break_from in_limbs 0 l.text
