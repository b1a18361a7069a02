-- The bits so far are those of the number, and the upper limb is that above the next one.
use Rattle.std.proofs.Common.{◌≡◌, ℕ, ◌+◌, ◌-◌, ◌*◌, ◌/◌, ◌%◌, ◌^◌, ◌<◌, slice_index}
use Rattle.exact.specs.Limbs.{limbs_value}
use Rattle.limbs.proofs.run.bits_within.Given as goal

abbrev pub invariant-loop-j : goal.invariant-loop-j
invariant-loop-j l = (l.high ≡ slice_index l.limbs (l.end - l.j))
    × ((k : ℕ) → k < l.j → slice_index l.run k ≡ limbs_value l.limbs / 2 ^ (32 * (l.end - 1 - k) + l.shift) % 2 ^ 32)
