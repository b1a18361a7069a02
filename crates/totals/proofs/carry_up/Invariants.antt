-- The totals so far are the limbs so far and the carry, which is small.
use Rattle.std.proofs.Common.{◌≡◌, ◌*◌, ◌^◌, ◌<◌, ◌≤◌, take, pos, ◌+ℤ◌, ◌*ℤ◌, nat_abs}
use Rattle.exact.specs.Limbs.{limbs_value}
use Rattle.totals.specs.Totals.{totals_value, flipped}
use Rattle.totals.proofs.carry_up.Given as goal

abbrev pub invariant-loop-i : goal.invariant-loop-i
invariant-loop-i l = record {
  small : nat_abs l.carry ≤ 4194304;
  value : flipped l.flip (totals_value (take l.i l.totals)) ≡ l.carry *ℤ pos (2 ^ (32 * l.i)) +ℤ pos (limbs_value (take l.i l.limbs));
  below : limbs_value (take l.i l.limbs) < 2 ^ (32 * l.i);
}
