-- The totals before the place are added to, and the others are as they were.
use Rattle.std.proofs.Common.{◌≡◌, ℕ, ◌<◌, ◌≤◌, slice_index, ◌+ℤ◌}
use Rattle.exact.specs.Integers.{signed}
use Rattle.column.specs.Runs.{total_at}
use Rattle.column.proofs.run.add_signed.Given as goal

abbrev pub invariant-loop-j : goal.invariant-loop-j
invariant-loop-j l = record {
  added : (k : ℕ) → k < l.j → total_at l.totals k ≡ total_at l.fn.totals k +ℤ signed l.negative (slice_index l.digits k);
  others : (k : ℕ) → l.j ≤ k → total_at l.totals k ≡ total_at l.fn.totals k;
}
