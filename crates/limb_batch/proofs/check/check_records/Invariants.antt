-- What the loop keeps: the first fault is that of the records that are left.
use Rattle.std.proofs.Common.{◌≡◌, drop}
use Rattle.limb_batch.specs.Opening.{first_fault}
use Rattle.limb_batch.proofs.check.check_records.Given as goal

abbrev pub invariant-loop-i : goal.invariant-loop-i
invariant-loop-i l = first_fault l.pool 0 l.records ≡ first_fault l.pool l.i-counter (drop l.i-counter l.records)
