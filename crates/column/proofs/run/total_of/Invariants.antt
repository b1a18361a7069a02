-- The total is that of the terms so far.
use Rattle.std.proofs.Common.{◌≡◌, take}
use Rattle.column.specs.Columns.{column_total}
use Rattle.column.specs.Listed.{parts_listed}
use Rattle.column.proofs.run.total_of.Given as goal

abbrev pub invariant-loop-term : goal.invariant-loop-term
invariant-loop-term g l = l.total ≡ column_total (parts_listed (g.B.Batch.terms l.batch) (take l.term-index l.terms)) l.column
