-- The totals are those of the terms so far.
use Rattle.std.proofs.Common.{take}
use Rattle.column.specs.Listed.{parts_listed}
use Rattle.column.specs.Runs.{TotalsFrom}
use Rattle.column.proofs.cursor.work.run_totals.Given as goal

abbrev pub invariant-loop-term : goal.invariant-loop-term
invariant-loop-term g l = TotalsFrom (parts_listed (g.B.Batch.terms l.batch) (take l.term-index l.terms)) l.top l.height l.totals
