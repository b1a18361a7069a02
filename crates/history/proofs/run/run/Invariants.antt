use Rattle.std.proofs.Common.{take}
use Rattle.history.specs.Data.{calls_of}
use Rattle.history.specs.Law.{EntryLaw}
use Rattle.history.proofs.run.run.Given as goal

-- the law holds of the calls made so far
abbrev pub invariant-loop-i : goal.invariant-loop-i
invariant-loop-i l = EntryLaw (take l.i (calls_of l.calls)) l.initial.outcomes l.outcomes l.sheet
