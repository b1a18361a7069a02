use Rattle.std.proofs.Common.{map, take}
use Rattle.ask_history.specs.Data.{call_of}
use Rattle.ask_history.specs.Law.{EntryLaw}
use Rattle.ask_history.proofs.run.run.Given as goal

-- the law holds of the calls made so far
abbrev pub invariant-loop-i : goal.invariant-loop-i
invariant-loop-i g l = EntryLaw (take l.i (map (call_of g.G.Grid.spacing g.G.Grid.widest (map (λ b. g.B.Batch.terms b.now) l.batches)) l.calls)) l.initial.outcomes l.outcomes l.sheet
