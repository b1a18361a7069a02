-- The terms before the place are parted.
use Rattle.column.proofs.PartedTerms.{PartedAsFar}
use Rattle.column.proofs.parting.bring_forward.Given as goal

abbrev pub invariant-loop-place : goal.invariant-loop-place
invariant-loop-place l = PartedAsFar l.edge l.column l.fn.terms l.terms l.from l.place l.parted.at l.parted.highest
