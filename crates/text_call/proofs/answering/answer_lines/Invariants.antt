use Rattle.std.proofs.Common.{length}
use Rattle.text_call.proofs.Loop.{Between}
use Rattle.text_call.proofs.answering.answer_lines.Given as goal

abbrev pub invariant-loop-rest : goal.invariant-loop-rest
invariant-loop-rest l = Between l.text l.initial.answer l.terms l.calls l.rest l.number l.at l.answer

abbrev pub decreases-loop-rest : goal.decreases-loop-rest
decreases-loop-rest l = length l.rest
