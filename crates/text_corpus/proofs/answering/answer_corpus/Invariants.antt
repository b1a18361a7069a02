-- What was read so far is answered.
use Rattle.std.proofs.Common.{length}
use Rattle.text_corpus.specs.Corpus.{Answers}
use Rattle.text_corpus.proofs.answering.answer_corpus.Given as goal

abbrev pub invariant-loop-rest : goal.invariant-loop-rest
invariant-loop-rest l = Answers l.fn.corpus l.rest l.written.items

abbrev pub decreases-loop-rest : goal.decreases-loop-rest
decreases-loop-rest l = length l.rest
