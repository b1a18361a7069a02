-- Entries are read and answered one by one.
use Rattle.std.proofs.Common.{◌≡◌, ℕ, Bool, true, ◌==◌, arith}
use Rattle.std.proofs.lemmas.Bool.Decides.{nat_tests}
use Rattle.text_corpus.proofs.Entries.{Answers-more, Answers-none, Answers-all}
use Rattle.text_corpus.proofs.answering.answer_corpus.Goals as goal

pub loop-rest-init : goal.loop-rest-init
loop-rest-init c = Answers-none _ _ c.new-written.ensures.items

pub loop-rest-preserved : goal.loop-rest-preserved
loop-rest-preserved c = Answers-more _ _ _ _ _ _ c.loop-rest.invariant c.in_ok-entry.ensures c.in_ok-answer_entry.ensures

none_left : (n : ℕ) (t : Bool) → t ≡ (n == 0) → t ≡ true → n ≡ 0
none_left n t e f = grind (arith, nat_tests)

pub returns : goal.returns
returns c = Answers-all _ _ _ (none_left _ _ c.is_empty.ensures c.loop-rest-test.false) c.loop-rest.invariant
