-- Records are read one by one.
use Rattle.std.proofs.Common.{◌≡◌, ℕ, ◌<◌, ◌==◌, Bool, true, false, ◌∙◌, arith}
use Rattle.std.proofs.lemmas.Bool.Decides.{nat_tests}
use Rattle.vectors.proofs.CaseSteps.{refused_as, with_records-none, with_records-more, with_records-done, with_records-all}
use Rattle.vectors.proofs.reading.read_records.Goals as goal
use Rattle.vectors.proofs.reading.read_records.Goals.{else-loop-test, then-loop-test+then-are_done}

some_left : (n : ℕ) (t : Bool) → t ≡ (n == 0) → t ≡ false → 0 < n
some_left n t e f = grind (arith, nat_tests)

none_left : (n : ℕ) (t : Bool) → t ≡ (n == 0) → t ≡ true → n ≡ 0
none_left n t e f = grind (arith, nat_tests)

pub returns-in_err-read_record-clause-err : goal.returns-in_err-read_record-clause-err
returns-in_err-read_record-clause-err c =
    refused_as _ _ c.from_residual.ensures.1 (λ other. c.loop.invariant
    ∙ with_records-none 1025 _ _ _ _ c.loop-test.true (some_left _ _ c.are_done.ensures c.if-are_done.false) (c.in_err-read_record.ensures.err other))

pub loop-preserved : goal.loop-preserved
loop-preserved c = c.loop.invariant
    ∙ with_records-more 1025 _ _ _ _ _ _ _ _ c.loop-test.true (some_left _ _ c.are_done.ensures c.if-are_done.false) c.in_ok-read_record.ensures.ok c.in_ok-push.ensures.items

pub returns-clause-ok : goal.returns-clause-ok
returns-clause-ok c = c.loop.invariant ∙ elim c.loop-test.branch [ else-loop-test w ↦ with_records-all 1025 _ _ _ _ w.loop-test.false | then-loop-test+then-are_done w ↦ with_records-done _ _ _ _ (none_left _ _ w.are_done.ensures w.if-are_done.true) ]
