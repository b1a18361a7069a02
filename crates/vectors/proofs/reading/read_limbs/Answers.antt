-- Limbs are read one by one.
use Rattle.std.proofs.Common.{◌≡◌, ℕ, ◌-◌, ◌+◌, ◌/◌, ◌%◌, min, sym, ap, ◌∙◌, arith}
use Rattle.std.specs.Result.{result_ok}
use Rattle.limb_batch.specs.Records.{limbs_for}
use Rattle.vectors.specs.Words.{words_of}
use Rattle.vectors.specs.Cases.{with_limbs}
use Rattle.vectors.proofs.CaseSteps.{refused, with_significand-past, with_significand-within, with_limbs-none, with_limbs-more, with_limbs-all}
use Rattle.vectors.proofs.reading.read_limbs.Goals as goal

pub returns-then-precision-gt-MOST_DIGITS-clause-err : goal.returns-then-precision-gt-MOST_DIGITS-clause-err
returns-then-precision-gt-MOST_DIGITS-clause-err c = λ _. with_significand-past _ _ _ c.if-precision-gt-MOST_DIGITS.true

counted : (p n : ℕ) → n ≡ p / 32 + min 1 (p % 32) → limbs_for p ≡ n - 0
counted p n e = omega arith

pub loop-init : goal.loop-init
loop-init c = let pool = c.args.pool.now.items in
    let ws = words_of c.args.words.now.rest.now in
    with_significand-within c.args.precision pool ws c.if-precision-gt-MOST_DIGITS.false
    ∙ ap (λ (n : ℕ). with_limbs n pool ws) (counted _ _ c.div_ceil-end.ensures)

pub returns-in_err-limb-clause-err : goal.returns-in_err-limb-clause-err
returns-in_err-limb-clause-err c =
    let none = sym c.limb.ensures.limb ∙ ap result_ok c.in_err-limb.was in
    refused _ (c.loop.invariant ∙ with_limbs-none _ _ _ _ c.loop-test.true none)

pub loop-preserved : goal.loop-preserved
loop-preserved c =
    let some = sym c.limb.ensures.limb ∙ ap result_ok c.in_ok-limb.was in
    c.loop.invariant ∙ with_limbs-more _ _ _ _ _ _ _ c.loop-test.true some c.in_ok-push.ensures.items c.limb.ensures.others

pub returns-clause-ok : goal.returns-clause-ok
returns-clause-ok c = c.loop.invariant ∙ with_limbs-all _ _ _ _ c.loop-test.false
