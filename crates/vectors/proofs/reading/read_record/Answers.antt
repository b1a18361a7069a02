-- A record is read word by word.
use Rattle.std.proofs.Common.{FitsSigned, w64, rules, sym, ap, ◌∙◌}
use Rattle.std.proofs.lemmas.Int.{to_z-of_z}
use Rattle.batch.specs.TermKinds.{kind_is_regular}
use Rattle.vectors.proofs.WordLists.{number_first-ok, number_first-err, integer_first-ok, integer_first-err}
use Rattle.vectors.proofs.CaseSteps.{refused, refused_as, record_first-none, record_first-bare, record_first-regular, regular_record-no_exponent, regular_record-no_precision, regular_record-no_limbs, regular_record-whole}
use Rattle.vectors.proofs.reading.read_record.Goals as goal

pub returns-in_err-kind-clause-err : goal.returns-in_err-kind-clause-err
returns-in_err-kind-clause-err c =
    refused _ (record_first-none _ _ (number_first-err 10 _ _ _ c.number.ensures.number.0 c.in_err-kind.was))

pub returns-then-not-is_regular-clause-ok : goal.returns-then-not-is_regular-clause-ok
returns-then-not-is_regular-clause-ok c =
    let kind = number_first-ok 10 _ _ _ _ c.number.ensures.number.0 c.number.ensures.others c.in_ok-kind.was in
    let bare = sym (c.is_regular.ensures ∙ ap kind_is_regular c.from.ensures) ∙ c.if-not-is_regular.true in
    record_first-bare _ _ _ _ _ kind bare (c.len-place.ensures ∙ c.args.pool.now.ok.0)

pub returns-in_err-exponent-clause-err : goal.returns-in_err-exponent-clause-err
returns-in_err-exponent-clause-err c =
    let kind = number_first-ok 10 _ _ _ _ c.number.ensures.number.0 c.number.ensures.others c.in_ok-kind.was in
    let regular = sym (c.is_regular.ensures ∙ ap kind_is_regular c.from.ensures) ∙ c.if-not-is_regular.false in
    refused _ (record_first-regular _ _ _ _ kind regular ∙ regular_record-no_exponent _ _ _ (integer_first-err _ _ _ c.number-2.ensures.number.0 c.in_err-exponent.was))

pub returns-in_err-precision-clause-err : goal.returns-in_err-precision-clause-err
returns-in_err-precision-clause-err c =
    let kind = number_first-ok 10 _ _ _ _ c.number.ensures.number.0 c.number.ensures.others c.in_ok-kind.was in
    let regular = sym (c.is_regular.ensures ∙ ap kind_is_regular c.from.ensures) ∙ c.if-not-is_regular.false in
    let exponent = integer_first-ok _ _ _ _ c.number-2.ensures.number.0 c.number-2.ensures.others c.in_ok-exponent.was in
    refused _ (record_first-regular _ _ _ _ kind regular ∙ regular_record-no_precision _ _ _ _ _ exponent (number_first-err 10 _ _ _ c.number-3.ensures.number.0 c.in_err-precision.was))

pub returns-in_err-read_limbs-clause-err : goal.returns-in_err-read_limbs-clause-err
returns-in_err-read_limbs-clause-err c =
    let kind = number_first-ok 10 _ _ _ _ c.number.ensures.number.0 c.number.ensures.others c.in_ok-kind.was in
    let regular = sym (c.is_regular.ensures ∙ ap kind_is_regular c.from.ensures) ∙ c.if-not-is_regular.false in
    let exponent = integer_first-ok _ _ _ _ c.number-2.ensures.number.0 c.number-2.ensures.others c.in_ok-exponent.was in
    let precision = number_first-ok 10 _ _ _ _ c.number-3.ensures.number.0 c.number-3.ensures.others c.in_ok-precision.was in
    refused_as _ _ c.from_residual-in_err-read_limbs.ensures.1 (λ other. record_first-regular _ _ _ _ kind regular
    ∙ regular_record-no_limbs _ _ _ _ _ _ _ exponent precision (c.in_err-read_limbs.ensures.err other))

pub returns-clause-ok : goal.returns-clause-ok
returns-clause-ok c =
    let fits : FitsSigned w64 c.in_ok-exponent.exponent = search rules in
    let kind = number_first-ok 10 _ _ _ _ c.number.ensures.number.0 c.number.ensures.others c.in_ok-kind.was in
    let regular = sym (c.is_regular.ensures ∙ ap kind_is_regular c.from.ensures) ∙ c.if-not-is_regular.false in
    let exponent = integer_first-ok _ _ _ _ c.number-2.ensures.number.0 c.number-2.ensures.others c.in_ok-exponent.was in
    let precision = number_first-ok 10 _ _ _ _ c.number-3.ensures.number.0 c.number-3.ensures.others c.in_ok-precision.was in
    record_first-regular _ _ _ _ kind regular
    ∙ regular_record-whole _ _ _ _ _ _ _ _ _ _ _ _ exponent precision c.in_ok-read_limbs.ensures.ok (to_z-of_z w64 _ fits) c.from-2.ensures (c.len-place.ensures ∙ c.args.pool.now.ok.0)
