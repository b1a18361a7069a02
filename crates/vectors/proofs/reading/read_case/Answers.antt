-- A case is read word by word, and then record by record.
use Rattle.std.proofs.Common.{sym, ap, ◌∙◌}
use Rattle.vectors.specs.Cases.{case_of}
use Rattle.vectors.proofs.WordLists.{number_first-ok, number_first-err}
use Rattle.vectors.proofs.CaseSteps.{refused, refused_as, case_of-no_mode, case_of-no_width, case_of-no_records, case_of-whole}
use Rattle.vectors.proofs.reading.read_case.Goals as goal

pub returns-in_err-mode-clause-err : goal.returns-in_err-mode-clause-err
returns-in_err-mode-clause-err c =
    refused _ (ap case_of (sym c.new-words.ensures) ∙ case_of-no_mode _ (number_first-err 10 _ _ _ c.number.ensures.number.0 c.in_err-mode.was))

pub returns-in_err-width-clause-err : goal.returns-in_err-width-clause-err
returns-in_err-width-clause-err c =
    let mode = number_first-ok 10 _ _ _ _ c.number.ensures.number.0 c.number.ensures.others c.in_ok-mode.was in
    refused _ (ap case_of (sym c.new-words.ensures) ∙ case_of-no_width _ _ _ mode (number_first-err 10 _ _ _ c.number-2.ensures.number.0 c.in_err-width.was))

pub returns-in_err-records-clause-err : goal.returns-in_err-records-clause-err
returns-in_err-records-clause-err c =
    let mode = number_first-ok 10 _ _ _ _ c.number.ensures.number.0 c.number.ensures.others c.in_ok-mode.was in
    let width = number_first-ok 10 _ _ _ _ c.number-2.ensures.number.0 c.number-2.ensures.others c.in_ok-width.was in
    refused_as _ _ c.from_residual-in_err-records.ensures.1 (λ other. ap case_of (sym c.new-words.ensures) ∙ case_of-no_records _ _ _ _ _ mode width (c.in_err-records.ensures.err other))

pub returns-clause-ok : goal.returns-clause-ok
returns-clause-ok c =
    let mode = number_first-ok 10 _ _ _ _ c.number.ensures.number.0 c.number.ensures.others c.in_ok-mode.was in
    let width = number_first-ok 10 _ _ _ _ c.number-2.ensures.number.0 c.number-2.ensures.others c.in_ok-width.was in
    ap case_of (sym c.new-words.ensures) ∙ case_of-whole _ _ _ _ _ _ _ mode width c.in_ok-records.ensures.ok
