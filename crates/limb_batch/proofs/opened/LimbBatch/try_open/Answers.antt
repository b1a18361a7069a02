-- What the outcome tells of the records is a theorem on the definition.
use Rattle.std.proofs.Common.{◌≡◌, None, sym, subst, rules, tests}
use Rattle.std.specs.Result.{result_err}
use Rattle.limb_batch.specs.Opening.{Told, opening_fault}
use Rattle.limb_batch.proofs.FirstFaults.{opening_told}
use Rattle.limb_batch.proofs.opened.LimbBatch.try_open.Goals as goal

pub returns-in_err-check_records-clause-first : goal.returns-in_err-check_records-clause-first
returns-in_err-check_records-clause-first c =
    let pool = c.args.pool.now in
    let records = c.args.records.now in
    let same : result_err c.from_residual.result ≡ opening_fault pool records = search (rules, tests) in
    subst (Told pool records) (sym same) (opening_told pool records)

pub returns-clause-first : goal.returns-clause-first
returns-clause-first c =
    let pool = c.args.pool.now in
    let records = c.args.records.now in
    let same : None ≡ opening_fault pool records = search (rules, tests) in
    subst (Told pool records) (sym same) (opening_told pool records)
