-- A record with a fault, and one without.
use Rattle.std.proofs.Common.{◌≡◌, pos, None, ◌∙◌, rules, tests}
use Rattle.std.specs.Result.{result_err}
use Rattle.limb_batch.specs.declared.record.LimbRecord.{LimbRecord}
use Rattle.limb_batch.proofs.FirstFaults.{first_further, first_here}
use Rattle.limb_batch.proofs.check.check_records.Goals as goal

abbrev zeros : LimbRecord
zeros = record { kind = 0; exponent = pos 0; precision = 0; place = 0 }

pub returns-in_err-map_err : goal.returns-in_err-map_err
returns-in_err-map_err c =
    first_here c.args.pool.now c.args.records.now c.loop-i.i-counter zeros c.loop-i-test.true c.loop-i.invariant c.check_record.result c.from_residual.result (search rules) c.check_record.ensures (search (rules, tests))

pub loop-i-preserved : goal.loop-i-preserved
loop-i-preserved c =
    let none : None ≡ result_err c.check_record.result = search (rules, tests) in
    first_further c.args.pool.now c.args.records.now c.loop-i.i-counter zeros c.loop-i-test.true c.loop-i.invariant (none ∙ c.check_record.ensures)
