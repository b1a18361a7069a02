-- The kind of the record that is found.
use Rattle.std.proofs.Common.{rules, tests}
use Rattle.limb_batch.proofs.RecordTerms.{kind_found}
use Rattle.limb_batch.proofs.opened.LimbBatchBatch.kind.Goals as goal

pub returns : goal.returns
returns c =
    let b = c.args.self.now in
    kind_found b.pool.now b.records.now c.args.i c.get.result c.map_or.result b.faultless c.get.ensures.lookup.3 (search (rules, tests))
