-- All terms of the records, which are few.
use Rattle.std.proofs.Common.{rules}
use Rattle.list_batch.proofs.Places.{count_whole}
use Rattle.list_batch.proofs.list.ListBatchBatch.count.Goals as goal

pub overflow_mul-result : goal.overflow_mul-result
overflow_mul-result g c = let whole = count_whole g.R.Record.lawful c.args.self.now.records.now _ c.TERMS.ensures in let few = c.args.self.now.few in search rules

pub returns : goal.returns
returns g c = count_whole g.R.Record.lawful c.args.self.now.records.now _ c.TERMS.ensures
