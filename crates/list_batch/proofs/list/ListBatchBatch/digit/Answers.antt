-- The digit of the term that is found.
use Rattle.std.proofs.Common.{rules, tests}
use Rattle.batch.specs.Term.{digit_at}
use Rattle.list_batch.proofs.Places.{answer_spelled}
use Rattle.list_batch.proofs.list.ListBatchBatch.digit.Goals as goal

pub returns : goal.returns
returns g c = answer_spelled (digit_at c.args.column) 0 _ c.args.i c.term.result c.map_or.result c.term.ensures (search (rules, tests))
