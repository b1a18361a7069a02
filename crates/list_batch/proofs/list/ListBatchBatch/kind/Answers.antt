-- The kind of the term that is found.
use Rattle.std.proofs.Common.{rules, tests}
use Rattle.batch.specs.TermKinds.{kind_of}
use Rattle.batch.specs.declared.kind.Kind.TheVariants.{Absent}
use Rattle.list_batch.proofs.Places.{answer_spelled}
use Rattle.list_batch.proofs.list.ListBatchBatch.kind.Goals as goal

pub returns : goal.returns
returns g c = answer_spelled kind_of Absent _ c.args.i c.term.result c.map_or.result c.term.ensures (search (rules, tests))
