-- The low weight of the term that is found.
use Rattle.std.proofs.Common.{pos, ◌∙◌, w32, rules, tests}
use Rattle.std.proofs.lemmas.Int.{to_z-of_z}
use Rattle.batch.specs.Term.{low_weight}
use Rattle.list_batch.proofs.Places.{answer_spelled}
use Rattle.list_batch.proofs.list.ListBatchBatch.low.Goals as goal

pub returns : goal.returns
returns g c = to_z-of_z w32 c.map_or.result (search rules) ∙ answer_spelled low_weight (pos 0) _ c.args.i c.term.result c.map_or.result c.term.ensures (search (rules, tests))
