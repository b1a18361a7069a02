-- The top weight of the regular record that is found.
use Rattle.std.proofs.Common.{pos, refl, ◌∙◌, w32, rules, tests}
use Rattle.std.proofs.lemmas.Int.{to_z-of_z}
use Rattle.batch.specs.Term.{top_weight}
use Rattle.batch.proofs.Lookups.{top_none}
use Rattle.limb_batch.proofs.RecordTerms.{answer_found}
use Rattle.limb_batch.proofs.opened.LimbBatchBatch.top.Goals as goal

pub returns : goal.returns
returns c =
    to_z-of_z w32 c.map_or.result (search rules)
    ∙ answer_found top_weight (pos 0) top_none _ c.args.i c.regular_record.result c.map_or.result (λ s r. refl) c.regular_record.ensures (search (rules, tests))
