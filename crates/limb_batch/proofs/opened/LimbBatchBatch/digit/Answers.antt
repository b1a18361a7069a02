-- The digit of the regular record that is found.
use Rattle.std.proofs.Common.{refl, rules, tests}
use Rattle.batch.specs.Term.{digit_at}
use Rattle.batch.proofs.Lookups.{digit_none}
use Rattle.limb_batch.proofs.RecordTerms.{answer_found}
use Rattle.limb_batch.proofs.opened.LimbBatchBatch.digit.Goals as goal

pub returns : goal.returns
returns c =
    let k = c.args.column in
    answer_found (digit_at k) 0 (digit_none k) _ c.args.i c.regular_record.result c.map_or.result (λ s r. refl) c.regular_record.ensures (search (rules, tests))
