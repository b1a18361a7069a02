-- The chain gives the numbers of the regular terms.
use Rattle.std.proofs.Common.{rules, tests, arith, length, ◌∙◌}
use Rattle.std.specs.List.{range_with_len}
use Rattle.std.proofs.lemmas.Iterator.{YieldsList-from_range}
use Rattle.std.proofs.lemmas.Iterator.Consumers.{count_from_yields_List, YieldsList-from_filter}
use Rattle.std.proofs.lemmas.List.Sums.{length-filter}
use Rattle.batch.specs.TermKinds.{kind_is_regular}
use Rattle.batch.specs.Lookup.{kind_of_term}
use Rattle.batch.proofs.Regulars.{regulars_asked}
use Rattle.batch.proofs.interface.regular_count.Goals as goal

pub returns : goal.returns
returns g c =
    let ts = g.B.Batch.terms c.args.b.now in
    count_from_yields_List c.filter.result _ c.count-2.ensures.ran
    (YieldsList-from_filter _ (λ i. kind_is_regular (kind_of_term ts i)) (YieldsList-from_range 0 (length ts) (length ts) (search rules) (omega arith)) c.filter.ensures.closure (λ x b q k. search (rules, tests)))
    ∙ length-filter _ (range_with_len 0 (length ts))
    ∙ regulars_asked ts
