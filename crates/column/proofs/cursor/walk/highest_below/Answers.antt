-- The maximum of what the terms yield.
use Rattle.std.proofs.Common.{rules}
use borrow.Author.Tests.{tests}
use Rattle.std.proofs.lemmas.Iterator.{YieldsList-from_slice}
use Rattle.std.proofs.lemmas.Iterator.Consumers.{YieldsList-from_filter_map, reduce_from_yields_List}
use Rattle.column.specs.Edges.{highest_below, picked}
use Rattle.column.proofs.cursor.walk.highest_below.Goals as goal

pub returns : goal.returns
returns c =
    reduce_from_yields_List picked c.filter_map.result c.max.result c.max.ensures.ran
    (YieldsList-from_filter_map {s = c.filter_map.result} _ (highest_below c.args.column) (YieldsList-from_slice {s = c.filter_map.result.iter} c.args.terms.now cc) c.filter_map.ensures.closure
    (λ x r q k. search (rules, tests)))
