-- The highest of the terms' highest columns is the highest of all below the given one.
use Rattle.std.proofs.Common.{rules}
use borrow.Author.Tests.{tests}
use Rattle.std.proofs.lemmas.Iterator.{YieldsList-from_slice}
use Rattle.std.proofs.lemmas.Iterator.Consumers.{YieldsList-from_filter_map, reduce_from_yields_List}
use Rattle.column.specs.CountedTerms.{listed_parts}
use Rattle.column.specs.Columns.{Occupied}
use Rattle.column.specs.Edges.{picked}
use Rattle.column.specs.Listed.{highest_occupied}
use Rattle.column.specs.Walk.{Highest}
use Rattle.column.proofs.Descent.{first_below_is}
use Rattle.column.proofs.SpannedColumns.{highest_of_all}
use Rattle.column.proofs.counted.CountedTerms.next_column.Goals as goal

pub returns : goal.returns
returns g c =
    let ts = g.B.Batch.terms c.args.batch.now in
    let xs = c.args.self.now.terms.items in
    let b = c.args.below in
    let found = reduce_from_yields_List picked c.filter_map.result c.max.result c.max.ensures.ran
    (YieldsList-from_filter_map {s = c.filter_map.result} _ (highest_occupied ts b) (YieldsList-from_slice {s = c.filter_map.result.iter} xs cc) c.filter_map.ensures.closure
    (λ x r q k. search (rules, tests))) in
    let all : Highest b (Occupied (listed_parts ts c.args.self.now)) c.max.result = rw found (highest_of_all ts b xs) in
    record { next = first_below_is b (listed_parts ts c.args.self.now) c.max.result all; highest = all }
