-- The worked entries come out as written.
use Rattle.std.proofs.Common.{arith}
use borrow.Author.Differences.{ints}
use Rattle.exact.specs.Dyadic.{total}
use Rattle.grid.specs.Rounding.{rounded}
use Rattle.column.specs.Columns.{columns}
use Rattle.column.specs.Depth.{depth}
use Rattle.answers.specs.Published.{answer}
use Rattle.answers.specs.Examples.{EntriesHold}

pub entries_hold : EntriesHold
unfolding total rounded columns depth answer
entries_hold = grind (arith, ints)
