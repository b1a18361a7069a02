-- The worked examples hold: each list of columns and each depth is computed.
use Rattle.std.proofs.Common.{arith}
use borrow.Author.Differences.{ints}
use Rattle.grid.specs.Rounding.{rounded}
use Rattle.column.specs.Columns.{columns}
use Rattle.column.specs.Depth.{depth}
use Rattle.column.specs.Examples.{ExamplesHold}

pub examples_hold : ExamplesHold
unfolding rounded columns depth
examples_hold = grind (arith, ints)
