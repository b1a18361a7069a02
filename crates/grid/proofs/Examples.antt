-- The worked examples hold: each part of each answer is computed.
use Rattle.std.proofs.Common.{arith}
use Rattle.grid.specs.Rounding.{rounded}
use Rattle.grid.specs.Examples.{ExamplesHold}

pub examples_hold : ExamplesHold
unfolding rounded
examples_hold = grind arith
