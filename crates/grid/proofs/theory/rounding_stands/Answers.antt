use Rattle.grid.proofs.Theorems as theorems
use Rattle.grid.proofs.Widths.{digits}
use Rattle.grid.proofs.Examples.{examples_hold}
use Rattle.grid.proofs.theory.rounding_stands.Goals as goal

pub returns : goal.returns
returns c = record {
  neighbours = theorems.neighbours;
  right = theorems.right;
  distance = theorems.distance;
  monotone = theorems.monotone;
  between = theorems.between;
  apart = theorems.apart;
  exact = theorems.exact;
  enclosure = theorems.enclosure;
  direction = theorems.direction;
  sign = theorems.sign;
  congruent = theorems.congruent;
  digits = digits;
  examples = examples_hold;
}
