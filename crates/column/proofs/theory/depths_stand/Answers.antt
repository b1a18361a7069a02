-- The laws of depths, each by its proof.
use Rattle.column.proofs.Depths as depths
use Rattle.column.proofs.Examples.{examples_hold}
use Rattle.column.proofs.theory.depths_stand.Goals as goal

pub returns : goal.returns
returns c = record {
  settled = depths.sum_settled;
  exists = depths.depth_exists;
  none = depths.depth_of_none;
  answer = depths.answer_right;
  examples = examples_hold;
}
