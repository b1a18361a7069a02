-- The laws of the walk, each by its proof.
use Rattle.column.proofs.Walking as walking
use Rattle.column.proofs.theory.walk_stands.Goals as goal

pub returns : goal.returns
returns c = record {
  stays = walking.alike_stays;
  next = walking.next_listed;
  starts = walking.walk_starts;
  goes_on = walking.walk_goes_on;
  ends = walking.walk_ends;
}
