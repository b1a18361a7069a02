use Rattle.partial_sum.proofs.Joining.{columns_reached, sums_absorbed}
use Rattle.partial_sum.proofs.theory.ends_stand.Goals as goal

pub returns-clause-reached : goal.returns-clause-reached
returns-clause-reached c = columns_reached

pub returns-clause-absorbed : goal.returns-clause-absorbed
returns-clause-absorbed c = sums_absorbed
