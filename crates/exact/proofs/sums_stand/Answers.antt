use Rattle.exact.proofs.Sums.{plus_comm, plus_assoc, plus_mono, plus_negation}
use Rattle.exact.proofs.sums_stand.Goals as goal

pub returns : goal.returns
returns c = record { commutative = plus_comm; associative = plus_assoc; monotone = plus_mono; inverse = plus_negation }
