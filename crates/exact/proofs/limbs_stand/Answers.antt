use Rattle.exact.proofs.Limbs.{limbs_lt}
use Rattle.exact.proofs.limbs_stand.Goals as goal

pub returns : goal.returns
returns c = record { bounded = limbs_lt }
