use Rattle.exact.proofs.Order.{≤ᴰ_trans, ≈ᴰ_refl, ≈ᴰ_sym, ≈ᴰ_trans}
use Rattle.exact.proofs.order_stands.Goals as goal

pub returns-clause-transitive : goal.returns-clause-transitive
returns-clause-transitive c = ≤ᴰ_trans

pub returns-clause-equivalence : goal.returns-clause-equivalence
returns-clause-equivalence c = record { reflexive = ≈ᴰ_refl; symmetric = ≈ᴰ_sym; transitive = ≈ᴰ_trans }
