use Rattle.std.proofs.Common.{refl}
use lib.Ieee.{size}
use Rattle.exact.specs.Dyadic.{total}
use Rattle.exact.specs.Claims.{Computes}
use Rattle.exact.proofs.Exponents.{exponent_reached, exponent_above, exponent_≈}
use Rattle.exact.proofs.exponents_stand.Goals as goal

computed : Computes
unfolding total size
computed = record { none = refl; sign = refl; top = refl; long = refl }

pub returns : goal.returns
returns c = record { reached = exponent_reached; above = exponent_above; equals = exponent_≈; computes = computed }
