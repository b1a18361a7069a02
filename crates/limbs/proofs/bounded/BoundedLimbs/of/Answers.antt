-- A number is below two to the power of its length.
use lib.Ieee.Digits.{size-lt}
use Rattle.exact.specs.Limbs.{limbs_value}
use Rattle.limbs.proofs.bounded.BoundedLimbs.of.Goals as goal

pub invariant_of-result : goal.invariant_of-result
invariant_of-result c = record { short = rw c.bit_length-bits.ensures.is (size-lt (limbs_value c.args.limbs.now)) }
