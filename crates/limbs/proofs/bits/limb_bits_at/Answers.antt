-- The bits lie in the limb of the first and in the one above.
use Rattle.std.proofs.Common.{sym}
use Rattle.exact.proofs.LimbBits.{bits_in_two_limbs}
use Rattle.limbs.proofs.bits.limb_bits_at.Goals as goal

pub returns : goal.returns
returns c =
    let bits = bits_in_two_limbs c.args.limbs.now c.args.at (λ i l. (c.type_inv.limbs i).fits) in
    rw (c.bits_of_pair.ensures, c.limb.ensures, c.limb-2.ensures) (sym bits)
