-- The cut bits, with one unit more or not.
use Rattle.std.proofs.Common.{◌≡◌, ℕ, ◌+◌, ◌-◌, ◌*◌, ◌/◌, ◌^◌, ◌<◌, Bool, length, sym, subst, arith}
use Rattle.exact.specs.Limbs.{limbs_value}
use Rattle.exact.proofs.Shifts.{shift_below}
use Rattle.limbs.specs.Bits.{bit}
use Rattle.limbs.specs.Written.{Written}
use Rattle.limbs.proofs.WrittenBits.{cut_at, cut_fits, raised_at, limbs_below}
use Rattle.limbs.proofs.top.write_bits.Goals as goal

pub returns-then-raise : goal.returns-then-raise
returns-then-raise c =
    let n = limbs_value c.args.number.limbs.now in
    let b = c.args.number.bits in
    let p = c.args.precision in
    let q = n * 2 ^ p / 2 ^ b in
    let L = length c.args.limbs.now in
    let a = c.add_unit.new.limbs in
    let cut = cut_at n b p L _ _ c.requires.fits c.copy_top.ensures c.clear_low.ensures in
    let same : length c.clear_low.new.limbs ≡ L = omega arith in
    let still : length a ≡ L = omega arith in
    let sum = subst (λ (y : ℕ). limbs_value a + bit c.add_unit.result * 2 ^ (32 * y) ≡ limbs_value c.clear_low.new.limbs + 2 ^ (32 * L - p)) same c.add_unit.ensures in
    let below = subst (λ (y : ℕ). limbs_value a < 2 ^ (32 * y)) still (limbs_below a (λ i l. (c.type_inv.limbs i).fits)) in
    let w = raised_at q p L _ _ c.add_unit.result c.requires.fits (shift_below n b p c.args.number.short) cut sum below in
    subst (λ (r : Bool). Written (q + bit r) p c.add_unit.result (limbs_value a)) (sym c.if-raise.true) w

pub returns-else-raise : goal.returns-else-raise
returns-else-raise c =
    let n = limbs_value c.args.number.limbs.now in
    let b = c.args.number.bits in
    let p = c.args.precision in
    let cut = cut_at n b p (length c.args.limbs.now) _ _ c.requires.fits c.copy_top.ensures c.clear_low.ensures in
    let below = shift_below n b p c.args.number.short in
    subst (λ (r : Bool). Written (n * 2 ^ p / 2 ^ b + bit r) p r (limbs_value c.clear_low.new.limbs)) (sym c.if-raise.false) (cut_fits (n * 2 ^ p / 2 ^ b) p _ below cut)
