-- A number of p digits, shifted up to the top of the limbs that p digits take.
use Rattle.std.proofs.Common.{◌≡◌, ℕ, ◌+◌, ◌-◌, ◌*◌, ◌/◌, ◌%◌, ◌^◌, ◌<◌, ◌≤◌, get_or, ℤ, pos, ◌+ℤ◌, ◌-ℤ◌, sym, ap, ◌∙◌, ap₂, mul-le-mul_right, arith, pow_pos, pow-add, shl_lt}
use Rattle.std.proofs.lemmas.Int.{ints}
use Rattle.std.proofs.lemmas.Nat.{le-div, div_below}
use Rattle.std.proofs.Math.Nat.{mul-mod_left}
use Rattle.std.specs.Float.Ieee.{size}
use lib.Ieee.Digits.{size-lt}
use Rattle.exact.specs.Integers.{gap}
use Rattle.exact.proofs.BitLength.{size_top, pos_of_size}
use Rattle.exact.proofs.Shifts.{low_bits_of_low}
use Rattle.batch.specs.Term.{whole_units}
use Rattle.limb_batch.specs.Records.{limbs_for, spare_bits}
use Rattle.term_writer.specs.Lines.{significand_of}
use Rattle.term_writer.proofs.Limbs.{get_or-limbs_of}

-- it is what stands from the weight of the lowest bit of the limbs on
pub units_from_lowest : (m p : ℕ) (q : ℤ) → whole_units m q ((q +ℤ pos p) -ℤ pos (32 * limbs_for p)) ≡ m * 2 ^ spare_bits p
units_from_lowest m p q =
    let w = (q +ℤ pos p) -ℤ pos (32 * limbs_for p) in
    let up : gap q w ≡ spare_bits p = omega (arith, ints) in
    let down : gap w q ≡ 0 = omega (arith, ints) in
    ap₂ (λ (x y : ℕ). m * 2 ^ x / 2 ^ y) up down ∙ omega arith

-- it fits the limbs
pub significand_fits : (m : ℕ) → m * 2 ^ spare_bits (size m) < 2 ^ (32 * limbs_for (size m))
significand_fits m =
    let e : size m + spare_bits (size m) ≡ 32 * limbs_for (size m) = omega arith in
    omega (arith, shl_lt (size m) (spare_bits (size m)) (size-lt m), ap (λ k. 2 ^ k) e)

-- and its first digit is the top bit of the last of them
pub top_bit_set : (m : ℕ) → 0 < size m → 2 ^ 31 ≤ get_or (significand_of m (size m)) (limbs_for (size m) - 1) 0
top_bit_set m h =
    let p = size m in
    let k = limbs_for p - 1 in
    let v = m * 2 ^ spare_bits p in
    let (e, is, reached, below) = size_top m (pos_of_size m h) in
    let top : 2 ^ 31 * 2 ^ (32 * k) ≡ 2 ^ e * 2 ^ spare_bits p =
    sym (pow-add 2 31 (32 * k)) ∙ ap (λ y. 2 ^ y) (let a : 31 + 32 * k ≡ e + spare_bits p = omega arith in a) ∙ pow-add 2 e (spare_bits p) in
    let whole : 2 ^ (32 * limbs_for p) ≡ 2 ^ 32 * 2 ^ (32 * k) =
    ap (λ y. 2 ^ y) (let a : 32 * limbs_for p ≡ 32 + 32 * k = omega arith in a) ∙ pow-add 2 32 (32 * k) in
    let low = le-div (2 ^ 31) v (2 ^ (32 * k)) (pow_pos (32 * k)) (omega (arith, top, mul-le-mul_right (2 ^ spare_bits p) reached)) in
    let high = div_below v (2 ^ (32 * k)) (2 ^ 32) (pow_pos (32 * k)) (omega (arith, whole, significand_fits m)) in
    omega (arith, get_or-limbs_of (limbs_for p) v k (omega arith), low, high)

-- below its last digit the bits are 0
pub low_bits_clear : (m : ℕ) → 0 < size m → get_or (significand_of m (size m)) 0 0 % 2 ^ spare_bits (size m) ≡ 0
low_bits_clear m h =
    let s = spare_bits (size m) in
    let v = m * 2 ^ s in
    let first : get_or (significand_of m (size m)) 0 0 ≡ v % 4294967296 = get_or-limbs_of (limbs_for (size m)) v 0 (omega arith) ∙ omega arith in
    ap (λ y. y % 2 ^ s) first ∙ low_bits_of_low v s (omega arith) ∙ mul-mod_left m (2 ^ s)
