-- A natural number times one power of two, from another power of two on, and its lowest bits.
use Rattle.std.proofs.Common.{◌≡◌, ℕ, suc, ◌+◌, ◌-◌, ◌*◌, ◌/◌, ◌%◌, ◌^◌, ◌<◌, ◌≤◌, sym, ap, ◌∙◌, subst, mul-le-mul_right, mul_assoc, mul_comm, mul-lt-mul_of_pos_right, pow-suc, arith, pow_pos, pow-add}
use Rattle.std.proofs.lemmas.Grind.{common_steps}
use native.Mathlib.Nat.{add-mul-mod_self_right, mul-div-mul_right}
use lib.Ieee.{size}
use lib.Pow.{shl-shr, mod-mod-pow}
use Rattle.std.proofs.lemmas.Nat.{field_of, le-div}
use Rattle.exact.proofs.BitLength.{size_top}
use Rattle.exact.proofs.Multiples.{pow_split}

pub shift_down : (n a b : ℕ) → a ≤ b → n * 2 ^ a / 2 ^ b ≡ n / 2 ^ (b - a)
shift_down n a b h = ap (λ (y : ℕ). n * 2 ^ a / y) (pow_split b a h) ∙ mul-div-mul_right n (2 ^ (b - a)) (pow_pos a)

pub shift_up : (n a b : ℕ) → b ≤ a → n * 2 ^ a / 2 ^ b ≡ n * 2 ^ (a - b)
shift_up n a b h = ap (λ (y : ℕ). n * y / 2 ^ b) (pow_split a b h) ∙ ap (λ (y : ℕ). y / 2 ^ b) (sym (mul_assoc n (2 ^ (a - b)) (2 ^ b))) ∙ shl-shr (n * 2 ^ (a - b)) b

pub shift_both : (n a b d : ℕ) → n * 2 ^ (a + d) / 2 ^ (b + d) ≡ n * 2 ^ a / 2 ^ b
shift_both n a b d =
    ap (λ (y : ℕ). n * y / 2 ^ (b + d)) (pow-add 2 a d) ∙ ap (λ (y : ℕ). n * (2 ^ a * 2 ^ d) / y) (pow-add 2 b d)
    ∙ ap (λ (y : ℕ). y / (2 ^ b * 2 ^ d)) (sym (mul_assoc n (2 ^ a) (2 ^ d))) ∙ mul-div-mul_right (n * 2 ^ a) (2 ^ b) (pow_pos d)

-- a number of b bits leaves k bits of k more
pub shift_below : (n b k : ℕ) → n < 2 ^ b → n * 2 ^ k / 2 ^ b < 2 ^ k
shift_below n b k h = grind (arith, mul-lt-mul_of_pos_right h (pow_pos k), mul_comm (2 ^ b) (2 ^ k))

-- the first p bits of a number that is not 0 have the highest bit
pub first_bits_full : (n p : ℕ) → 0 < p → 0 < n → 2 ^ p ≤ 2 * (n * 2 ^ p / 2 ^ size n)
first_bits_full n p h g = from_top (size_top n g)
  where
    from_top : ((e : ℕ) × (size n ≡ suc e) × (2 ^ e ≤ n) × (n < 2 ^ suc e)) → 2 ^ p ≤ 2 * (n * 2 ^ p / 2 ^ size n)
    from_top (e, s, lo, hi) =
        let q : 2 ^ (p - 1) * 2 ^ size n ≡ 2 ^ e * 2 ^ p = sym (pow-add 2 (p - 1) (size n)) ∙ ap (λ (y : ℕ). 2 ^ y) (let q : p - 1 + size n ≡ e + p = omega arith in q) ∙ pow-add 2 e p in
        let a : 2 ^ (p - 1) * 2 ^ size n ≤ n * 2 ^ p = omega (arith, mul-le-mul_right (2 ^ p) lo) in
        let b = le-div (2 ^ (p - 1)) (n * 2 ^ p) (2 ^ size n) (pow_pos (size n)) a in
        let c : 2 ^ p ≡ 2 ^ (p - 1) * 2 = ap (λ (y : ℕ). 2 ^ y) (let q : p ≡ suc (p - 1) = omega arith in q) ∙ pow-suc 2 (p - 1) in
        omega arith

pub half_power : (k : ℕ) → 0 < k → 2 ^ k / 2 ≡ 2 ^ (k - 1)
half_power k h = grind (arith, common_steps)

-- ---- the lowest 32 bits
pub low_bits_of_low : (n s : ℕ) → s ≤ 32 → n % 4294967296 % 2 ^ s ≡ n % 2 ^ s
low_bits_of_low n s h = subst (λ (y : ℕ). n % 2 ^ y % 2 ^ s ≡ n % 2 ^ s) (let e : 32 - s + s ≡ 32 = omega arith in e) (mod-mod-pow n (32 - s) s)

-- 32 bits from a bit below 32 on: what is above 2 ^ 64 does not matter
pub bits_of_low : (a t s : ℕ) → s < 32 → (a + t * 18446744073709551616) / 2 ^ s % 4294967296 ≡ a / 2 ^ s % 4294967296
bits_of_low a t s h =
    let p : 18446744073709551616 ≡ 2 ^ (32 - s) * 2 ^ (32 + s) = ap (λ (y : ℕ). 2 ^ y) (let e : 64 ≡ 32 - s + (32 + s) = omega arith in e) ∙ pow-add 2 (32 - s) (32 + s) in
    let q : t * 18446744073709551616 ≡ t * 2 ^ (32 - s) * 2 ^ (32 + s) = ap (λ (y : ℕ). t * y) p ∙ sym (mul_assoc t (2 ^ (32 - s)) (2 ^ (32 + s))) in
    sym (field_of (a + t * 18446744073709551616) 32 s)
    ∙ ap (λ (y : ℕ). (a + y) % 2 ^ (32 + s) / 2 ^ s) q
    ∙ ap (λ (y : ℕ). y / 2 ^ s) (add-mul-mod_self_right a (t * 2 ^ (32 - s)) (2 ^ (32 + s)))
    ∙ field_of a 32 s
