-- Natural numbers in two parts, q * d + r with r below d, above all with a power of two for d.
use Rattle.std.proofs.Common.{◌≡◌, ℕ, suc, ◌+◌, ◌*◌, ◌/◌, ◌%◌, ◌^◌, ◌<◌, ◌≤◌, true, cond, ltb, ◌⊎◌, sym, ap, ◌∙◌, inl, inr, le_of_eq, lt_of_le_of_lt, mul-le-mul_right, mul_assoc, add-mul, le_antisymm, eq-or-lt_of_le, div-add-mod', arith, pow-add, shr-shr}
use lib.Pow.{pow-lt}
use lib.Ieee.{size}
use lib.Ieee.Digits.{size-lt, size-le}
use Rattle.exact.proofs.BitLength.{size_is, size_mono, size_top}

pub parts_below : (q b d r : ℕ) → q < b → r < d → q * d + r < b * d
parts_below q b d r h l = grind arith

-- is it above 0
pub parts_some : (q d r : ℕ) → 0 < d → ltb 0 (q * d + r) ≡ cond (ltb 0 q) true (ltb 0 r)
parts_some q d r h = grind arith

-- r adds no bit
pub size_parts : (n j r : ℕ) → 0 < n → r < 2 ^ j → size (n * 2 ^ j + r) ≡ size n + j
size_parts n j r h l = from_top (size_top n h)
  where
    from_top : ((e : ℕ) × (size n ≡ suc e) × (2 ^ e ≤ n) × (n < 2 ^ suc e)) → size (n * 2 ^ j + r) ≡ size n + j
    from_top (e, s, lo, hi) =
        let a : 2 ^ (e + j) ≤ n * 2 ^ j + r = rw (pow-add 2 e j) (omega (arith, mul-le-mul_right (2 ^ j) lo)) in
        let q : suc e + j ≡ suc (e + j) = omega arith in
        let b : n * 2 ^ j + r < 2 ^ suc (e + j) = rw (← q, pow-add 2 (suc e) j) (parts_below n (2 ^ suc e) (2 ^ j) r hi l) in
        size_is (n * 2 ^ j + r) (e + j) a b ∙ omega arith

-- one more has as many bits, or is the next power of two
pub size_next : (n : ℕ) → (size (n + 1) ≡ size n) ⊎ ((size (n + 1) ≡ suc (size n)) × (n + 1 ≡ 2 ^ size n))
size_next n = elim (eq-or-lt_of_le (size-lt n)) [
  | inl e ↦ let q : n + 1 ≡ 2 ^ size n = omega arith in inr (size_is (n + 1) (size n) (omega arith) (lt_of_le_of_lt (le_of_eq q) (pow-lt (omega arith))), q)
  | inr l ↦ inl (le_antisymm (size-le (n + 1) (size n) (omega arith)) (size_mono n (n + 1) (omega arith)))
]

-- ---- the bits above one, that bit, and those below it
pub split_at_bit : (n i : ℕ) → n ≡ n / 2 ^ suc i * (2 * 2 ^ i) + (n / 2 ^ i % 2 * 2 ^ i + n % 2 ^ i)
split_at_bit n i =
    let a = div-add-mod' n (2 ^ i) in
    let b : n / 2 ^ suc i ≡ n / 2 ^ i / 2 = ap (λ (x : ℕ). n / 2 ^ x) (let e : suc i ≡ i + 1 = omega arith in e) ∙ sym (shr-shr n i 1) in
    let c : n / 2 ^ i ≡ n / 2 ^ i / 2 * 2 + n / 2 ^ i % 2 = omega arith in
    let d : n / 2 ^ i * 2 ^ i ≡ n / 2 ^ i / 2 * 2 * 2 ^ i + n / 2 ^ i % 2 * 2 ^ i = ap (λ (x : ℕ). x * 2 ^ i) c ∙ add-mul (n / 2 ^ i / 2 * 2) (n / 2 ^ i % 2) (2 ^ i) in
    rw b (omega (arith, mul_assoc (n / 2 ^ i / 2) 2 (2 ^ i)))

-- the same with j more bits below
pub split_below_bit : (n i j r : ℕ) → n * 2 ^ j + r ≡ n / 2 ^ suc i * (2 * 2 ^ (i + j)) + (n / 2 ^ i % 2 * 2 ^ (i + j) + (n % 2 ^ i * 2 ^ j + r))
split_below_bit n i j r = rw (pow-add 2 i j) (scaled (n / 2 ^ suc i) (n / 2 ^ i % 2) (n % 2 ^ i) (2 ^ i) (2 ^ j) (split_at_bit n i))
  where
    scaled : (q b m I J : ℕ) → n ≡ q * (2 * I) + (b * I + m) → n * J + r ≡ q * (2 * (I * J)) + (b * (I * J) + (m * J + r))
    scaled q b m I J e =
        let f : n * J ≡ q * (2 * I) * J + (b * I * J + m * J) = ap (λ (x : ℕ). x * J) e ∙ add-mul (q * (2 * I)) (b * I + m) J ∙ ap (λ (x : ℕ). q * (2 * I) * J + x) (add-mul (b * I) m J) in
        let g : q * (2 * I) * J ≡ q * (2 * (I * J)) = mul_assoc q (2 * I) J ∙ ap (λ (x : ℕ). q * x) (mul_assoc 2 I J) in
        let h : b * I * J ≡ b * (I * J) = mul_assoc b I J in
        omega arith
