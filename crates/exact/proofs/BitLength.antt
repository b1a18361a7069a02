-- How many binary digits a natural number has.
use Rattle.std.proofs.Common.{◌≡◌, ℕ, zero, suc, ◌+◌, ◌-◌, ◌*◌, ◌^◌, ◌<◌, ◌≤◌, refl, ◌∙◌, subst, lt_of_lt_of_le, lt_of_le_of_lt, mul-le-mul_right, zero-lt-suc, le_antisymm, suc-add, pow-suc, lt_of_not-le, not-le_of_lt, arith, pow_mono, pow-add, shl_lt}
use lib.Count.{count_leading_zeros}
use lib.Ieee.{size}
use lib.Ieee.Digits.{size-lt, size-le, size_reaches}
use Rattle.std.proofs.lemmas.Nat.{leading_length}

pub size_mono : (m n : ℕ) → m ≤ n → size m ≤ size n
size_mono m n h = size-le m (size n) (lt_of_le_of_lt h (size-lt n))

pub size_is : (n e : ℕ) → 2 ^ e ≤ n → n < 2 ^ suc e → size n ≡ suc e
size_is n e lo hi = le_antisymm (size-le n (suc e) hi) (lt_of_not-le (λ (g : size n ≤ e). not-le_of_lt (lt_of_lt_of_le (size-lt n) (pow_mono g)) lo))

-- the power of two below a number that is not 0
pub size_top : (n : ℕ) → 0 < n → (e : ℕ) × (size n ≡ suc e) × (2 ^ e ≤ n) × (n < 2 ^ suc e)
size_top n h = by_size (size n) refl
  where
    by_size : (s : ℕ) → size n ≡ s → (e : ℕ) × (size n ≡ suc e) × (2 ^ e ≤ n) × (n < 2 ^ suc e)
    by_size zero q = absurd (let l : n < 1 = subst (λ (x : ℕ). n < 2 ^ x) q (size-lt n) in omega arith)
    by_size (suc e) q = (e, q, size_reaches n e (omega arith), subst (λ (x : ℕ). n < 2 ^ x) q (size-lt n))

pub size_scale : (n d : ℕ) → 0 < n → size (n * 2 ^ d) ≡ size n + d
size_scale n d h = from_top (size_top n h)
  where
    from_top : ((e : ℕ) × (size n ≡ suc e) × (2 ^ e ≤ n) × (n < 2 ^ suc e)) → size (n * 2 ^ d) ≡ size n + d
    from_top (e, s, lo, hi) =
        let a : 2 ^ (e + d) ≤ n * 2 ^ d = rw (pow-add 2 e d) (mul-le-mul_right (2 ^ d) lo) in
        let b : n * 2 ^ d < 2 ^ suc (e + d) = rw (← suc-add e d) (shl_lt (suc e) d hi) in
        size_is (n * 2 ^ d) (e + d) a b ∙ omega arith

pub size_pos : (n : ℕ) → 0 < n → 0 < size n
size_pos n h = let t = size_top n h in omega (arith, t.1)

pub pos_of_size : (n : ℕ) → 0 < size n → 0 < n
pos_of_size zero h = absurd (omega (arith, size-le 0 0 (omega arith)))
pos_of_size (suc n) h = zero-lt-suc n

-- a word of k bits without its leading zeros
pub size_leading : (k n : ℕ) → n < 2 ^ k → k - count_leading_zeros k n ≡ size n
size_leading k n h = from_length (leading_length k n h)
  where
    by_length : (m : ℕ) → n < 2 ^ m → 2 ^ m ≤ 2 * n + 1 → m ≡ size n
    by_length zero lt ge = le_antisymm (omega arith) (size-le n zero lt)
    by_length (suc m) lt ge = let e = size_is n m (omega (arith, pow-suc 2 m)) lt in omega arith

    from_length : ((m : ℕ) × (count_leading_zeros k n + m ≡ k) × (n < 2 ^ m) × (2 ^ m ≤ 2 * n + 1)) → k - count_leading_zeros k n ≡ size n
    from_length (m, e, lt, ge) = let l = by_length m lt ge in omega arith
