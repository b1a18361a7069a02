-- A finer weight changes no rounding: n * 2 ^ d at spacing k + d is n at spacing k, times 2 ^ d.
use Rattle.std.proofs.Common.{◌≡◌, ℕ, ◌+◌, ◌-◌, ◌*◌, ◌/◌, ◌%◌, ◌^◌, ◌<◌, ◌≤◌, sym, ap, ◌∙◌, le_trans, le_of_lt, mul-le-mul_right, mul_assoc, mul_comm, mul-pos, div-mul-le_self, le_of_mul-le-mul_right, arith, pow_pos, pow_mono, pow-add, div-mul-le_self}
use Rattle.std.proofs.lemmas.Grind.{common_steps}
use borrow.Author.Differences.{ints}
use native.Mathlib.Nat.{mul-div-mul_right, mul-mod_left, div-eq_of_lt-le}
use lib.Ieee.{size}
use lib.Ieee.Digits.{size-lt}
use lib.Ieee.Nearest.{closest_same}
use Rattle.exact.proofs.Multiples.{away_ge, away_le}
use Rattle.grid.specs.Rounding.{Way, near, cut, away, whole, multiple}

-- a multiple rounds to itself
pub multiple_exact : (w : Way) (k n : ℕ) → n % 2 ^ k ≡ 0 → multiple w k n ≡ n
multiple_exact w k n h = grind arith

whole_scale : (w : Way) (n c d : ℕ) → 0 < c → 0 < d → whole w (n * d) (c * d) ≡ whole w n c
whole_scale near n c d C D = closest_same (n * d) (c * d) n c (mul-pos C D) C (simp (mul_assoc, mul_comm))
whole_scale cut n c d C D = mul-div-mul_right n c D
whole_scale away n c d C D =
    let q = (n + (c - 1)) / c in
    let a : q * c + 1 ≤ n + c = omega (arith, div-mul-le_self (n + (c - 1)) c) in
    let b : n ≤ q * c = away_ge n c C in
    div-eq_of_lt-le {k = q} (c * d) (omega (arith, mul-le-mul_right d a)) (omega (arith, mul-le-mul_right d b, mul-pos C D))

pub multiple_scale : (w : Way) (k n d : ℕ) → multiple w (k + d) (n * 2 ^ d) ≡ multiple w k n * 2 ^ d
multiple_scale w k n d =
    rw (pow-add 2 k d) (ap (λ (x : ℕ). x * (2 ^ k * 2 ^ d)) (whole_scale w n (2 ^ k) (2 ^ d) (pow_pos k) (pow_pos d)) ∙ sym (mul_assoc (whole w n (2 ^ k)) (2 ^ k) (2 ^ d)))

-- ---- a rounded number is at most 2 ^ (size - k) steps of 2 ^ k
whole_le_away : (w : Way) (n d : ℕ) → 0 < d → whole w n d * d ≤ (n + (d - 1)) / d * d
whole_le_away w n d h = grind (arith, ints, common_steps)

pub whole_le : (w : Way) (k n : ℕ) → whole w n (2 ^ k) ≤ 2 ^ (size n - k)
whole_le w k n =
    let g = 2 ^ (size n - k) * 2 ^ k in
    let b : n ≤ g = le_trans (le_of_lt (size-lt n)) (rw (← pow-add 2 (size n - k) k) (pow_mono (omega arith))) in
    le_of_mul-le-mul_right {k = 2 ^ k} (omega (arith, whole_le_away w n (2 ^ k) (pow_pos k), away_le n (2 ^ k) g (pow_pos k) (mul-mod_left (2 ^ (size n - k)) (2 ^ k)) b)) (pow_pos k)
