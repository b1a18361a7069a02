-- Rounding of natural numbers to a grid at one weight: the numbers of e digits that it has are the multiples of 2 ^ k(e).
use Rattle.std.proofs.Common.{◌≡◌, ℕ, suc, ◌+◌, ◌-◌, ◌*◌, ◌/◌, ◌%◌, ◌^◌, ◌<◌, ◌≤◌, ◌⊎◌, sym, ap, ◌∙◌, subst, inl, inr, le_trans, le_of_eq, lt_of_lt_of_le, lt_of_le_of_lt, le_of_lt, mul-le-mul_right, eq-zero-or-pos, eq-or-lt_of_le, zero-mul, arith, pow_pos, pow_mono, div-mul-le_self}
use native.Mathlib.Nat.{mul-mod_left, zero-mod, div-eq_of_lt, mod_self}
use native.Mathlib.Decide.{dec_le, le_ind}
use lib.Pow.{pow-lt}
use lib.Ieee.{size}
use lib.Ieee.Digits.{size-lt, size_reaches}
use lib.Ieee.Nearest.{closest_mono}
use Rattle.exact.proofs.BitLength.{size_mono, size_is}
use Rattle.exact.proofs.Multiples.{pow_multiple, multiple_coarser, multiple_ge, le_cut, away_ge, away_le}
use Rattle.exact.proofs.Halves.{near_ge, near_le, closest_either}
use Rattle.grid.specs.Rounding.{Way, near, cut, away, multiple}

-- the laws of a spacing k
pub record MagnitudeLaws (k : ℕ → ℕ) : Type 0 where
  pub rises : (e : ℕ) → k e ≤ k (suc e)
  pub inside : (e : ℕ) → k e < e → k (suc e) ≤ e
  pub flat : (e f : ℕ) → e ≤ k e → f ≤ suc (k e) → k f ≡ k e

-- n is on the grid
abbrev pub On : (ℕ → ℕ) → ℕ → Type 0
On k n = n % 2 ^ k (size n) ≡ 0

-- n rounded at its own spacing
abbrev pub to : Way → (ℕ → ℕ) → ℕ → ℕ
to w k n = multiple w (k (size n)) n

module _ (k : ℕ → ℕ) (L : MagnitudeLaws k) where
  pub k_mono : (e f : ℕ) → e ≤ f → k e ≤ k f
  k_mono e f h = le_ind (λ (m : ℕ). k e ≤ k m) (omega arith) (λ m g p. le_trans p (L.rises m)) f h

  -- 2 ^ e is on the grid if its spacing is no more
  pub pow_on : (e : ℕ) → k (suc e) ≤ e → On k (2 ^ e)
  pow_on e h =
      let s : size (2 ^ e) ≡ suc e = size_is (2 ^ e) e (omega arith) (pow-lt (omega arith)) in
      subst (λ (x : ℕ). 2 ^ e % 2 ^ k x ≡ 0) (sym s) (pow_multiple e (k (suc e)) h)

  -- the numbers of the grid from n on are multiples of n's spacing
  pub above_mult : (n g : ℕ) → On k g → n ≤ g → g % 2 ^ k (size n) ≡ 0
  above_mult n g o h = multiple_coarser g (k (size g)) (k (size n)) (k_mono (size n) (size g) (size_mono n g h)) o

  -- those up to n are too, or lie below n's leading power, which is one
  pub below_mult : (n g : ℕ) → On k g → g ≤ n → (g % 2 ^ k (size n) ≡ 0) ⊎ ((e : ℕ) × (size n ≡ suc e) × (g < 2 ^ e) × (k (suc e) ≤ e))
  below_mult n g o h = elim (dec_le (size n) (k (size n))) [
    | yes c ↦ inl (subst (λ (x : ℕ). g % 2 ^ x ≡ 0) (L.flat (size n) (size g) c (omega (arith, size_mono g n h))) o)
    | no c ↦ elim (eq-or-lt_of_le (size_mono g n h)) [
      | inl e ↦ inl (subst (λ (x : ℕ). g % 2 ^ k x ≡ 0) e o)
      | inr l ↦ inr (size n - 1, omega arith, lt_of_lt_of_le (size-lt g) (pow_mono (omega arith)), let e : suc (size n - 1) ≡ size n = omega arith in rw e (omega arith))
    ]
  ]

  -- from the leading power on
  pub lead_lower : (n e : ℕ) → size n ≡ suc e → k (size n) ≤ e → 2 ^ e ≤ to cut k n
  lead_lower n e s h = le_cut n (2 ^ k (size n)) (2 ^ e) (pow_pos (k (size n))) (pow_multiple e (k (size n)) h) (size_reaches n e (omega arith))

  pub lower_on : (n : ℕ) → On k (to cut k n)
  lower_on n =
      let K = k (size n) in
      let m : to cut k n % 2 ^ K ≡ 0 = mul-mod_left (n / 2 ^ K) (2 ^ K) in
      elim (dec_le (size n) K) [
        | yes c ↦
            let l : n < 2 ^ K = lt_of_lt_of_le (size-lt n) (pow_mono c) in
            let z : to cut k n ≡ 0 = ap (λ (x : ℕ). x * 2 ^ K) (div-eq_of_lt l) ∙ zero-mul (2 ^ K) in
            rw z (zero-mod (2 ^ k (size 0)))
        | no c ↦
            let e = size n - 1 in
            let q : size n ≡ suc e = omega arith in
            let s : size (to cut k n) ≡ size n =
            size_is (to cut k n) e (lead_lower n e q (omega arith)) (lt_of_le_of_lt (div-mul-le_self n (2 ^ K)) (subst (λ (x : ℕ). n < 2 ^ x) q (size-lt n))) ∙ sym q in
            subst (λ (x : ℕ). to cut k n % 2 ^ k x ≡ 0) (sym s) m
      ]

  pub higher_on : (n : ℕ) → On k (to away k n)
  higher_on n =
      let K = k (size n) in
      let P = pow_pos K in
      let m : to away k n % 2 ^ K ≡ 0 = mul-mod_left ((n + (2 ^ K - 1)) / 2 ^ K) (2 ^ K) in
      let g : n ≤ to away k n = away_ge n (2 ^ K) P in
      elim (dec_le (size n) K) [
        | yes c ↦
            let l : n < 2 ^ K = lt_of_lt_of_le (size-lt n) (pow_mono c) in
            elim (eq-zero-or-pos n) [
              | inl z ↦
                  let b : to away k n ≤ 0 = away_le n (2 ^ K) 0 P (zero-mod (2 ^ K)) (omega arith) in
                  let y : to away k n ≡ 0 = omega arith in
                  rw y (zero-mod (2 ^ k (size 0)))
              | inr p ↦
                  let b : to away k n ≤ 2 ^ K = away_le n (2 ^ K) (2 ^ K) P (mod_self (2 ^ K)) (omega arith) in
                  let a : 2 ^ K ≤ to away k n = multiple_ge (to away k n) (2 ^ K) m (omega arith) in
                  let y : to away k n ≡ 2 ^ K = omega arith in
                  rw y (pow_on K (le_of_eq (L.flat (size n) (suc K) c (omega arith))))
            ]
        | no c ↦
            let e = size n - 1 in
            let q : size n ≡ suc e = omega arith in
            let lo : 2 ^ e ≤ n = size_reaches n e (omega arith) in
            let f : 2 ^ suc e % 2 ^ K ≡ 0 = pow_multiple (suc e) K (omega arith) in
            let b : to away k n ≤ 2 ^ suc e = away_le n (2 ^ K) (2 ^ suc e) P f (le_of_lt (subst (λ (x : ℕ). n < 2 ^ x) q (size-lt n))) in
            elim (eq-or-lt_of_le b) [
              | inl y ↦ rw y (pow_on (suc e) (L.inside (suc e) (subst (λ (x : ℕ). k x < x) q (omega arith))))
              | inr l ↦
                  let s : size (to away k n) ≡ size n = size_is (to away k n) e (le_trans lo g) l ∙ sym q in
                  subst (λ (x : ℕ). to away k n % 2 ^ k x ≡ 0) (sym s) m
            ]
      ]

  pub near_on : (n : ℕ) → On k (to near k n)
  near_on n = elim (closest_either n (2 ^ k (size n)) (pow_pos (k (size n)))) [
    | inl e ↦ rw e (lower_on n)
    | inr e ↦ rw e (higher_on n)
  ]

  -- the greatest up to n, and the least from n on
  pub lower_greatest : (n g : ℕ) → On k g → g ≤ n → g ≤ to cut k n
  lower_greatest n g o h = elim (below_mult n g o h) [
    | inl m ↦ le_cut n (2 ^ k (size n)) g (pow_pos (k (size n))) m h
    | inr (e, s, l, b) ↦ let q : k (size n) ≤ e = rw s b in omega (arith, lead_lower n e s q)
  ]

  pub higher_least : (n g : ℕ) → On k g → n ≤ g → to away k n ≤ g
  higher_least n g o h = away_le n (2 ^ k (size n)) g (pow_pos (k (size n))) (above_mult n g o h) h

  -- ---- a larger number rounds to one that is no smaller
  pub lower_mono : (m n : ℕ) → m ≤ n → to cut k m ≤ to cut k n
  lower_mono m n h = lower_greatest n (to cut k m) (lower_on m) (le_trans (div-mul-le_self m (2 ^ k (size m))) h)

  pub higher_mono : (m n : ℕ) → m ≤ n → to away k m ≤ to away k n
  higher_mono m n h = higher_least m (to away k n) (higher_on n) (le_trans h (away_ge n (2 ^ k (size n)) (pow_pos (k (size n)))))

  pub near_mono : (m n : ℕ) → m ≤ n → to near k m ≤ to near k n
  near_mono m n h =
      let K = k (size n) in
      let alike : k (size m) ≡ K → to near k m ≤ to near k n = λ e.
      rw e (mul-le-mul_right (2 ^ K) (closest_mono m (2 ^ K) n (2 ^ K) (pow_pos K) (pow_pos K) (mul-le-mul_right (2 ^ K) h))) in
      elim (dec_le (size n) K) [
        | yes c ↦ alike (L.flat (size n) (size m) c (omega (arith, size_mono m n h)))
        | no c ↦ elim (eq-or-lt_of_le (size_mono m n h)) [
          | inl e ↦ alike (ap k e)
          | inr l ↦
              let e = size n - 1 in
              let q : size n ≡ suc e = omega arith in
              let o : On k (2 ^ e) = pow_on e (subst (λ (x : ℕ). k x ≤ e) q (omega arith)) in
              let b : m ≤ 2 ^ e = le_of_lt (lt_of_lt_of_le (size-lt m) (pow_mono (omega arith))) in
              le_trans (near_le m (2 ^ k (size m)) (pow_pos (k (size m))))
              (le_trans (higher_least m (2 ^ e) o b)
              (le_trans (lead_lower n e q (omega arith)) (near_ge n (2 ^ K))))
        ]
      ]

  pub to_mono : (w : Way) (m n : ℕ) → m ≤ n → to w k m ≤ to w k n
  to_mono near m n h = near_mono m n h
  to_mono cut m n h = lower_mono m n h
  to_mono away m n h = higher_mono m n h
