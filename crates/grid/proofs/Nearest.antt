-- The nearest number at one weight: no number of the grid is nearer, and a tie goes to the even multiple.
use Rattle.std.proofs.Common.{◌≡◌, ℕ, suc, ◌+◌, ◌*◌, ◌/◌, ◌%◌, ◌^◌, ◌<◌, ◌≤◌, ℤ, pos, negsuc, ◌+ℤ◌, ◌-ℤ◌, neg_ℤ, nat_abs, ◌≤ℤ◌, ◌<ℤ◌, sym, ap, ◌∙◌, inl, inr, mul-le-mul_right, mod-lt, lt_of_mul-lt-mul_right, div-add-mod', arith, pow_pos}
use native.Mathlib.Decide.{dec_le}
use lib.IntN.{neg_ℤ-+ℤ}
use lib.Ieee.{size}
use lib.Ieee.Nearest.{closest}
use borrow.Author.Differences.{ints}
use Rattle.std.proofs.lemmas.Int.{by_lt_z}
use Rattle.exact.specs.Integers.{scale}
use Rattle.exact.proofs.Scaling.{scale_neg}
use Rattle.exact.proofs.Multiples.{multiple_whole}
use Rattle.exact.proofs.Halves.{either_neighbour, near_ge, near_le, near_low, near_high, tie_even}
use Rattle.grid.specs.Rounding.{near}
use Rattle.grid.specs.Rounding as Rounding
use Rattle.grid.proofs.Magnitudes.{MagnitudeLaws, On, to, above_mult, lower_greatest, higher_least}
use Rattle.grid.proofs.Integers.{round}

-- no number of the grid is nearer: the middle between it and the rounded number lies on its side of n, or at n
module _ (k : ℕ → ℕ) (L : MagnitudeLaws k) (n g : ℕ) (o : On k g) where
  pub nearest_below : g < to near k n → to near k n + g ≤ 2 * n
  nearest_below h =
      let d = 2 ^ k (size n) in
      elim (dec_le g n) [
        | yes l ↦ omega (arith, near_low n d, lower_greatest k L n g o l)
        | no c ↦ absurd (omega (arith, higher_least k L n g o (omega arith), near_le n d (pow_pos (k (size n)))))
      ]

  pub nearest_above : to near k n < g → 2 * n ≤ to near k n + g
  nearest_above h =
      let d = 2 ^ k (size n) in
      elim (dec_le n g) [
        | yes l ↦ omega (arith, near_high n d (pow_pos (k (size n))), higher_least k L n g o l)
        | no c ↦ absurd (omega (arith, lower_greatest k L n g o (omega arith), near_ge n d))
      ]

-- the same of integers
module _ (k : ℕ → ℕ) (L : MagnitudeLaws k) where
  pub nearestℤ_below : (z g : ℤ) → On k (nat_abs g) → g <ℤ round Rounding.nearest k z → (round Rounding.nearest k z +ℤ g) ≤ℤ (z +ℤ z)
  nearestℤ_below (pos a) (pos b) o h = let p = nearest_below k L a b o (omega (arith, ints)) in omega (arith, ints)
  nearestℤ_below (pos a) (negsuc b) o h = omega (arith, ints, near_low a (2 ^ k (size a)))
  nearestℤ_below (negsuc a) (pos b) o h = absurd (omega (arith, ints))
  nearestℤ_below (negsuc a) (negsuc b) o h = let p = nearest_above k L (suc a) (suc b) o (omega (arith, ints)) in omega (arith, ints)

  pub nearestℤ_above : (z g : ℤ) → On k (nat_abs g) → round Rounding.nearest k z <ℤ g → (z +ℤ z) ≤ℤ (round Rounding.nearest k z +ℤ g)
  nearestℤ_above (pos a) (pos b) o h = let p = nearest_above k L a b o (omega (arith, ints)) in omega (arith, ints)
  nearestℤ_above (pos a) (negsuc b) o h = absurd (omega (arith, ints))
  nearestℤ_above (negsuc a) (pos b) o h = omega (arith, ints, near_low (suc a) (2 ^ k (size (suc a))))
  nearestℤ_above (negsuc a) (negsuc b) o h = let p = nearest_below k L (suc a) (suc b) o (omega (arith, ints)) in omega (arith, ints)

-- a tie: another number of the grid is as near
pub tied : (k : ℕ → ℕ) → MagnitudeLaws k → (n g : ℕ) → On k g → ¬ (g ≡ to near k n) → to near k n + g ≡ 2 * n → n % 2 ^ k (size n) * 2 ≡ 2 ^ k (size n)
tied k L n g o a e =
    let d = 2 ^ k (size n) in
    let D = pow_pos (k (size n)) in
    let q = div-add-mod' n d in
    let r = mod-lt n D in
    elim (either_neighbour (n / d) (n % d) d) [
      | inl (c, h) ↦
          let f = rw c at e in
          let b : n ≤ g = omega arith in
          let w : g ≡ g / d * d = multiple_whole g d (above_mult k L n g o b) in
          let z : ¬ (g ≡ n / d * d) = rw c at a in
          let m : n / d < g / d = lt_of_mul-lt-mul_right d (omega arith) in
          omega (arith, mul-le-mul_right d m)
      | inr (c, h) ↦
          let f = rw c at e in
          omega (arith, lower_greatest k L n g o (omega arith))
    ]

-- and then the rounded number is an even multiple
pub tied_even : (k : ℕ → ℕ) → MagnitudeLaws k → (n g : ℕ) → On k g → ¬ (g ≡ to near k n) → to near k n + g ≡ 2 * n → closest n (2 ^ k (size n)) % 2 ≡ 0
tied_even k L n g o a e = tie_even n (2 ^ k (size n)) (tied k L n g o a e)

-- of integers: an even multiple of a spacing that is not 1
abbrev Halved : ℕ → ℕ → Type 0
Halved j v = (h : ℕ) × (v ≡ (h + h) * 2 ^ j) × (0 < j)

abbrev pub EvenAt : ℕ → ℤ → Type 0
EvenAt j v = (q : ℤ) × (v ≡ scale (q +ℤ q) j) × (0 < j)

even_pos : (j v : ℕ) → Halved j v → EvenAt j (pos v)
even_pos j v (h, f, p) = (pos h, ap pos f, p)

even_neg : (j v : ℕ) → Halved j v → EvenAt j (neg_ℤ (pos v))
even_neg j v (h, f, p) =
    (neg_ℤ (pos h), ap (λ (x : ℕ). neg_ℤ (pos x)) f ∙ sym (scale_neg (pos (h + h)) j) ∙ ap (λ (x : ℤ). scale x j) (neg_ℤ-+ℤ (pos h) (pos h)), p)

more_than_one : (j n : ℕ) → n % 2 ^ j * 2 ≡ 2 ^ j → 0 < j
more_than_one j n h = grind (arith, ints)

module _ (k : ℕ → ℕ) (L : MagnitudeLaws k) where
  halved : (n g : ℕ) → On k g → ¬ (g ≡ to near k n) → to near k n + g ≡ 2 * n → Halved (k (size n)) (to near k n)
  halved n g o a e =
      let c = closest n (2 ^ k (size n)) in
      let t = tied_even k L n g o a e in
      (c / 2, ap (λ (x : ℕ). x * 2 ^ k (size n)) (let f : c ≡ c / 2 + c / 2 = omega arith in f), more_than_one (k (size n)) n (tied k L n g o a e))

  pub tiedℤ_even : (z g : ℤ) → On k (nat_abs g) → ¬ (g ≡ round Rounding.nearest k z) → round Rounding.nearest k z +ℤ g ≡ z +ℤ z → EvenAt (k (size (nat_abs z))) (round Rounding.nearest k z)
  tiedℤ_even (pos a) (pos b) o n e = even_pos (k (size a)) (to near k a) (halved a b o (λ q. n (ap pos q)) (omega (arith, ints)))
  tiedℤ_even (pos a) (negsuc b) o n e = absurd (omega (arith, ints, near_low a (2 ^ k (size a))))
  tiedℤ_even (negsuc a) (pos b) o n e =
      even_neg (k (size (suc a))) (to near k (suc a)) (halved (suc a) b o (λ q. omega (arith, ints)) (omega (arith, ints, near_low (suc a) (2 ^ k (size (suc a))))))
  tiedℤ_even (negsuc a) (negsuc b) o n e =
      even_neg (k (size (suc a))) (to near k (suc a)) (halved (suc a) (suc b) o (λ q. n (ap (λ (x : ℕ). neg_ℤ (pos x)) q)) (omega (arith, ints)))

-- ---- by distances
module _ (k : ℕ → ℕ) (L : MagnitudeLaws k) (z g : ℤ) (o : On k (nat_abs g)) where
  pub none_nearer : nat_abs (round Rounding.nearest k z -ℤ z) ≤ nat_abs (g -ℤ z)
  none_nearer =
      let v = round Rounding.nearest k z in
      by_lt_z g v
      (λ l. let p = nearestℤ_below k L z g o l in omega (arith, ints))
      (λ l. by_lt_z v g
      (λ h. let p = nearestℤ_above k L z g o h in omega (arith, ints))
      (λ h. omega (arith, ints)))

  pub as_near_even : ¬ (g ≡ round Rounding.nearest k z) → nat_abs (g -ℤ z) ≡ nat_abs (round Rounding.nearest k z -ℤ z) → EvenAt (k (size (nat_abs z))) (round Rounding.nearest k z)
  as_near_even n e = tiedℤ_even k L z g o n (omega (arith, ints))
