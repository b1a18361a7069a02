-- The exponent of what a sum is rounded to lies in the range of the grids' laws, so that it has no more bits than the grid is wide.
use Rattle.std.proofs.Common.{◌≡◌, ℕ, suc, ◌*◌, ◌^◌, ◌<◌, ◌≤◌, max, ℤ, pos, ◌+ℤ◌, ◌-ℤ◌, neg_ℤ, nat_abs, ◌≤ℤ◌, sym, subst, arith, pow_mono}
use native.Mathlib.Nat.{pow-succ'}
use lib.Ieee.{size}
use lib.Ieee.Digits.{size-lt, size-le}
use borrow.Author.Differences.{ints}
use Rattle.exact.specs.Integers.{is_negative, signed, gap, lesser}
use Rattle.exact.specs.Dyadic.{Dyadic, dyadic, at, Nonzero, distance, exponent}
use Rattle.exact.proofs.Scaling.{lesser_low}
use Rattle.exact.proofs.Order.{at_lt}
use Rattle.exact.proofs.Sums.{at_distance}
use Rattle.exact.proofs.Exponents.{exponent_at, exponent_≈, at_power}
use Rattle.grid.specs.Spacing.{InRange, Lawful, highest}
use Rattle.grid.specs.Rounding.{Mode, whole, way_of, dropped, rounded}
use Rattle.grid.proofs.Dyadics.{weight_rounded}
use Rattle.grid.proofs.Outcomes.{value_in_steps}
use Rattle.grid.proofs.Theorems.{distance as close}

module _ (u : ℤ → ℤ) (W : ℕ) (L : Lawful u W) (m : Mode) (x : Dyadic) (N : Nonzero x) (low : neg_ℤ (pos 1900000000) ≤ℤ exponent x) (high : exponent x ≤ℤ pos 1900000000) where
  abbrev v : Dyadic
  v = (rounded u m x).value

  in_range : InRange (exponent x)
  in_range = omega (arith, ints)

  -- it is less than twice the larger of 2 ^ exponent and one spacing
  not_above : Nonzero v → exponent v ≤ℤ highest
  not_above V =
      let z = lesser x.weight (u (exponent x)) in
      let (a, b) = lesser_low x.weight (u (exponent x)) in
      let A = gap (exponent x) z in
      let B = gap (u (exponent x)) z in
      let w = weight_rounded u m x in
      let c : z ≤ℤ v.weight = omega (arith, ints) in
      let d = at_distance z v x c a in
      let unit : at z (dyadic (pos 1) (u (exponent x))) ≡ pos (2 ^ B) = let e : u (exponent x) ≡ z +ℤ pos B = omega (arith, ints) in subst (λ (t : ℤ). at z (dyadic (pos 1) t) ≡ pos (2 ^ B)) (sym e) (at_power z B) in
      let near = at_lt z (distance v x) (dyadic (pos 1) (u (exponent x))) (omega (arith, ints)) b ((close u W L x N).spacing m) in
      let f : nat_abs (at z v -ℤ at z x) < 2 ^ B = omega (arith, ints) in
      let g = exponent_at z x a N in
      let s : size (nat_abs (at z x)) ≡ A = omega (arith, ints) in
      let h : nat_abs (at z x) < 2 ^ A = subst (λ (k : ℕ). nat_abs (at z x) < 2 ^ k) s (size-lt (nat_abs (at z x))) in
      let T = max A B in
      let p : 2 ^ A ≤ 2 ^ T = pow_mono (omega arith) in
      let q : 2 ^ B ≤ 2 ^ T = pow_mono (omega arith) in
      let t : 2 ^ suc T ≡ 2 * 2 ^ T = pow-succ' 2 T in
      let i : nat_abs (at z v) < 2 ^ suc T = omega (arith, ints) in
      let j = size-le (nat_abs (at z v)) (suc T) i in
      let k = exponent_at z v c V in
      let l = L.below (exponent x) in_range in
      omega (arith, ints)

  -- and a whole multiple of the spacing
  not_below : Nonzero v → u (exponent x) ≤ℤ exponent v
  not_below V =
      let e = exponent_≈ v (dyadic (signed (is_negative x.count) (whole (way_of m (is_negative x.count)) (nat_abs x.count) (2 ^ dropped u x))) (x.weight +ℤ pos (dropped u x))) V (value_in_steps u m x) in
      omega (arith, ints)

  pub few_digits : Nonzero v → gap (exponent v) (u (exponent v)) ≤ W
  few_digits V =
      let a = not_above V in
      let b = not_below V in
      let c = L.narrow (exponent x) in_range in
      let d = L.width_high in
      let e = L.narrow (exponent v) (record { from = omega (arith, ints); upto = a }) in
      omega (arith, ints)
