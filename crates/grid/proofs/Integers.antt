-- Rounding of integers to a grid at one weight.
use Rattle.std.proofs.Common.{ℕ, suc, ◌^◌, true, false, ℤ, pos, negsuc, nat_abs, ◌≤ℤ◌, arith, pow_pos, div-mul-le_self}
use lib.Ieee.{size}
use borrow.Author.Differences.{ints}
use Rattle.exact.proofs.Integers.{abs_neg, neg_mono}
use Rattle.exact.proofs.Multiples.{away_ge}
use Rattle.grid.specs.Rounding.{Mode, nearest, downward, upward, near, cut, away, way_of, to_multiple}
use Rattle.grid.proofs.Magnitudes.{MagnitudeLaws, On, to, to_mono, lower_on, higher_on, near_on, lower_greatest, higher_least}

-- an integer rounded at its own spacing
abbrev pub round : Mode → (ℕ → ℕ) → ℤ → ℤ
round m k z = to_multiple m (k (size (nat_abs z))) z

module _ (k : ℕ → ℕ) (L : MagnitudeLaws k) where
  pub round_mono : (m : Mode) (x y : ℤ) → x ≤ℤ y → round m k x ≤ℤ round m k y
  round_mono m (pos a) (pos b) h = let l = to_mono k L (way_of m false) a b (omega (arith, ints)) in omega (arith, ints)
  round_mono m (pos a) (negsuc b) h = absurd h.le
  round_mono m (negsuc a) (pos b) h = omega (arith, ints)
  round_mono m (negsuc a) (negsuc b) h = neg_mono _ _ (to_mono k L (way_of m true) (suc b) (suc a) (omega (arith, ints)))

  -- ---- downward: the greatest number of the grid up to z
  pub down_on : (z : ℤ) → On k (nat_abs (round downward k z))
  down_on (pos a) = lower_on k L a
  down_on (negsuc a) = rw (abs_neg (to away k (suc a))) (higher_on k L (suc a))

  pub down_le : (z : ℤ) → round downward k z ≤ℤ z
  down_le (pos a) = omega (arith, ints, div-mul-le_self a (2 ^ k (size a)))
  down_le (negsuc a) = omega (arith, ints, away_ge (suc a) (2 ^ k (size (suc a))) (pow_pos (k (size (suc a)))))

  pub down_greatest : (z g : ℤ) → On k (nat_abs g) → g ≤ℤ z → g ≤ℤ round downward k z
  down_greatest (pos a) (pos g) o h = let l = lower_greatest k L a g o (omega (arith, ints)) in omega (arith, ints)
  down_greatest (pos a) (negsuc g) o h = omega (arith, ints)
  down_greatest (negsuc a) (pos g) o h = absurd h.le
  down_greatest (negsuc a) (negsuc g) o h = let l = higher_least k L (suc a) (suc g) o (omega (arith, ints)) in omega (arith, ints)

  -- ---- upward: the least number of the grid from z on
  pub up_on : (z : ℤ) → On k (nat_abs (round upward k z))
  up_on (pos a) = higher_on k L a
  up_on (negsuc a) = rw (abs_neg (to cut k (suc a))) (lower_on k L (suc a))

  pub up_ge : (z : ℤ) → z ≤ℤ round upward k z
  up_ge (pos a) = omega (arith, ints, away_ge a (2 ^ k (size a)) (pow_pos (k (size a))))
  up_ge (negsuc a) = omega (arith, ints, div-mul-le_self (suc a) (2 ^ k (size (suc a))))

  pub up_least : (z g : ℤ) → On k (nat_abs g) → z ≤ℤ g → round upward k z ≤ℤ g
  up_least (pos a) (pos g) o h = let l = higher_least k L a g o (omega (arith, ints)) in omega (arith, ints)
  up_least (pos a) (negsuc g) o h = absurd h.le
  up_least (negsuc a) (pos g) o h = omega (arith, ints)
  up_least (negsuc a) (negsuc g) o h = let l = lower_greatest k L (suc a) (suc g) o (omega (arith, ints)) in omega (arith, ints)

  -- ---- to the nearest: a number of the grid
  pub nearest_on : (z : ℤ) → On k (nat_abs (round nearest k z))
  nearest_on (pos n) = near_on k L n
  nearest_on (negsuc n) = rw (abs_neg (to near k (suc n))) (near_on k L (suc n))
