-- How far an answer lies from the number that was rounded.
use Rattle.std.proofs.Common.{◌≡◌, ℕ, suc, ◌+◌, ◌-◌, ◌*◌, ◌^◌, ◌<◌, ◌≤◌, true, false, ℤ, pos, negsuc, ◌+ℤ◌, ◌-ℤ◌, nat_abs, ◌≤ℤ◌, ap, ◌∙◌, subst, arith, pow_pos, div-mul-le_self}
use native.Mathlib.Nat.{pow-succ', lt-div-mul-add}
use borrow.Author.Differences.{ints}
use Rattle.std.proofs.lemmas.Int.{by_lt_z}
use Rattle.exact.specs.Integers.{gap, scale, lesser}
use Rattle.exact.specs.Dyadic.{Dyadic, dyadic, at, ◌≤ᴰ◌, ◌<ᴰ◌, distance, exponent}
use Rattle.exact.proofs.Scaling.{gap_none, lesser_low}
use Rattle.exact.proofs.Multiples.{away_ge, away_below}
use Rattle.exact.proofs.Halves.{near_ge, near_le, near_half_below, near_half_above}
use Rattle.exact.proofs.Order.{le_at, lt_at}
use Rattle.exact.proofs.Sums.{at_distance}
use Rattle.exact.proofs.Exponents.{at_own, at_power}
use Rattle.grid.specs.Rounding.{Mode, nearest, Way, near, cut, away, way_of, multiple, to_multiple, dropped, rounded}
use Rattle.grid.specs.Claims.{Close}

-- ---- a magnitude lies less than 2 ^ k from its multiple
step_below : (w : Way) (k n : ℕ) → multiple w k n < n + 2 ^ k
step_below near k n = omega (arith, near_le n (2 ^ k) (pow_pos k), away_below n (2 ^ k) (pow_pos k))
step_below cut k n = omega (arith, div-mul-le_self n (2 ^ k), pow_pos k)
step_below away k n = away_below n (2 ^ k) (pow_pos k)

step_above : (w : Way) (k n : ℕ) → n < multiple w k n + 2 ^ k
step_above near k n = omega (arith, near_ge n (2 ^ k), lt-div-mul-add {a = n} (pow_pos k))
step_above cut k n = lt-div-mul-add {a = n} (pow_pos k)
step_above away k n = omega (arith, away_ge n (2 ^ k) (pow_pos k), pow_pos k)

pub less_than_step : (m : Mode) (k : ℕ) (n : ℤ) → nat_abs (to_multiple m k n -ℤ n) < 2 ^ k
less_than_step m k (pos n) = omega (arith, ints, step_below (way_of m false) k n, step_above (way_of m false) k n)
less_than_step m k (negsuc n) = omega (arith, ints, step_below (way_of m true) k (suc n), step_above (way_of m true) k (suc n))

pub half_step : (k : ℕ) (n : ℤ) → 2 * nat_abs (to_multiple nearest k n -ℤ n) ≤ 2 ^ k
half_step k (pos n) = omega (arith, ints, near_half_below n (2 ^ k), near_half_above n (2 ^ k) (pow_pos k))
half_step k (negsuc n) = omega (arith, ints, near_half_below (suc n) (2 ^ k), near_half_above (suc n) (2 ^ k) (pow_pos k))

-- ---- dyadic numbers
module _ (u : ℤ → ℤ) (x : Dyadic) where
  -- at its own weight
  distance_own : (m : Mode) → at x.weight (distance (rounded u m x).value x) ≡ pos (nat_abs (to_multiple m (dropped u x) x.count -ℤ x.count))
  unfolding rounded
  distance_own m =
      let h : x.weight ≤ℤ x.weight = omega (arith, ints) in
      at_distance x.weight (rounded u m x).value x h h
      ∙ ap (λ (n : ℤ). pos (nat_abs (n -ℤ at x.weight x))) (at_own (rounded u m x).value)
      ∙ ap (λ (n : ℤ). pos (nat_abs (to_multiple m (dropped u x) x.count -ℤ n))) (at_own x)

  -- where no digit lies below the spacing the answer is x, and 0 is less than any power of two
  none_dropped : (m : Mode) (v : ℤ) → u (exponent x) ≤ℤ x.weight → distance (rounded u m x).value x <ᴰ dyadic (pos 1) v
  unfolding rounded
  none_dropped m v l =
      let w = x.weight in
      let z = lesser w v in
      let (W, V) = lesser_low w v in
      let k : dropped u x ≡ 0 = gap_none (u (exponent x)) w l in
      let s = less_than_step m (dropped u x) x.count in
      let r : nat_abs (to_multiple m (dropped u x) x.count -ℤ x.count) < 2 ^ 0 = subst (λ (j : ℕ). nat_abs (to_multiple m (dropped u x) x.count -ℤ x.count) < 2 ^ j) k s in
      let e : (rounded u m x).value.count ≡ x.count = omega (arith, ints) in
      let d : at z (rounded u m x).value ≡ at z x = ap (λ (n : ℤ). scale n (gap w z)) e in
      lt_at z (distance (rounded u m x).value x) (dyadic (pos 1) v) (omega (arith, ints)) V
      (rw (at_distance z (rounded u m x).value x W W, d) (omega (arith, ints, pow_pos (gap v z))))

  -- 2 ^ v in units of 2 ^ w, where v is k above w
  power_own : (v : ℤ) (k : ℕ) → v ≡ x.weight +ℤ pos k → at x.weight (dyadic (pos 1) v) ≡ pos (2 ^ k)
  power_own v k e = ap (λ (y : ℤ). at x.weight (dyadic (pos 1) y)) e ∙ at_power x.weight k

  less_than_spacing : (m : Mode) → distance (rounded u m x).value x <ᴰ dyadic (pos 1) (u (exponent x))
  unfolding rounded
  less_than_spacing m =
      let v = u (exponent x) in
      let k = dropped u x in
      by_lt_z x.weight v
      (λ l.
      let s = less_than_step m k x.count in
      lt_at x.weight (distance (rounded u m x).value x) (dyadic (pos 1) v) (omega (arith, ints)) (omega (arith, ints))
      (rw (distance_own m, power_own v k (omega (arith, ints))) (omega (arith, ints))))
      (λ l. none_dropped m v l)

  half_a_spacing : distance (rounded u nearest x).value x ≤ᴰ dyadic (pos 1) (u (exponent x) -ℤ pos 1)
  unfolding rounded
  half_a_spacing =
      let v = u (exponent x) in
      let k = dropped u x in
      by_lt_z x.weight v
      (λ l.
      let q : 2 ^ k ≡ 2 * 2 ^ (k - 1) = ap (λ (j : ℕ). 2 ^ j) (let h : k ≡ suc (k - 1) = omega (arith, ints) in h) ∙ pow-succ' 2 (k - 1) in
      let s = half_step k x.count in
      le_at x.weight (distance (rounded u nearest x).value x) (dyadic (pos 1) (v -ℤ pos 1)) (omega (arith, ints)) (omega (arith, ints))
      (rw (distance_own nearest, power_own (v -ℤ pos 1) (k - 1) (omega (arith, ints))) (omega (arith, ints))))
      (λ l. let s = none_dropped nearest (v -ℤ pos 1) l in omega (arith, ints))

  pub close : Close u x
  close = record { spacing = less_than_spacing; half = half_a_spacing }
