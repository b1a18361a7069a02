-- All the numbers that an end stands for round alike, to what the decision says.
use Rattle.std.proofs.Common.{◌≡◌, ℕ, suc, ◌+◌, ◌-◌, ◌*◌, ◌/◌, ◌%◌, ◌^◌, ◌<◌, Bool, true, false, cond, ltb, ℤ, pos, ◌+ℤ◌, ◌-ℤ◌, neg_ℤ, nat_abs, ◌≤ℤ◌, ◌<ℤ◌, sym, refl, ap, ◌∙◌, subst, inl, inr, add-mul, eq-zero-or-pos, mul-pos, arith, pow_pos}
use lib.Ieee.{size}
use lib.Ieee.Digits.{size-le}
use borrow.Author.Differences.{ints}
use Rattle.std.proofs.lemmas.Bool.{lt-ltb}
use Rattle.exact.specs.Integers.{sign, is_negative, signed, gap, lesser, scale}
use Rattle.exact.specs.Dyadic.{Dyadic, dyadic, at, ◌≈ᴰ◌}
use Rattle.exact.proofs.Scaling.{scale_neg, scale_signed, gap_split}
use Rattle.exact.proofs.Order.{at_same, same_at, at_lt}
use Rattle.exact.proofs.Parts.{size_parts}
use Rattle.exact.proofs.Signed.{negative_signed}
use Rattle.grid.specs.Rounding.{Mode, Way, whole, multiple, way_of, rounded}
use Rattle.grid.proofs.Everywhere.{LawsEverywhere}
use Rattle.grid.proofs.Magnitudes.{to}
use Rattle.grid.proofs.Integers.{round}
use Rattle.grid.proofs.Dyadics.{spacing_at, at_rounded, at_direction, at_negative, weight_rounded}
use Rattle.grid.proofs.Outcomes.{exact}
use Rattle.grid.proofs.Monotone.{congruent}
use Rattle.limbs.specs.Bits.{bit, bit_of, any_below}
use Rattle.ends.specs.Directions.{direction_sign, toward}
use Rattle.ends.specs.Ends.{StandsFor, spacing_there, raised, rest_below, left_out, raises}
use Rattle.ends.specs.Outcome.{RoundsTo}
use Rattle.ends.proofs.Borders.{units_on_grid}
use Rattle.ends.proofs.RaisedQuotients.{kept_and_rest, rest_small, rest_some, pow_above, whole_of_kept}

-- ---- a number of the end, counted in small units: n units of the end and r of the small ones
pub record InSmallUnits (s p : Bool) (n : ℕ) (w : ℤ) (x : Dyadic) : Type 0 where
  pub z : ℤ
  pub r : ℕ
  pub low : z ≤ℤ w
  pub low_x : z ≤ℤ x.weight
  pub is : at z x ≡ signed s (n * 2 ^ gap w z + r)
  pub small : r < 2 ^ gap w z
  pub part : ltb 0 r ≡ p

-- strictly between n units of w and the next: n of them, and some small units besides
in_between : (s : Bool) (n : ℕ) (w z : ℤ) (x : Dyadic) → z ≤ℤ w → z ≤ℤ x.weight → StandsFor s true n w x
    → let r = nat_abs (at z x) - n * 2 ^ gap w z in (at z x ≡ signed s (n * 2 ^ gap w z + r)) × (r < 2 ^ gap w z) × (0 < r)
in_between false n w z x a b (h, g) =
    let lo = at_lt z (dyadic (pos n) w) x a b h in
    let hi = at_lt z x (dyadic (pos (n + 1)) w) b a g in
    omega (arith, ints, add-mul n 1 (2 ^ gap w z))
in_between true n w z x a b (h, g) =
    let lo = rw (scale_neg (pos (n + 1)) (gap w z)) at (at_lt z (dyadic (neg_ℤ (pos (n + 1))) w) x a b h) in
    let hi = rw (scale_neg (pos n) (gap w z)) at (at_lt z x (dyadic (neg_ℤ (pos n)) w) b a g) in
    omega (arith, ints, add-mul n 1 (2 ^ gap w z))

pub in_small_units : (s p : Bool) (n : ℕ) (w : ℤ) (x : Dyadic) → StandsFor s p n w x → InSmallUnits s p n w x
in_small_units s false n w x e =
    let z = lesser x.weight w in
    let a : z ≤ℤ w = omega (arith, ints) in
    let b : z ≤ℤ x.weight = omega (arith, ints) in
    let q : n * 2 ^ gap w z ≡ n * 2 ^ gap w z + 0 = omega arith in
    record {
      z = z;
      r = 0;
      low = a;
      low_x = b;
      is = at_same z x (dyadic (signed s n) w) b a e ∙ scale_signed s n (gap w z) ∙ ap (signed s) q;
      small = pow_pos (gap w z);
      part = refl;
    }
in_small_units s true n w x l =
    let z = lesser x.weight w in
    let a : z ≤ℤ w = omega (arith, ints) in
    let b : z ≤ℤ x.weight = omega (arith, ints) in
    let o = in_between s n w z x a b l in
    record {
      z = z;
      r = nat_abs (at z x) - n * 2 ^ gap w z;
      low = a;
      low_x = b;
      is = o.0;
      small = o.1;
      part = lt-ltb 0 (nat_abs (at z x) - n * 2 ^ gap w z) o.2;
    }

-- ---- the spacing at the number is that at the end
same_spacing : (u : ℤ → ℤ) → LawsEverywhere u → (n r : ℕ) (w z : ℤ) → z ≤ℤ w → r < 2 ^ gap w z → w <ℤ spacing_there u n w
    → spacing_at u z (size (n * 2 ^ gap w z + r)) ≡ gap (spacing_there u n w) z
unfolding size
same_spacing u S n r w z h l d = elim (eq-zero-or-pos n) [
  | inr p ↦
      let j = gap w z in
      let e : z +ℤ pos (size n + j) ≡ w +ℤ pos (size n) = omega (arith, ints) in
      ap (spacing_at u z) (size_parts n j r p l) ∙ ap (λ (y : ℤ). gap (u y) z) e
  | inl o ↦
      let j = gap w z in
      let q : n * 2 ^ j + r ≡ r = ap (λ (y : ℕ). y * 2 ^ j + r) o ∙ omega arith in
      let t = size-le r j l in
      let d0 : w <ℤ u (w +ℤ pos 0) = subst (λ (y : ℕ). w <ℤ u (w +ℤ pos (size y))) o d in
      let f : u (z +ℤ pos (size r)) ≡ u (w +ℤ pos 0) = S.flat (w +ℤ pos 0) (z +ℤ pos (size r)) (omega (arith, ints)) (omega (arith, ints)) in
      ap (λ (y : ℕ). spacing_at u z (size y)) q ∙ ap (λ (y : ℤ). gap y z) f ∙ ap (λ (y : ℕ). gap (u (w +ℤ pos (size y))) z) (sym o)
]

round_signed : (m : Mode) (k : ℕ → ℕ) (s : Bool) (X : ℕ) → 0 < X → round m k (signed s X) ≡ signed s (to (way_of m s) k X)
round_signed m k s X h = grind (arith, ints)

-- ---- directions
sign_by_parts : (s b h : Bool) (Q R E : ℕ) → R < E → (b ≡ true → cond h true (ltb 0 R) ≡ true)
    → sign (signed s ((Q + bit b) * (2 * E)) -ℤ signed s (Q * (2 * E) + (bit h * E + R))) ≡ direction_sign (toward s b (cond h true (ltb 0 R)))
sign_by_parts s b h Q R E l c = grind (arith, ints)

-- what is raised was not exact
raised_inexact : (w : Way) (odd half rest : Bool) → raised w odd half rest ≡ true → cond half true rest ≡ true
raised_inexact w odd half rest e = grind (arith, ints)

-- ---- where the spacing is above the end's unit
module _ (u : ℤ → ℤ) (S : LawsEverywhere u) (m : Mode) (s p : Bool) (n i : ℕ) (w : ℤ) (x : Dyadic) where
  from_small_units : suc i ≡ gap (spacing_there u n w) w → (p ≡ false → 0 < n) → InSmallUnits s p n w x
      → RoundsTo u m x s (n / 2 ^ suc i + bit (raises m s p n i)) (spacing_there u n w) (direction_sign (toward s (raises m s p n i) (left_out p n i)))
  from_small_units k nz f =
      let z = f.z in
      let r = f.r in
      let j = gap w z in
      let X = n * 2 ^ j + r in
      let v = spacing_there u n w in
      let b = raises m s p n i in
      let Q = n / 2 ^ suc i in
      let W = way_of m s in
      let above : w <ℤ v = omega (arith, ints) in
      let zv : z ≤ℤ v = omega (arith, ints, f.low) in
      let some : 0 < X = positive r j f.part in
      let K : gap v z ≡ suc i + j = gap_split v w z f.low (omega (arith, ints)) ∙ ap (λ (y : ℕ). y + j) (sym k) in
      let E = 2 ^ (i + j) in
      let q : whole W X (2 ^ (suc i + j)) ≡ Q + bit b =
      whole_of_kept W n i j r f.small ∙ ap (λ (y : Bool). Q + bit (raised W (bit_of n (suc i)) (bit_of n i) (cond (any_below n i) true y))) f.part in
      let V = (Q + bit b) * 2 ^ (suc i + j) in
      let here : at z (rounded u m x).value ≡ signed s V =
      at_rounded u m z x f.low_x ∙ ap (round m (spacing_at u z)) f.is ∙ round_signed m (spacing_at u z) s X some
      ∙ ap (λ (y : ℕ). signed s (multiple W y X)) (same_spacing u S n r w z f.low f.small above ∙ K) ∙ ap (λ (y : ℕ). signed s (y * 2 ^ (suc i + j))) q in
      let there : at z (dyadic (signed s (Q + bit b)) v) ≡ signed s V = ap (scale (signed s (Q + bit b))) K ∙ scale_signed s (Q + bit b) (suc i + j) in
      let R = n % 2 ^ i * 2 ^ j + r in
      let g : ltb 0 R ≡ rest_below p n i = rest_some n i j r ∙ ap (λ (y : Bool). cond (any_below n i) true y) f.part in
      let d : sign (signed s ((Q + bit b) * (2 * E)) -ℤ signed s (Q * (2 * E) + (bit (bit_of n i) * E + R))) ≡ direction_sign (toward s b (cond (bit_of n i) true (ltb 0 R))) =
      sign_by_parts s b (bit_of n i) Q R E (rest_small n i j r f.small) (λ e. ap (λ (y : Bool). cond (bit_of n i) true y) g ∙ raised_inexact W (bit_of n (suc i)) (bit_of n i) (rest_below p n i) e) in
      let low_value : z ≤ℤ (rounded u m x).value.weight = subst (λ (y : ℤ). z ≤ℤ y) (sym (weight_rounded u m x)) f.low_x in
      record {
        values = same_at z (rounded u m x).value (dyadic (signed s (Q + bit b)) v) low_value zv (here ∙ sym there);
        signs = at_negative u m z x ∙ ap is_negative f.is ∙ negative_signed s X some;
        directions =
            at_direction u m z x f.low_x ∙ ap (λ (y : ℤ). sign (y -ℤ at z x)) here ∙ ap (λ (y : ℤ). sign (signed s V -ℤ y)) f.is
            ∙ ap (λ (y : ℕ). sign (signed s ((Q + bit b) * y) -ℤ signed s X)) (pow_above i j) ∙ ap (λ (y : ℕ). sign (signed s ((Q + bit b) * (2 * E)) -ℤ signed s y)) (kept_and_rest n i j r)
            ∙ d ∙ ap (λ (y : Bool). direction_sign (toward s b (cond (bit_of n i) true y))) g;
      }
    where
      positive : (r j : ℕ) → ltb 0 r ≡ p → 0 < n * 2 ^ j + r
      positive r j e = grind (arith, mul-pos, pow_pos j)

  pub coarse_end_rounds : suc i ≡ gap (spacing_there u n w) w → (p ≡ false → 0 < n) → StandsFor s p n w x
      → RoundsTo u m x s (n / 2 ^ suc i + bit (raises m s p n i)) (spacing_there u n w) (direction_sign (toward s (raises m s p n i) (left_out p n i)))
  coarse_end_rounds k nz h = from_small_units k nz (in_small_units s p n w x h)

-- ---- and where it is not, with nothing left over: the number is on the grid
pub fine_end_rounds : (u : ℤ → ℤ) → LawsEverywhere u → (m : Mode) (s : Bool) (n : ℕ) (w : ℤ) (x : Dyadic) → spacing_there u n w ≤ℤ w → 0 < n → StandsFor s false n w x
    → RoundsTo u m x s n w (pos 0)
unfolding rounded
fine_end_rounds u S m s n w x h nz e =
    let y = dyadic (signed s n) w in
    let b = exact u m y (units_on_grid u s n w h) in
    let c = congruent u S m x y e in
    record {
      values = subst (λ (v : Dyadic). (rounded u m x).value ≈ᴰ v) b.0 c.values;
      signs = c.signs ∙ negative_signed s n nz;
      directions = c.directions ∙ b.1;
    }
