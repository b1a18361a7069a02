-- Equal numbers stand in the same order and at the same distance from others, and are neighbours of the same numbers.
use Rattle.std.proofs.Common.{ℤ, pos, ◌-ℤ◌, nat_abs, sym, ap, ◌∙◌, arith}
use borrow.Author.Differences.{ints}
use Rattle.exact.specs.Dyadic.{Dyadic, dyadic, at, ◌≤ᴰ◌, ◌<ᴰ◌, ◌≈ᴰ◌, distance, exponent}
use Rattle.exact.proofs.Scaling.{below_three}
use Rattle.exact.proofs.Order.{at_le, le_at, at_lt, lt_at, at_same, same_at, ≈ᴰ_trans}
use Rattle.exact.proofs.Sums.{at_distance}
use Rattle.grid.specs.Rounding.{Mode, nearest, downward, upward, toward_zero, away_from_zero, OnGrid}
use Rattle.grid.specs.Neighbours.{Lower, Upper, Nearest, Wanted}
use Rattle.grid.specs.Claims.{Toward}
use Rattle.grid.proofs.Members.{on_grid_≈}

module _ (x y : Dyadic) (e : x ≈ᴰ y) where
  pub le_left : (w : Dyadic) → x ≤ᴰ w → y ≤ᴰ w
  le_left w h =
      let (z, a, b, c) = below_three x.weight y.weight w.weight in
      let p = at_le z x w a c h in
      let q = at_same z x y a b e in
      le_at z y w b c (omega (arith, ints))

  pub le_right : (w : Dyadic) → w ≤ᴰ x → w ≤ᴰ y
  le_right w h =
      let (z, a, b, c) = below_three x.weight y.weight w.weight in
      let p = at_le z w x c a h in
      let q = at_same z x y a b e in
      le_at z w y c b (omega (arith, ints))

  pub lt_left : (w : Dyadic) → x <ᴰ w → y <ᴰ w
  lt_left w h =
      let (z, a, b, c) = below_three x.weight y.weight w.weight in
      let p = at_lt z x w a c h in
      let q = at_same z x y a b e in
      lt_at z y w b c (omega (arith, ints))

  pub lt_right : (w : Dyadic) → w <ᴰ x → w <ᴰ y
  lt_right w h =
      let (z, a, b, c) = below_three x.weight y.weight w.weight in
      let p = at_lt z w x c a h in
      let q = at_same z x y a b e in
      lt_at z w y c b (omega (arith, ints))

  pub distance_≈ : (w : Dyadic) → distance x w ≈ᴰ distance y w
  distance_≈ w =
      let (z, a, b, c) = below_three x.weight y.weight w.weight in
      same_at z (distance x w) (distance y w) (omega (arith, ints)) (omega (arith, ints))
      (at_distance z x w a c ∙ ap (λ (n : ℤ). pos (nat_abs (n -ℤ at z w))) (at_same z x y a b e) ∙ sym (at_distance z y w b c))

module _ (u : ℤ → ℤ) (x v w : Dyadic) (e : v ≈ᴰ w) where
  pub lower_≈ : Lower u x v → Lower u x w
  lower_≈ l = record { on = on_grid_≈ u v w e l.on; at_most = le_left v w e x l.at_most; greatest = λ g o h. le_right v w e g (l.greatest g o h) }

  pub upper_≈ : Upper u x v → Upper u x w
  upper_≈ l = record { on = on_grid_≈ u v w e l.on; at_least = le_right v w e x l.at_least; least = λ g o h. le_left v w e g (l.least g o h) }

  nearest_≈ : Nearest u x v → Nearest u x w
  nearest_≈ l =
      let d = distance_≈ v w e x in
      record {
        on = on_grid_≈ u v w e l.on;
        none_nearer = λ g o. le_left (distance v x) (distance w x) d (distance g x) (l.none_nearer g o);
        tie_even = λ g o n t.
            let r = l.tie_even g o (λ s. n (≈ᴰ_trans g v w s e)) (≈ᴰ_trans (distance g x) (distance w x) (distance v x) t (sym d)) in
            (r.0, ≈ᴰ_trans w v (dyadic _ (u (exponent x))) (sym e) r.1);
      }

  pub wanted_≈ : (m : Mode) → Wanted u m x v → Wanted u m x w
  wanted_≈ nearest h = nearest_≈ h
  wanted_≈ downward h = lower_≈ h
  wanted_≈ upward h = upper_≈ h
  wanted_≈ toward_zero h = (λ s. lower_≈ (h.0 s), λ s. upper_≈ (h.1 s))
  wanted_≈ away_from_zero h = (λ s. upper_≈ (h.0 s), λ s. lower_≈ (h.1 s))

  pub toward_≈ : (d : ℤ) → Toward d v x → Toward d w x
  toward_≈ d t = grind (arith, ints, lt_left, lt_right, ≈ᴰ_trans)

-- what a mode asks for is on the grid
pub wanted_on : (u : ℤ → ℤ) (m : Mode) (x v : Dyadic) → Wanted u m x v → OnGrid u v
wanted_on u m x v h = grind (arith, ints)
