-- The nearest dyadic number of the grid, and where a tie goes.
use Rattle.std.proofs.Common.{◌≡◌, ℤ, pos, ◌+ℤ◌, ◌-ℤ◌, nat_abs, ◌≤ℤ◌, sym, ap, ◌∙◌, inl, inr, eq-zero-or-pos, arith}
use lib.Ieee.{size}
use borrow.Author.Differences.{ints}
use Rattle.exact.specs.Integers.{gap, scale, lesser}
use Rattle.exact.specs.Dyadic.{Dyadic, dyadic, at, ◌≤ᴰ◌, ◌≈ᴰ◌, Nonzero, distance, exponent}
use Rattle.exact.proofs.Integers.{abs_none}
use Rattle.exact.proofs.Scaling.{zero_scale}
use Rattle.exact.proofs.Order.{le_at, at_same, same_at}
use Rattle.exact.proofs.Sums.{at_distance}
use Rattle.exact.proofs.Exponents.{exponent_at}
use Rattle.grid.specs.Rounding.{nearest, near, rounded, OnGrid}
use Rattle.grid.specs.Neighbours.{Nearest}
use Rattle.grid.proofs.Everywhere.{LawsEverywhere}
use Rattle.grid.proofs.Integers.{round, nearest_on}
use Rattle.grid.proofs.Nearest.{EvenAt, none_nearer, as_near_even}
use Rattle.grid.proofs.Dyadics.{spacing_at, laws_at, at_rounded, on_at, to_zero}
use Rattle.grid.proofs.Members.{divided_on_grid, on_grid_divided}

module _ (u : ℤ → ℤ) (S : LawsEverywhere u) (x : Dyadic) where
  on : OnGrid u (rounded u nearest x).value
  unfolding rounded
  on = divided_on_grid u (rounded u nearest x).value (nearest_on (spacing_at u x.weight) (laws_at u S x.weight) x.count)

  -- the distances of the answer and of another number g, counted at a weight below both
  distance_of_answer : (z : ℤ) → z ≤ℤ x.weight → at z (distance (rounded u nearest x).value x) ≡ pos (nat_abs (round nearest (spacing_at u z) (at z x) -ℤ at z x))
  unfolding rounded
  distance_of_answer z h = at_distance z (rounded u nearest x).value x h h ∙ ap (λ (n : ℤ). pos (nat_abs (n -ℤ at z x))) (at_rounded u nearest z x h)

  none_nearer_to : (g : Dyadic) → OnGrid u g → distance (rounded u nearest x).value x ≤ᴰ distance g x
  unfolding rounded
  none_nearer_to g o =
      let z = lesser x.weight g.weight in
      let X : z ≤ℤ x.weight = omega (arith, ints) in
      let G : z ≤ℤ g.weight = omega (arith, ints) in
      let p = none_nearer (spacing_at u z) (laws_at u S z) (at z x) (at z g) (on_at u z g G (on_grid_divided u g o)) in
      le_at z (distance (rounded u nearest x).value x) (distance g x) (omega (arith, ints)) (omega (arith, ints))
      (rw (distance_of_answer z X, at_distance z g x G X) (omega (arith, ints)))

  -- a tie: the two distances are equal
  tie : (z : ℤ) (g : Dyadic) → z ≤ℤ x.weight → z ≤ℤ g.weight → distance g x ≈ᴰ distance (rounded u nearest x).value x
      → nat_abs (at z g -ℤ at z x) ≡ nat_abs (round nearest (spacing_at u z) (at z x) -ℤ at z x)
  unfolding rounded
  tie z g X G t =
      let s = at_same z (distance g x) (distance (rounded u nearest x).value x) (omega (arith, ints)) (omega (arith, ints)) t in
      ap nat_abs (sym (at_distance z g x G X) ∙ s ∙ distance_of_answer z X)

  apart : (z : ℤ) (g : Dyadic) → z ≤ℤ x.weight → z ≤ℤ g.weight → ¬ (g ≈ᴰ (rounded u nearest x).value) → ¬ (at z g ≡ round nearest (spacing_at u z) (at z x))
  unfolding rounded
  apart z g X G n e = n (same_at z g (rounded u nearest x).value G X (e ∙ sym (at_rounded u nearest z x X)))

  -- 0 is on each grid, so that nothing else is as near
  no_tie_at_zero : x.count ≡ pos 0 → (z : ℤ) (g : Dyadic) → z ≤ℤ x.weight → z ≤ℤ g.weight → ¬ (g ≈ᴰ (rounded u nearest x).value) → ¬ (distance g x ≈ᴰ distance (rounded u nearest x).value x)
  no_tie_at_zero e z g X G n t =
      let zero_at : at z x ≡ pos 0 = ap (λ (y : ℤ). scale y (gap x.weight z)) e ∙ zero_scale (gap x.weight z) in
      let zero_round : round nearest (spacing_at u z) (at z x) ≡ pos 0 = ap (round nearest (spacing_at u z)) zero_at ∙ ap pos (to_zero near (spacing_at u z)) in
      let a = apart z g X G n in
      let b = tie z g X G t in
      omega (arith, ints)

  even_multiple : (z : ℤ) → z ≤ℤ x.weight → Nonzero x → EvenAt (spacing_at u z (size (nat_abs (at z x)))) (round nearest (spacing_at u z) (at z x)) → (q : ℤ) × ((rounded u nearest x).value ≈ᴰ dyadic (q +ℤ q) (u (exponent x)))
  unfolding rounded
  even_multiple z X p (q, f, l) =
      let c : spacing_at u z (size (nat_abs (at z x))) ≡ gap (u (exponent x)) z = ap (λ (y : ℤ). gap (u y) z) (exponent_at z x X p) in
      (q, same_at z (rounded u nearest x).value (dyadic (q +ℤ q) (u (exponent x))) X (omega (arith, ints)) (at_rounded u nearest z x X ∙ f ∙ ap (scale (q +ℤ q)) c))

  tie_is_even : (g : Dyadic) → OnGrid u g → ¬ (g ≈ᴰ (rounded u nearest x).value) → distance g x ≈ᴰ distance (rounded u nearest x).value x → (q : ℤ) × ((rounded u nearest x).value ≈ᴰ dyadic (q +ℤ q) (u (exponent x)))
  tie_is_even g o n t =
      let z = lesser x.weight g.weight in
      let X : z ≤ℤ x.weight = omega (arith, ints) in
      let G : z ≤ℤ g.weight = omega (arith, ints) in
      elim (eq-zero-or-pos (nat_abs x.count)) [
        | inl e ↦ absurd (no_tie_at_zero (abs_none x.count e) z g X G n t)
        | inr p ↦ even_multiple z X (λ (e : x.count ≡ pos 0). omega (arith, ints)) (as_near_even (spacing_at u z) (laws_at u S z) (at z x) (at z g) (on_at u z g G (on_grid_divided u g o)) (apart z g X G n) (tie z g X G t))
      ]

  pub nearest_of : Nearest u x (rounded u nearest x).value
  nearest_of = record { on = on; none_nearer = none_nearer_to; tie_even = tie_is_even }
