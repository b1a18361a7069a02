-- The whole units on both sides of the part left over are both on the grid exactly if the spacing there is no more than a unit.
use Rattle.std.proofs.Common.{◌≡◌, ℕ, ◌+◌, ◌%◌, ◌^◌, ◌≤◌, Bool, ℤ, pos, ◌+ℤ◌, ◌≤ℤ◌, ◌<ℤ◌, sym, subst, inl, inr, arith}
use native.Mathlib.Nat.{mod-one}
use lib.Ieee.{size}
use borrow.Author.Differences.{ints}
use Rattle.exact.specs.Integers.{signed, gap}
use Rattle.exact.specs.Dyadic.{dyadic}
use Rattle.exact.proofs.Signed.{abs_signed}
use Rattle.exact.proofs.Scaling.{gap_none}
use Rattle.exact.proofs.Multiples.{pow_multiple, multiple_coarser}
use Rattle.exact.proofs.Parts.{size_next}
use Rattle.grid.specs.Rounding.{OnGrid}
use Rattle.grid.proofs.Everywhere.{LawsEverywhere}
use Rattle.grid.proofs.Members.{divided_on_grid, on_grid_divided}
use Rattle.ends.specs.Ends.{Bordered, spacing_there}

-- n units are on the grid exactly if n is a multiple of the spacing in units
units_divided : (u : ℤ → ℤ) (s : Bool) (n : ℕ) (w : ℤ) → OnGrid u (dyadic (signed s n) w) → n % 2 ^ gap (spacing_there u n w) w ≡ 0
units_divided u s n w o = rw (abs_signed s n) at (on_grid_divided u (dyadic (signed s n) w) o)

divided_units : (u : ℤ → ℤ) (s : Bool) (n : ℕ) (w : ℤ) → n % 2 ^ gap (spacing_there u n w) w ≡ 0 → OnGrid u (dyadic (signed s n) w)
divided_units u s n w d = divided_on_grid u (dyadic (signed s n) w) (rw (abs_signed s n) d)

pub units_on_grid : (u : ℤ → ℤ) (s : Bool) (n : ℕ) (w : ℤ) → spacing_there u n w ≤ℤ w → OnGrid u (dyadic (signed s n) w)
units_on_grid u s n w h = divided_units u s n w (rw (gap_none (spacing_there u n w) w h) (mod-one n))

module _ (u : ℤ → ℤ) (S : LawsEverywhere u) (s : Bool) (n : ℕ) (w : ℤ) where
  -- the spacing one unit further is no less
  next_no_less : spacing_there u n w ≤ℤ spacing_there u (n + 1) w
  next_no_less = grind (arith, ints, size_next n, S.rises (w +ℤ pos (size n)))

  -- where n + 1 units are a power of two, that is on the grid
  power_on_grid : spacing_there u n w ≤ℤ w → u ((w +ℤ pos (size n)) +ℤ pos 1) ≤ℤ (w +ℤ pos (size n))
  power_on_grid h = let e = w +ℤ pos (size n) in grind (arith, ints, S.inside e, S.flat e (e +ℤ pos 1))

  pub fine_bordered : spacing_there u n w ≤ℤ w → Bordered u s n w
  fine_bordered h = (
    units_on_grid u s n w h,
    elim (size_next n) [
      | inl e ↦ units_on_grid u s (n + 1) w (rw e h)
      | inr (e, p) ↦
          let q : w +ℤ pos (size (n + 1)) ≡ (w +ℤ pos (size n)) +ℤ pos 1 = omega (arith, ints) in
          let l = power_on_grid h in
          let k : gap (spacing_there u (n + 1) w) w ≤ size n = subst (λ (y : ℤ). gap (u y) w ≤ size n) (sym q) (omega (arith, ints)) in
          divided_units u s (n + 1) w (subst (λ (y : ℕ). y % 2 ^ gap (spacing_there u (n + 1) w) w ≡ 0) (sym p) (pow_multiple (size n) (gap (spacing_there u (n + 1) w) w) k))
    ],
  )

  -- of n and n + 1 one is odd
  pub coarse_not_bordered : w <ℤ spacing_there u n w → ¬ Bordered u s n w
  coarse_not_bordered h (a, b) =
      let g = next_no_less in
      let even : n % 2 ^ 1 ≡ 0 = multiple_coarser n (gap (spacing_there u n w) w) 1 (omega (arith, ints)) (units_divided u s n w a) in
      let even_next : (n + 1) % 2 ^ 1 ≡ 0 = multiple_coarser (n + 1) (gap (spacing_there u (n + 1) w) w) 1 (omega (arith, ints)) (units_divided u s (n + 1) w b) in
      omega arith
