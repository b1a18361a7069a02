-- Grids: a grid is its spacing, a function u of exponents. The numbers of exponent e that it has are the multiples of 2 ^ u(e).
use Rattle.std.specs.Prelude.{◌≡◌, ℕ, ◌≤◌, ℤ, pos, ◌+ℤ◌, ◌-ℤ◌, neg_ℤ, ◌≤ℤ◌, ◌<ℤ◌}
use Rattle.std.specs.Int.{int_max, int_min}

-- the exponents in question: the lowest
abbrev pub lowest : ℤ
lowest = neg_ℤ (pos 2000000000)

-- and the highest
abbrev pub highest : ℤ
highest = pos 2000000000

-- e is one of them
pub record InRange (e : ℤ) : Type 0 where
  pub from : lowest ≤ℤ e
  pub upto : e ≤ℤ highest

-- e itself in the range, and else the nearer end of the range
abbrev pub nearest_end : ℤ → ℤ
nearest_end e = int_max lowest (int_min e highest)

-- the laws of a spacing u whose numbers have at most W digits
pub record Lawful (u : ℤ → ℤ) (W : ℕ) : Type 0 where
  -- the width is one that is offered
  pub width_low : 1 ≤ W
  pub width_high : W ≤ 4096
  -- larger numbers lie no closer together
  pub rises : (e : ℤ) → InRange e → u e ≤ℤ u (e +ℤ pos 1)
  -- where numbers of exponent e can be on the grid, the power 2 ^ e above them is on it
  pub inside : (e : ℤ) → InRange e → u e <ℤ e → u (e +ℤ pos 1) ≤ℤ e
  -- where none can be, the spacing is the same from there down, and up to the first number of the grid
  pub flat : (e : ℤ) → InRange e → e ≤ℤ u e → (f : ℤ) → f ≤ℤ (u e +ℤ pos 1) → u f ≡ u e
  -- no number has more than W digits
  pub narrow : (e : ℤ) → InRange e → (e -ℤ u e) ≤ℤ pos W
  -- so the first number of the grid, where the spacing is flat, has an exponent in question
  pub below : (e : ℤ) → InRange e → u e <ℤ highest
  -- further out the spacing is that of the nearer end
  pub ends : (e : ℤ) → u e ≡ u (nearest_end e)

-- p digits at each exponent
abbrev pub free : ℕ → ℤ → ℤ
free p e = nearest_end e -ℤ pos p

-- p digits, but no digit below 2 ^ f
abbrev pub floored : ℕ → ℤ → ℤ → ℤ
floored p f e = int_max (free p e) f
