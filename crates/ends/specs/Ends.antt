-- Ends: a sign, a magnitude of n units of 2 ^ w, and whether a part of one more unit is left over, of which no more is known.
use Rattle.std.specs.Prelude.{ℕ, suc, ◌+◌, Bool, true, false, cond, ℤ, pos, ◌+ℤ◌}
use Rattle.std.specs.Float.Ieee.{size}
use Rattle.exact.specs.Integers.{signed}
use Rattle.exact.specs.Dyadic.{Dyadic, dyadic, ◌<ᴰ◌, ◌≈ᴰ◌}
use Rattle.grid.specs.Rounding.{Mode, Way, near, cut, away, way_of, OnGrid}
use Rattle.limbs.specs.Bits.{bit_of, any_below}

-- the columns in question lie within this of 0: with a number of the most limbs above it, each exponent stays inside those of a grid
abbrev pub furthest_column : ℕ
furthest_column = 60000000

-- the numbers that an end stands for: one, or all that lie strictly between n and n + 1 units
abbrev pub StandsFor : Bool → Bool → ℕ → ℤ → Dyadic → Type 0
StandsFor s false n w x = x ≈ᴰ dyadic (signed s n) w
StandsFor false true n w x = (dyadic (signed false n) w <ᴰ x) × (x <ᴰ dyadic (signed false (n + 1)) w)
StandsFor true true n w x = (dyadic (signed true (n + 1)) w <ᴰ x) × (x <ᴰ dyadic (signed true n) w)

-- the spacing of a grid at an end
abbrev pub spacing_there : (ℤ → ℤ) → ℕ → ℤ → ℤ
spacing_there u n w = u (w +ℤ pos (size n))

-- the whole units on both sides of the part left over are numbers of the grid
abbrev pub Bordered : (ℤ → ℤ) → Bool → ℕ → ℤ → Type 0
Bordered u s n w = OnGrid u (dyadic (signed s n) w) × OnGrid u (dyadic (signed s (n + 1)) w)

-- is a quotient raised by one, from its last bit, the bit below that, and whether anything else is below
abbrev pub raised : Way → Bool → Bool → Bool → Bool
raised near odd half rest = cond half (cond rest true odd) false
raised cut odd half rest = false
raised away odd half rest = cond half true rest

-- is anything below the bit at i, in n or left over
abbrev pub rest_below : Bool → ℕ → ℕ → Bool
rest_below partial n i = cond (any_below n i) true partial

-- is anything left out of the bits from suc i on
abbrev pub left_out : Bool → ℕ → ℕ → Bool
left_out partial n i = cond (bit_of n i) true (rest_below partial n i)

-- are those bits raised by one
abbrev pub raises : Mode → Bool → Bool → ℕ → ℕ → Bool
raises m s partial n i = raised (way_of m s) (bit_of n (suc i)) (bit_of n i) (rest_below partial n i)
