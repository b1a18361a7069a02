-- Worked examples of rounding, which the checker computes.
use Rattle.std.specs.Prelude.{◌-◌, ◌*◌, ◌^◌, Bool, true, false, List, [], ◌∷◌, ℤ, pos, neg_ℤ}
use Rattle.std.specs.List.{AllByRecursion}
use Rattle.exact.specs.Dyadic.{Dyadic, dyadic}
use Rattle.grid.specs.Spacing.{free, floored}
use Rattle.grid.specs.Rounding.{Mode, nearest, downward, upward, Answer, rounded, Alike}

-- a grid, a mode and a number, with the answer that is right
pub record Example : Type 0 where
  pub spacing : ℤ → ℤ
  pub mode : Mode
  pub number : Dyadic
  pub answer : Answer

-- the same, in a row: the answer's value, is it negative, its direction
abbrev pub example : (ℤ → ℤ) → Mode → Dyadic → Dyadic → Bool → ℤ → Example
example u m x v s d = record { spacing = u; mode = m; number = x; answer = record { value = v; negative = s; direction = d } }

-- n as a number
abbrev pub whole_number : ℤ → Dyadic
whole_number n = dyadic n (pos 0)

-- the spacing of binary64
abbrev pub binary64 : ℤ → ℤ
binary64 = floored 53 (neg_ℤ (pos 1074))

-- 5, 7 and -3 to one or two digits; 2 ^ -1075 in binary64; 3 - 2 ^ -2000 to two digits
abbrev pub examples : List Example
examples =
    example (free 2) nearest (whole_number (pos 5)) (whole_number (pos 4)) false (neg_ℤ (pos 1))
    ∷ example (free 2) nearest (whole_number (pos 7)) (whole_number (pos 8)) false (pos 1)
    ∷ example (free 1) nearest (whole_number (neg_ℤ (pos 3))) (whole_number (neg_ℤ (pos 4))) true (neg_ℤ (pos 1))
    ∷ example binary64 nearest (dyadic (pos 1) (neg_ℤ (pos 1075))) (whole_number (pos 0)) false (neg_ℤ (pos 1))
    ∷ example binary64 upward (dyadic (pos 1) (neg_ℤ (pos 1075))) (dyadic (pos 1) (neg_ℤ (pos 1074))) false (pos 1)
    ∷ example (free 2) downward (dyadic (pos (3 * 2 ^ 2000 - 1)) (neg_ℤ (pos 2000))) (whole_number (pos 2)) false (neg_ℤ (pos 1))
    ∷ example (free 2) nearest (dyadic (pos (3 * 2 ^ 2000 - 1)) (neg_ℤ (pos 2000))) (whole_number (pos 3)) false (pos 1)
    ∷ []

-- the definition gives the answer
abbrev pub Holds : Example → Type 0
Holds x = Alike (rounded x.spacing x.mode x.number) x.answer

abbrev pub ExamplesHold : Type 0
ExamplesHold = AllByRecursion Holds examples
