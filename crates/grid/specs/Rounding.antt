-- Rounding of a dyadic number to a grid in one of five modes, as a definition that computes.
use Rattle.std.specs.Prelude.{◌≡◌, ℕ, ◌+◌, ◌-◌, ◌*◌, ◌/◌, ◌^◌, Bool, true, false, ◌⊎◌, [], ◌∷◌, ℤ, pos, ◌-ℤ◌, Option, unsigned_abs}
use Rattle.std.specs.Float.Ieee.{size}
use Rattle.std.specs.Float.Ieee.Nearest.{closest}
use Rattle.std.specs.List.{slice_get}
use Rattle.exact.specs.Integers.{sign, is_negative, signed, gap}
use Rattle.exact.specs.Dyadic.{Dyadic, dyadic, exponent, ◌≈ᴰ◌}

-- to the nearest, a tie to the even multiple; down; up; toward 0; away from 0
pub data Mode : Type 0 where
  nearest downward upward toward_zero away_from_zero : Mode

-- the modes by number, from 0
abbrev pub mode_numbered : ℕ → Option Mode
mode_numbered n = slice_get (nearest ∷ downward ∷ upward ∷ toward_zero ∷ away_from_zero ∷ []) n

-- how a magnitude is rounded
pub data Way : Type 0 where
  near cut away : Way

-- the way of a mode, at a number that is negative or not
abbrev pub way_of : Mode → Bool → Way
way_of nearest s = near
way_of downward false = cut
way_of downward true = away
way_of upward false = away
way_of upward true = cut
way_of toward_zero s = cut
way_of away_from_zero s = away

-- n / d as a whole number (`closest` takes a tie to the even one)
abbrev pub whole : Way → ℕ → ℕ → ℕ
whole near n d = closest n d
whole cut n d = n / d
whole away n d = (n + (d - 1)) / d

-- n as a multiple of 2 ^ k
abbrev pub multiple : Way → ℕ → ℕ → ℕ
multiple w k n = whole w n (2 ^ k) * 2 ^ k

-- an integer as a multiple of 2 ^ k
abbrev pub to_multiple : Mode → ℕ → ℤ → ℤ
to_multiple m k n = signed (is_negative n) (multiple (way_of m (is_negative n)) k (unsigned_abs n))

-- how many digits of x lie below the grid's spacing at x's exponent
abbrev pub dropped : (ℤ → ℤ) → Dyadic → ℕ
dropped u x = gap (u (exponent x)) x.weight

-- the number of the grid; the sign, which a zero has too; and the sign of the number less x
pub record Answer : Type 0 where
  pub value : Dyadic
  pub negative : Bool
  pub direction : ℤ

-- x rounded to the grid of spacing u
unfoldable pub rounded : (ℤ → ℤ) → Mode → Dyadic → Answer
unfolding size
rounded u m x =
    let n = to_multiple m (dropped u x) x.count in
    record { value = dyadic n x.weight; negative = is_negative x.count; direction = sign (n -ℤ x.count) }

-- v is a number of the grid: 0, or a whole multiple of 2 ^ u(e) for its own exponent e
abbrev pub OnGrid : (ℤ → ℤ) → Dyadic → Type 0
OnGrid u v = (v.count ≡ pos 0) ⊎ ((q : ℤ) × (v ≈ᴰ dyadic q (u (exponent v))))

-- the same number, sign and direction
pub record Alike (a b : Answer) : Type 0 where
  pub values : a.value ≈ᴰ b.value
  pub signs : a.negative ≡ b.negative
  pub directions : a.direction ≡ b.direction
