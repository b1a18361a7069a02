-- What the numbers at an end round to.
use Rattle.std.specs.Prelude.{◌≡◌, ℕ, ◌≤◌, Bool, true, ℤ, pos, ◌+ℤ◌, ◌≤ℤ◌, ◌<ℤ◌, Some, None, Option, unsigned_abs}
use Rattle.exact.specs.Dyadic.{Dyadic, dyadic}
use Rattle.grid.specs.Rounding.{Mode, rounded, OnGrid, Alike}
use Rattle.ends.specs.Directions.{direction_sign}
use Rattle.ends.specs.Ends.{spacing_there}
use Rattle.ends.specs.Outcome.{RoundsAs, Written}
use Rattle.ends.specs.declared.rounded_end.RoundedEnd.{RoundedEnd}
use Rattle.partial_sum.specs.Lying.{Lies}
use Rattle.partial_sum.specs.Ends.{Meant, lower_number, upper_number}
use Rattle.partial_sum.specs.declared.sum.PartialSum.{PartialSum}

-- v units of 2 ^ w and the next are numbers of the grid, whose spacing there is one unit at most
pub record Uncertain (u : ℤ → ℤ) (v w : ℤ) : Type 0 where
  pub negative : Bool
  pub magnitude : ℕ
  pub meant : Meant negative true magnitude v
  pub fine : spacing_there u magnitude w ≤ℤ w
  pub low : OnGrid u (dyadic v w)
  pub high : OnGrid u (dyadic (v +ℤ pos 1) w)

-- the limbs a are those of the answer, and the only ones for it: all 0, or exactly the digits that the grid has at the answer's exponent
pub record Certain (u : ℤ → ℤ) (m : Mode) (partial : Bool) (v w : ℤ) (r : RoundedEnd) (a : ℕ) : Type 0 where
  pub limbs : Written u r.extent a
  pub rounds : (x : Dyadic) → Lies partial v w x → RoundsAs u m x r.negative r.extent a (direction_sign r.direction)

-- what an end is rounded to: nothing exactly if a part is missing that the grid can tell from nothing
abbrev pub RoundedAt : (ℤ → ℤ) → Mode → Bool → ℤ → ℤ → Option RoundedEnd → ℕ → Type 0
RoundedAt u m partial v w None a = (partial ≡ true) × Uncertain u v w
RoundedAt u m partial v w (Some r) a = Certain u m partial v w r a

-- the two ends do not round alike; and the rest is small, and 0 before a gap. There is a next column then
pub record UndecidedBefore (u : ℤ → ℤ) (m : Mode) (p : PartialSum) (n : ℕ) (d : ℤ) : Type 0 where
  pub apart : ¬ Alike (rounded u m (lower_number p n (Some d))) (rounded u m (upper_number p n (Some d)))
  pub rest_few : unsigned_abs p.rest ≤ 1024
  pub rest_none : (d +ℤ pos 1) <ℤ p.column → p.rest ≡ pos 0

abbrev pub Undecided : (ℤ → ℤ) → Mode → PartialSum → ℕ → Option ℤ → Type 0
Undecided u m p n None = ⊥
Undecided u m p n (Some d) = UndecidedBefore u m p n d

-- the two ends round alike, to an answer with the limbs a
pub record Decided (u : ℤ → ℤ) (m : Mode) (p : PartialSum) (n : ℕ) (below : Option ℤ) (r : RoundedEnd) (a : ℕ) : Type 0 where
  pub alike : Alike (rounded u m (lower_number p n below)) (rounded u m (upper_number p n below))
  pub limbs : Written u r.extent a
  pub rounds : RoundsAs u m (lower_number p n below) r.negative r.extent a (direction_sign r.direction)

-- what rounding both ends tells: an answer exactly if they round alike
abbrev pub BothRounded : (ℤ → ℤ) → Mode → PartialSum → ℕ → Option ℤ → Option RoundedEnd → ℕ → Type 0
BothRounded u m p n below None a = Undecided u m p n below
BothRounded u m p n below (Some r) a = Decided u m p n below r a
