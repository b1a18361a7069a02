-- What going down the columns of a sum tells: the exact sum, rounded, and its depth.
use Rattle.std.specs.Prelude.{◌≡◌, ℕ, List, [], ℤ, Some, None, Option}
use Rattle.grid.specs.Rounding.{Mode}
use Rattle.ends.specs.Directions.{direction_sign}
use Rattle.ends.specs.Outcome.{Written, RoundsAs}
use Rattle.ends.specs.declared.rounded_end.RoundedEnd.{RoundedEnd}
use Rattle.column.specs.Parts.{Part, exact_sum}
use Rattle.column.specs.Depth.{depth}
use Rattle.depth.specs.declared.RoundedSum.{RoundedSum}

-- the exact sum of the parts rounds to the limbs a: all 0, or exactly the digits that the grid has at the answer's exponent; and d is its depth
pub record RoundedTo (u : ℤ → ℤ) (m : Mode) (ps : List Part) (r : RoundedEnd) (d a : ℕ) : Type 0 where
  pub limbs : Written u r.extent a
  pub rounds : RoundsAs u m (exact_sum ps) r.negative r.extent a (direction_sign r.direction)
  pub deep : d ≡ depth u m ps

-- nothing is told exactly if there is no part
abbrev pub SumRounded : (ℤ → ℤ) → Mode → List Part → Option RoundedSum → ℕ → Type 0
SumRounded u m ps None a = ps ≡ []
SumRounded u m ps (Some s) a = RoundedTo u m ps s.end s.depth a
