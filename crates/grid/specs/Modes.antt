-- The modes of the code, as modes of rounding.
use Rattle.grid.specs.Rounding as Rounding
use Rattle.grid.specs.declared.mode.Mode.{Mode}
use Rattle.grid.specs.declared.mode.Mode.TheVariants.{Nearest, Downward, Upward, TowardZero, AwayFromZero}

-- what each mode of the code means
abbrev pub mode_of : Mode → Rounding.Mode
mode_of Nearest = Rounding.nearest
mode_of Downward = Rounding.downward
mode_of Upward = Rounding.upward
mode_of TowardZero = Rounding.toward_zero
mode_of AwayFromZero = Rounding.away_from_zero
