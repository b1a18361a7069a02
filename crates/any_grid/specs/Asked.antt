-- The grids that a line asks for, and those that are refused.
use Rattle.std.specs.Prelude.{ℕ, List, [], ◌∷◌, codes, ℤ, Some, None, Option, Ok, Err, Result, option_and_then, position}
use Rattle.std.specs.Str.{bytes_eq}
use Rattle.grid.specs.Spacing.{free, floored}
use Rattle.grid.specs.Formats.{Row, format_numbered}
use Rattle.grid.specs.Faults.{width_refusal, floored_refusal}
use Rattle.grid.specs.declared.fault.GridFault.{GridFault}
use Rattle.grid.specs.declared.fault.GridFault.TheVariants.{NoSuchName}
use Rattle.any_grid.specs.declared.any.AnyGrid.{AnyGrid}
use Rattle.any_grid.specs.AnyGrids.{spacing_of, widest_of}

-- what a grid means: its spacing, and how many digits its numbers have at most
pub record Meaning : Type 0 where
  pub spacing : ℤ → ℤ
  pub width : ℕ

-- the same, in a row
abbrev pub meaning : (ℤ → ℤ) → ℕ → Meaning
meaning u p = record { spacing = u; width = p }

-- what a result tells: the fault, or what the grid means
abbrev pub told : Result AnyGrid GridFault → Result Meaning GridFault
told (Err f) = Err f
told (Ok g) = Ok (meaning (spacing_of g) (widest_of g))

-- the refusal, if there is one, or else what the grid means
abbrev pub refused_or : Option GridFault → Meaning → Result Meaning GridFault
refused_or (Some f) m = Err f
refused_or None m = Ok m

-- the grid of p digits: floored where there is a floor, and else free
abbrev pub grid_of_width : ℕ → Option ℤ → Result Meaning GridFault
grid_of_width p None = refused_or (width_refusal p) (meaning (free p) p)
grid_of_width p (Some f) = refused_or (floored_refusal p f) (meaning (floored p f) p)

-- the names of the formats, in the order of their numbers
abbrev pub names : List (List ℕ)
names =
    codes "binary16"
    ∷ codes "bfloat16"
    ∷ codes "binary32"
    ∷ codes "binary64"
    ∷ codes "extended80"
    ∷ codes "binary128"
    ∷ codes "binary256"
    ∷ []

-- the grid of a format
abbrev pub grid_of_format : Option Row → Result Meaning GridFault
grid_of_format (Some r) = Ok (meaning (floored r.width r.floor) r.width)
grid_of_format None = Err NoSuchName

-- the grid of a name: that of the format whose number is the place of the name
abbrev pub grid_of_name : List ℕ → Result Meaning GridFault
grid_of_name name = grid_of_format (option_and_then format_numbered (position (λ format. bytes_eq format name) names))
