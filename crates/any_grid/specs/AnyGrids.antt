-- What a grid of one of the three kinds is: what the grid inside is.
use Rattle.std.specs.Prelude.{ℕ, ℤ}
use Rattle.grid.specs.Spacing.{Lawful}
use Rattle.grid.specs.contracts.free.FreeGridGrid.TheImpl.{ghosts as free_grid}
use Rattle.grid.specs.contracts.floored.FlooredGridGrid.TheImpl.{ghosts as floored_grid}
use Rattle.grid.specs.contracts.named.NamedGridGrid.TheImpl.{ghosts as named_grid}
use Rattle.any_grid.specs.declared.any.AnyGrid.{AnyGrid}
use Rattle.any_grid.specs.declared.any.AnyGrid.TheVariants.{Free, Floored, Named}

-- its spacing
abbrev pub spacing_of : AnyGrid → ℤ → ℤ
spacing_of (Free g) = free_grid.spacing g
spacing_of (Floored g) = floored_grid.spacing g
spacing_of (Named g) = named_grid.spacing g

-- how many digits its numbers have at most
abbrev pub widest_of : AnyGrid → ℕ
widest_of (Free g) = free_grid.widest g
widest_of (Floored g) = floored_grid.widest g
widest_of (Named g) = named_grid.widest g

-- it keeps the laws, which the interface asks of each grid
abbrev pub lawful_of : (g : AnyGrid) → Lawful (spacing_of g) (widest_of g)
lawful_of (Free g) = free_grid.lawful g
lawful_of (Floored g) = floored_grid.lawful g
lawful_of (Named g) = named_grid.lawful g
