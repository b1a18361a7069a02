-- How listed terms lie for a walk down the columns: those that have ended, those that have begun, and those that wait.
use Rattle.std.specs.Prelude.{◌≤◌, List, length, ℤ, ◌<ℤ◌}
use Rattle.std.specs.List.{AllWithin}
use Rattle.column.specs.declared.term.CountedTerm.{CountedTerm}
use Rattle.column.specs.declared.term.Edge.TheVariants.{First}
use Rattle.column.specs.declared.parting.Zones.{Zones}
use Rattle.column.specs.Edges.{Below}

-- the first end above the column k, and the last begin below the column b and no higher than they are said to
pub record Zoned (cs : List CountedTerm) (z : Zones) (k b : ℤ) : Type 0 where
  pub order : z.ended ≤ z.begun
  pub within : z.begun ≤ length cs
  pub passed : AllWithin (λ c. k <ℤ c.last) cs 0 z.ended
  pub waiting : AllWithin (Below First b z.next_first) cs z.begun (length cs)
