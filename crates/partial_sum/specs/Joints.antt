-- Where a partial sum holds the sum of parts as far as a column, what is said of it is said of the parts.
use Rattle.std.specs.Prelude.{◌≡◌, ◌≤◌, List, ◌∷◌, ℤ, Option}
use Rattle.batch.specs.Term.{column_weight}
use Rattle.column.specs.Parts.{Part, Regular}
use Rattle.column.specs.Columns.{Occupied}
use Rattle.column.specs.Ends.{reaching_below, sum_down_to, lower_end, upper_end}
use Rattle.column.specs.Walk.{first_column, Highest}
use Rattle.column.specs.Claims.{DownFrom, GoesOnWith}
use Rattle.partial_sum.specs.Holding.{held, Absorbed}
use Rattle.partial_sum.specs.Ends.{lower_number, upper_number, Reached}
use Rattle.partial_sum.specs.declared.sum.PartialSum.{PartialSum}

-- p holds the sum of the parts as far as the column c
pub record Holds (ps : List Part) (p : PartialSum) (c : ℤ) : Type 0 where
  pub value : held p ≡ (sum_down_to ps c).count
  pub at : p.column ≡ c

-- the two ends of p are those of the parts
pub record SameEnds (ps : List Part) (p : PartialSum) (c : ℤ) (cs : List ℤ) : Type 0 where
  pub lower : lower_number p (reaching_below ps (column_weight c)) (first_column cs) ≡ lower_end ps c cs
  pub upper : upper_number p (reaching_below ps (column_weight c)) (first_column cs) ≡ upper_end ps c cs

abbrev pub EndsAreEnds : Type 0
EndsAreEnds = (ps : List Part) (p : PartialSum) (c : ℤ) (cs : List ℤ) → Holds ps p c → SameEnds ps p c cs

-- the highest occupied column below that of p is one that some part reaches
abbrev pub ColumnsReached : Type 0
ColumnsReached = (ps : List Part) (p : PartialSum) (c : ℤ) (below : Option ℤ) → Holds ps p c → Highest c (Occupied ps) below → reaching_below ps (column_weight c) ≤ 1024 → Reached p (reaching_below ps (column_weight c)) below

-- with the total of the next column it holds the sum as far as that
abbrev pub SumsAbsorbed : Type 0
SumsAbsorbed = (ps : List Part) (p q : PartialSum) (c d t : ℤ) (ds : List ℤ) → Regular ps → Holds ps p c → DownFrom ps (c ∷ d ∷ ds) → GoesOnWith ps d t → Absorbed p q t d → Holds ps q d
