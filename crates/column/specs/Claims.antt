-- The laws of columns, ends and depths.
use Rattle.std.specs.Prelude.{◌≡◌, ℕ, ◌+◌, ◌-◌, ◌*◌, ◌^◌, ◌≤◌, ◌↔◌, List, [], ◌∷◌, ◌++◌, length, ℤ, pos, ◌+ℤ◌, neg_ℤ, ◌≤ℤ◌}
use Rattle.exact.specs.Integers.{gap, scale}
use Rattle.exact.specs.Dyadic.{◌≤ᴰ◌, ◌≈ᴰ◌, exponent}
use Rattle.grid.specs.Spacing.{InRange, Lawful}
use Rattle.grid.specs.Rounding.{Mode, rounded, Alike}
use Rattle.batch.specs.Term.{Term, Batchable, column_weight}
use Rattle.sheet.specs.declared.mark.Mark.{Mark}
use Rattle.column.specs.Parts.{Part, Regular, exact_sum}
use Rattle.column.specs.PartsOf.{parts_of}
use Rattle.column.specs.Columns.{column_total, columns, Occupied, Falling, Listed}
use Rattle.column.specs.Ends.{reaching_below, sum_down_to, lower_end, upper_end}
use Rattle.column.specs.Depth.{depth_in, answer_in, depth, answer, AlikeAt}
use Rattle.column.specs.Walk.{first_column, first_below}

-- the listed columns are the occupied ones, and strictly falling
pub record ExactlyOccupied (ps : List Part) : Type 0 where
  pub falling : Falling (columns ps)
  pub occupied : (k : ℤ) → Listed (columns ps) k ↔ Occupied ps k

abbrev pub ColumnsListed : Type 0
ColumnsListed = (ps : List Part) → ExactlyOccupied ps

-- cs are the occupied columns from some column down
abbrev pub DownFrom : List Part → List ℤ → Type 0
DownFrom ps cs = (above : List ℤ) × (columns ps ≡ above ++ cs)

-- t is the sum as far as the column c, if that is the first
abbrev pub StartsWith : List Part → ℤ → ℤ → Type 0
StartsWith ps c t = Regular ps → (cs : List ℤ) → columns ps ≡ c ∷ cs → (sum_down_to ps c).count ≡ t

-- the sum as far as the column d is the sum as far as the column before, moved down to it, plus t
abbrev pub GoesOnWith : List Part → ℤ → ℤ → Type 0
GoesOnWith ps d t = Regular ps → (c : ℤ) (ds : List ℤ) → DownFrom ps (c ∷ d ∷ ds)
    → (sum_down_to ps d).count ≡ scale (sum_down_to ps c).count (gap (column_weight c) (column_weight d)) +ℤ t

-- the sum starts with the first column's total
abbrev pub SumStarts : Type 0
SumStarts = (ps : List Part) (c : ℤ) → StartsWith ps c (column_total ps c)

-- and goes on with each next column's total
abbrev pub SumGoesOn : Type 0
SumGoesOn = (ps : List Part) (d : ℤ) → GoesOnWith ps d (column_total ps d)

-- a column's total is at most 2 ^ 32 - 1 for each part with a low weight below the column's end
pub record WithinDigits (ps : List Part) (k : ℤ) : Type 0 where
  pub from : neg_ℤ (pos (reaching_below ps (column_weight (k +ℤ pos 1)) * (2 ^ 32 - 1))) ≤ℤ column_total ps k
  pub upto : column_total ps k ≤ℤ pos (reaching_below ps (column_weight (k +ℤ pos 1)) * (2 ^ 32 - 1))

abbrev pub TotalsBounded : Type 0
TotalsBounded = (ps : List Part) (k : ℤ) → WithinDigits ps k

-- the ends at a column lie within those at the column before
pub record Within (ps : List Part) (c d : ℤ) (ds : List ℤ) : Type 0 where
  pub lower : lower_end ps c (d ∷ ds) ≤ᴰ lower_end ps d ds
  pub upper : upper_end ps d ds ≤ᴰ upper_end ps c (d ∷ ds)

abbrev pub EndsNested : Type 0
EndsNested = (ps : List Part) → Regular ps → (c d : ℤ) (ds : List ℤ) → DownFrom ps (c ∷ d ∷ ds) → Within ps c d ds

-- at the last column no part goes on below, and both ends are the exact sum
pub record BothExact (ps : List Part) (c : ℤ) : Type 0 where
  pub none_below : reaching_below ps (column_weight c) ≡ 0
  pub whole : sum_down_to ps c ≈ᴰ exact_sum ps
  pub lower : lower_end ps c [] ≈ᴰ exact_sum ps
  pub upper : upper_end ps c [] ≈ᴰ exact_sum ps

abbrev pub EndsMeet : Type 0
EndsMeet = (ps : List Part) → Regular ps → (c : ℤ) → DownFrom ps (c ∷ []) → BothExact ps c

-- at every column the exact sum lies between the ends
pub record Enclosed (ps : List Part) (c : ℤ) (cs : List ℤ) : Type 0 where
  pub lower : lower_end ps c cs ≤ᴰ exact_sum ps
  pub upper : exact_sum ps ≤ᴰ upper_end ps c cs

abbrev pub SumEnclosed : Type 0
SumEnclosed = (ps : List Part) → Regular ps → (c : ℤ) (cs : List ℤ) → DownFrom ps (c ∷ cs) → Enclosed ps c cs

-- where the ends round alike, the exact sum rounds as they do
abbrev pub SumSettled : Type 0
SumSettled = (u : ℤ → ℤ) (W : ℕ) → Lawful u W → (m : Mode) (ps : List Part) → Regular ps → (c : ℤ) (cs : List ℤ) → DownFrom ps (c ∷ cs)
    → Alike (rounded u m (lower_end ps c cs)) (rounded u m (upper_end ps c cs)) → Alike (rounded u m (exact_sum ps)) (rounded u m (lower_end ps c cs))

-- the depth is the least number of a column at which the ends round alike, and at most the number of the occupied columns
pub record LeastAlike (u : ℤ → ℤ) (m : Mode) (ps : List Part) : Type 0 where
  pub alike : AlikeAt u m ps (columns ps) (depth u m ps)
  pub least : (j : ℕ) → AlikeAt u m ps (columns ps) j → depth u m ps ≤ j
  pub within : depth u m ps ≤ length (columns ps)

abbrev pub DepthExists : Type 0
DepthExists = (u : ℤ → ℤ) (m : Mode) (p : Part) (ps : List Part) → Regular (p ∷ ps) → LeastAlike u m (p ∷ ps)

-- without a part the depth is 0
abbrev pub DepthOfNone : Type 0
DepthOfNone = (u : ℤ → ℤ) (m : Mode) → depth u m [] ≡ 0

-- what the ends round to at the depth is what the exact sum rounds to
abbrev pub AnswerRight : Type 0
AnswerRight = (u : ℤ → ℤ) (W : ℕ) → Lawful u W → (m : Mode) (ps : List Part) → Regular ps → Alike (rounded u m (exact_sum ps)) (answer u m ps)

-- the exponents of the exact sum and of the ends at every column are in the range that the laws of grids speak of
pub record AllInRange (ps : List Part) : Type 0 where
  pub sum : InRange (exponent (exact_sum ps))
  pub lower : (c : ℤ) (cs : List ℤ) → DownFrom ps (c ∷ cs) → InRange (exponent (lower_end ps c cs))
  pub upper : (c : ℤ) (cs : List ℤ) → DownFrom ps (c ∷ cs) → InRange (exponent (upper_end ps c cs))

-- so it is for the counted terms of every batch
abbrev pub AlwaysInRange : Type 0
AlwaysInRange = (marks : ℕ → Mark) (ts : List Term) → Batchable ts → AllInRange (parts_of marks ts)

-- ---- the walk from column to column
-- once the ends round alike, they do so at each later column
abbrev pub AlikeStays : Type 0
AlikeStays = (u : ℤ → ℤ) (W : ℕ) → Lawful u W → (m : Mode) (ps : List Part) → Regular ps → (c d : ℤ) (ds : List ℤ) → DownFrom ps (c ∷ d ∷ ds)
    → Alike (rounded u m (lower_end ps c (d ∷ ds))) (rounded u m (upper_end ps c (d ∷ ds))) → Alike (rounded u m (lower_end ps d ds)) (rounded u m (upper_end ps d ds))

-- the next occupied column below one of them is the next in the list
abbrev pub NextListed : Type 0
NextListed = (ps : List Part) (c : ℤ) (cs : List ℤ) → DownFrom ps (c ∷ cs) → first_below c (columns ps) ≡ first_column cs

-- j columns are passed, with ends alike at none of them, and cs are those to come
pub record Walked (u : ℤ → ℤ) (m : Mode) (ps : List Part) (j : ℕ) (cs : List ℤ) : Type 0 where
  pub to_come : DownFrom ps cs
  pub deeper : depth u m ps ≡ j + depth_in u m ps cs
  pub same : answer u m ps ≡ answer_in u m ps cs

-- the walk starts at the first column
abbrev pub WalkStarts : Type 0
WalkStarts = (u : ℤ → ℤ) (m : Mode) (ps : List Part) → Walked u m ps 0 (columns ps)

-- it goes on where the ends do not round alike
abbrev pub WalkGoesOn : Type 0
WalkGoesOn = (u : ℤ → ℤ) (m : Mode) (ps : List Part) (j : ℕ) (c : ℤ) (cs : List ℤ) → Walked u m ps j (c ∷ cs)
    → ¬ Alike (rounded u m (lower_end ps c cs)) (rounded u m (upper_end ps c cs)) → Walked u m ps (j + 1) cs

-- where they do, its columns are as many as the depth, and what the ends round to is the answer
abbrev pub WalkEnds : Type 0
WalkEnds = (u : ℤ → ℤ) (m : Mode) (ps : List Part) (j : ℕ) (c : ℤ) (cs : List ℤ) → Walked u m ps j (c ∷ cs)
    → Alike (rounded u m (lower_end ps c cs)) (rounded u m (upper_end ps c cs)) → (depth u m ps ≡ j + 1) × (answer u m ps ≡ rounded u m (lower_end ps c cs))
