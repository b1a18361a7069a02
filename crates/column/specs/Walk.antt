-- The way down the occupied columns: the first, and the next below a given one.
use Rattle.std.specs.Prelude.{cond, List, [], ◌∷◌, ℤ, pos, ◌-ℤ◌, ◌≤ℤ◌, ◌<ℤ◌, Some, None, Option, int_lt}
use Rattle.std.specs.Int.{int_max, int_min}
use Rattle.column.specs.Columns.{column_of}

-- the first of a list of columns, if there is one
abbrev pub first_column : List ℤ → Option ℤ
first_column [] = None
first_column (c ∷ cs) = Some c

-- the first of them that lies below the column b, if there is one
abbrev pub first_below : ℤ → List ℤ → Option ℤ
first_below b [] = None
first_below b (c ∷ cs) = cond (int_lt c b) (Some c) (first_below b cs)

-- c is the highest of some columns that lie below the column b, if there is one
abbrev pub Highest : ℤ → (ℤ → Type 0) → Option ℤ → Type 0
Highest b Q None = (k : ℤ) → Q k → k <ℤ b → ⊥
Highest b Q (Some c) = Q c × (c <ℤ b) × ((k : ℤ) → Q k → k <ℤ b → k ≤ℤ c)

-- the higher of two columns, if there is one
abbrev pub higher : Option ℤ → Option ℤ → Option ℤ
higher None o = o
higher (Some c) None = Some c
higher (Some c) (Some d) = Some (int_max c d)

-- the highest column below the column b that the weights from l up to t lie in, if there is one
abbrev pub highest_spanned : ℤ → ℤ → ℤ → Option ℤ
highest_spanned l t b = cond (int_lt (int_min (column_of (t -ℤ pos 1)) (b -ℤ pos 1)) (column_of l)) None (Some (int_min (column_of (t -ℤ pos 1)) (b -ℤ pos 1)))
