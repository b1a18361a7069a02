-- The totals of a run of columns.
use Rattle.std.specs.Prelude.{◌≡◌, ℕ, ◌<◌, List, ℤ, pos, ◌-ℤ◌, ◌≤ℤ◌, slice_index_or}
use Rattle.exact.specs.Integers.{gap}
use Rattle.column.specs.declared.run.Run.{Run}
use Rattle.column.specs.Parts.{Part}
use Rattle.column.specs.Columns.{column_total}

-- the total at a place of a list
abbrev pub total_at : List ℤ → ℕ → ℤ
total_at ts j = slice_index_or ts j (pos 0)

-- each column of the run has the total that the parts have there
abbrev pub Totalled : List Part → Run → Type 0
Totalled ps r = (k : ℤ) → r.bottom ≤ℤ k → k ≤ℤ r.top → total_at r.totals (gap r.top k) ≡ column_total ps k

-- the first n totals are those of the columns from t down
abbrev pub TotalsFrom : List Part → ℤ → ℕ → List ℤ → Type 0
TotalsFrom ps t n xs = (j : ℕ) → j < n → total_at xs j ≡ column_total ps (t -ℤ pos j)
