-- Columns of 32 weights each, the column k with the weights 32 k to 32 k + 31: what the parts have in one, and which of them are occupied, from the highest down.
use Rattle.std.specs.Prelude.{◌≡◌, ℕ, zero, suc, cond, ◌⊎◌, List, [], ◌∷◌, ℤ, pos, ◌+ℤ◌, ◌-ℤ◌, ◌<ℤ◌, int_lt}
use Rattle.std.specs.Int.Signed.{shr_z}
use Rattle.std.specs.Float.Ieee.{size}
use Rattle.std.specs.List.{AllByRecursion}
use Rattle.exact.specs.Integers.{gap}
use Rattle.batch.specs.Term.{column_weight, digit_at}
use Rattle.column.specs.Parts.{Part, as_term, low, top, signed_sum}

-- the digit of a part at the column k
abbrev pub digit : Part → ℤ → ℕ
digit p k = digit_at k (as_term p)

-- the total of the column k: the digits there, with the parts' signs
abbrev pub column_total : List Part → ℤ → ℤ
column_total ps k = signed_sum (λ p. digit p k) ps

-- some of the weights from l up to t, without t itself, lie in the column k
abbrev pub Spans : ℤ → ℤ → ℤ → Type 0
Spans l t k = (column_weight k <ℤ t) × (l <ℤ (column_weight k +ℤ pos 32))

-- the part occupies the column k: its top weight is above the column's lowest weight, and its low weight below the next column's
abbrev pub Occupies : Part → ℤ → Type 0
Occupies p k = Spans (low p) (top p) k

-- some part occupies the column k
abbrev pub Occupied : List Part → ℤ → Type 0
Occupied [] k = ⊥
Occupied (p ∷ ps) k = Occupies p k ⊎ Occupied ps k

-- ---- the list of the occupied columns
-- the column that a weight lies in
abbrev pub column_of : ℤ → ℤ
column_of w = shr_z w 32

-- how many columns a part occupies
abbrev pub height : Part → ℕ
height p = gap (column_of (top p -ℤ pos 1) +ℤ pos 1) (column_of (low p))

-- a falling list of columns with the column k
abbrev pub with_column : ℤ → List ℤ → List ℤ
with_column k [] = k ∷ []
with_column k (c ∷ cs) = cond (int_lt c k) (k ∷ c ∷ cs) (cond (int_lt k c) (c ∷ with_column k cs) (c ∷ cs))

-- the same with each of the n columns from k up
abbrev pub with_columns : ℤ → ℕ → List ℤ → List ℤ
with_columns k zero cs = cs
with_columns k (suc n) cs = with_column (k +ℤ pos n) (with_columns k n cs)

-- the occupied columns, from the highest down
unfoldable pub columns : List Part → List ℤ
unfolding size
columns [] = []
columns (p ∷ ps) = with_columns (column_of (low p)) (height p) (columns ps)

-- the list falls from each column to the next
abbrev pub Falling : List ℤ → Type 0
Falling [] = Unit {0}
Falling (c ∷ cs) = AllByRecursion (λ d. d <ℤ c) cs × Falling cs

-- the column k is listed
abbrev pub Listed : List ℤ → ℤ → Type 0
Listed [] k = ⊥
Listed (c ∷ cs) k = (k ≡ c) ⊎ Listed cs k
