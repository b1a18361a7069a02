-- The depth: how many of the top columns it takes until the two ends round alike.
use Rattle.std.specs.Prelude.{ℕ, zero, suc, Bool, cond, not, ◌&&◌, List, [], ◌∷◌, ℤ, pos, int_le}
use Rattle.exact.specs.Dyadic.{dyadic, at}
use Rattle.grid.specs.Rounding.{Mode, Answer, rounded, Alike}
use Rattle.column.specs.Parts.{Part}
use Rattle.column.specs.Columns.{columns}
use Rattle.column.specs.Ends.{lower_end, upper_end}

-- are two integers the same?
abbrev pub same_integer : ℤ → ℤ → Bool
same_integer a b = int_le a b && int_le b a

-- are two signs the same?
abbrev pub same_sign : Bool → Bool → Bool
same_sign s t = cond s t (not t)

-- are the number, the sign and the direction of two answers the same?
abbrev pub alike : Answer → Answer → Bool
alike a b =
    same_integer (at b.value.weight a.value) (at a.value.weight b.value)
    && (same_sign a.negative b.negative && same_integer a.direction b.direction)

-- do the two ends at the column c round alike, where cs are the occupied columns below it?
abbrev pub ends_alike : (ℤ → ℤ) → Mode → List Part → ℤ → List ℤ → Bool
ends_alike u m ps c cs = alike (rounded u m (lower_end ps c cs)) (rounded u m (upper_end ps c cs))

-- the number, from 1, of the first of the listed columns at which the ends round alike; 0 for no column
abbrev pub depth_in : (ℤ → ℤ) → Mode → List Part → List ℤ → ℕ
depth_in u m ps [] = 0
depth_in u m ps (c ∷ cs) = cond (ends_alike u m ps c cs) 1 (suc (depth_in u m ps cs))

-- what the ends round to there; no column is a sum of 0
abbrev pub answer_in : (ℤ → ℤ) → Mode → List Part → List ℤ → Answer
answer_in u m ps [] = rounded u m (dyadic (pos 0) (pos 0))
answer_in u m ps (c ∷ cs) = cond (ends_alike u m ps c cs) (rounded u m (lower_end ps c cs)) (answer_in u m ps cs)

-- the depth of a sum on the grid of spacing u, in a mode; 0 without a part
unfoldable pub depth : (ℤ → ℤ) → Mode → List Part → ℕ
depth u m ps = depth_in u m ps (columns ps)

-- what the ends round to at the depth
unfoldable pub answer : (ℤ → ℤ) → Mode → List Part → Answer
answer u m ps = answer_in u m ps (columns ps)

-- the ends round alike at the column with this number, from 1
abbrev pub AlikeAt : (ℤ → ℤ) → Mode → List Part → List ℤ → ℕ → Type 0
AlikeAt u m ps [] j = ⊥
AlikeAt u m ps (c ∷ cs) zero = ⊥
AlikeAt u m ps (c ∷ cs) (suc zero) = Alike (rounded u m (lower_end ps c cs)) (rounded u m (upper_end ps c cs))
AlikeAt u m ps (c ∷ cs) (suc (suc j)) = AlikeAt u m ps cs (suc j)
