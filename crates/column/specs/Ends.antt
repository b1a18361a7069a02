-- The sum as far as a column, how far off it can be, and the two ends between which the exact sum then lies.
use Rattle.std.specs.Prelude.{ℕ, List, [], ◌∷◌, ℤ, pos, ◌+ℤ◌, int_lt}
use Rattle.exact.specs.Dyadic.{Dyadic, dyadic, plus, negation}
use Rattle.batch.specs.Term.{column_weight}
use Rattle.column.specs.Parts.{Part, low, units, signed_sum, tally}

-- the signed sum of the parts, each magnitude cut to a multiple of 2 ^ w
abbrev pub cut_sum : List Part → ℤ → Dyadic
cut_sum ps w = dyadic (signed_sum (λ p. units p w) ps) w

-- how many parts have a low weight below w
abbrev pub reaching_below : List Part → ℤ → ℕ
reaching_below ps w = tally (λ p. int_lt (low p) w) ps

-- P: the sum as far as the column c
abbrev pub sum_down_to : List Part → ℤ → Dyadic
sum_down_to ps c = cut_sum ps (column_weight c)

-- B: how far off it can be, where the second argument has the occupied columns below c. For each part that goes on below c it is one
-- unit of the weight just above the next of them; and it is 0 at the last column
abbrev pub bound : List Part → ℤ → List ℤ → Dyadic
bound ps c [] = dyadic (pos 0) (column_weight c)
bound ps c (d ∷ ds) = dyadic (pos (reaching_below ps (column_weight c))) (column_weight (d +ℤ pos 1))

-- the two ends at the column c: P - B and P + B
abbrev pub lower_end : List Part → ℤ → List ℤ → Dyadic
lower_end ps c cs = plus (sum_down_to ps c) (negation (bound ps c cs))

abbrev pub upper_end : List Part → ℤ → List ℤ → Dyadic
upper_end ps c cs = plus (sum_down_to ps c) (bound ps c cs)
