-- The two ends of a partial sum.
use Rattle.std.specs.Prelude.{◌≡◌, ℕ, ◌+◌, ◌<◌, ◌≤◌, Bool, true, false, ℤ, pos, ◌+ℤ◌, neg_ℤ, ◌<ℤ◌, Some, None, Option}
use Rattle.exact.specs.Dyadic.{Dyadic, dyadic, plus, negation}
use Rattle.batch.specs.Term.{column_weight}
use Rattle.partial_sum.specs.Lying.{Placed, Lies}
use Rattle.partial_sum.specs.Limits.{drop_between}
use Rattle.partial_sum.specs.Holding.{window, held}
use Rattle.partial_sum.specs.declared.sum.PartialSum.{PartialSum}
use Rattle.partial_sum.specs.declared.end.WindowEnd.{WindowEnd}

-- the partial sum as a number
abbrev pub number_held : PartialSum → Dyadic
number_held p = dyadic (held p) (column_weight p.column)

-- how far off it can be: n units just above the next occupied column, and 0 without one
abbrev pub bound_before : ℤ → ℕ → Option ℤ → Dyadic
bound_before c n None = dyadic (pos 0) (column_weight c)
bound_before c n (Some d) = dyadic (pos n) (column_weight (d +ℤ pos 1))

-- its two ends, where n parts reach below its column
abbrev pub lower_number : PartialSum → ℕ → Option ℤ → Dyadic
lower_number p n below = plus (number_held p) (negation (bound_before p.column n below))

abbrev pub upper_number : PartialSum → ℕ → Option ℤ → Dyadic
upper_number p n below = plus (number_held p) (bound_before p.column n below)

-- the next occupied column lies below, and some parts, at most 1,024, reach below the column of the sum
abbrev pub Reached : PartialSum → ℕ → Option ℤ → Type 0
Reached p n None = Unit {0}
Reached p n (Some d) = (d <ℤ p.column) × (0 < n) × (n ≤ 1024)

-- an end says where a number lies
abbrev pub LiesAt : PartialSum → WindowEnd → Dyadic → Type 0
LiesAt p e x = Lies e.partial (window p +ℤ e.offset) (column_weight p.lowest) x

-- so many units of the sum's column, seen from the window
abbrev pub PlacedAt : PartialSum → WindowEnd → ℤ → Type 0
PlacedAt p e n = Placed e.partial (drop_between p.lowest p.column) n e.offset

-- an offset at which so many units of the sum's column lie, wholly or in part
abbrev pub Between : PartialSum → ℤ → ℤ → Type 0
Between p n v = (partial : Bool) × Placed partial (drop_between p.lowest p.column) n v

-- v as a sign and a magnitude; a negative v from which a part of one unit is missing goes by the magnitude of the unit above it
abbrev pub Meant : Bool → Bool → ℕ → ℤ → Type 0
Meant false partial n v = v ≡ pos n
Meant true false n v = (v ≡ neg_ℤ (pos n)) × (0 < n)
Meant true true n v = v ≡ neg_ℤ (pos (n + 1))
