-- A partial sum that holds the sum of parts has their ends.
use Rattle.std.proofs.Common.{◌<◌, List, [], ◌∷◌, ℤ, ◌<ℤ◌, Some, None, sym, subst, inl, inr, arith}
use borrow.Author.Differences.{ints}
use Rattle.batch.specs.Term.{column_weight}
use Rattle.column.specs.Parts.{Part}
use Rattle.column.specs.Columns.{Occupied}
use Rattle.column.specs.Ends.{reaching_below}
use Rattle.partial_sum.specs.Joints.{EndsAreEnds, ColumnsReached, SumsAbsorbed}

pub ends_are_ends : EndsAreEnds
ends_are_ends ps p c cs h = grind (arith, ints)

some_reach : (ps : List Part) (c d : ℤ) → d <ℤ c → Occupied ps d → 0 < reaching_below ps (column_weight c)
some_reach [] c d l there = absurd there
some_reach (p ∷ ps) c d l (inl (_, under)) = grind (arith, ints)
some_reach (p ∷ ps) c d l (inr there) = let h = some_reach ps c d l there in omega arith

pub columns_reached : ColumnsReached
columns_reached ps p c None h highest few = tt
columns_reached ps p c (Some d) h (occupied, below, _) few = (subst (λ (z : ℤ). d <ℤ z) (sym h.at) below, some_reach ps c d below occupied, few)

pub sums_absorbed : SumsAbsorbed
sums_absorbed ps p q c d t ds regular h down goes absorbed = grind (arith, ints, goes regular c ds down)
