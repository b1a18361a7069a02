-- How far down a column may still go.
use Rattle.std.proofs.Common.{ℕ, suc, ◌<◌, ℤ, pos, neg_ℤ, ◌≤ℤ◌, Some, None, Option, IfSome, arith}
use borrow.Author.Differences.{ints}
use Rattle.exact.specs.Integers.{gap}
use Rattle.column.specs.Walk.{Highest}

-- the columns from the lowest number up to this one; none where there is no column
pub height : Option ℤ → ℕ
height None = 0
height (Some c) = suc (gap c (neg_ℤ (pos 2147483648)))

-- the next column lies lower
pub lower : (Q : ℤ → Type 0) (b : ℤ) (o : Option ℤ) → IfSome o (λ c. neg_ℤ (pos 2147483648) ≤ℤ c) → Highest b Q o → height o < height (Some b)
unfolding height
lower Q b None from highest = omega arith
lower Q b (Some c) from highest = omega (arith, ints, highest.1, from)
