-- Where a descent through the columns of a sum stands, and what one column more does to it.
use Rattle.std.specs.Prelude.{◌≡◌, ℕ, ◌+◌, List, ◌∷◌, ℤ, pos, ◌+ℤ◌, ◌≤ℤ◌}
use Rattle.grid.specs.Rounding.{Mode}
use Rattle.batch.specs.Term.{column_weight}
use Rattle.column.specs.Parts.{Part}
use Rattle.column.specs.Ends.{reaching_below}
use Rattle.column.specs.Claims.{Walked}
use Rattle.partial_sum.specs.Holding.{held, Absorbed}
use Rattle.partial_sum.specs.Joints.{Holds}
use Rattle.depth.specs.declared.descent.Descent.{Descent}

-- s is the descent at its first column c, which has the total t, and n parts reach below it
pub record Begun (t : ℤ) (n : ℕ) (c : ℤ) (s : Descent) : Type 0 where
  pub sum : held s.sum ≡ t
  pub sum_at : s.sum.column ≡ c
  pub lowest : s.sum.lowest ≡ c
  pub at : s.column ≡ c
  pub reaching : s.reaching ≡ n
  pub first : s.depth ≡ 1

-- q is the descent p with one column more, the column d with the total t, and n parts reach below it
pub record GoneOn (p : Descent) (t : ℤ) (n : ℕ) (d : ℤ) (q : Descent) : Type 0 where
  pub sum : Absorbed p.sum q.sum t d
  pub at : q.column ≡ d
  pub reaching : q.reaching ≡ n
  pub deeper : q.depth ≡ p.depth + 1

-- the descent has the sum of the parts as far as its column, and at no column before it the ends round alike. The columns lie within
-- 60,000,000 of 0, so that the last one is not far
pub record Stands (u : ℤ → ℤ) (m : Mode) (ps : List Part) (s : Descent) : Type 0 where
  pub holds : Holds ps s.sum s.column
  pub reaching : s.reaching ≡ reaching_below ps (column_weight s.column)
  pub passed : ℕ
  pub further : List ℤ
  pub walked : Walked u m ps passed (s.column ∷ further)
  pub counted : s.depth ≡ passed + 1
  pub not_high : s.sum.lowest ≤ℤ pos 60000000
  pub not_far : (pos s.depth +ℤ s.column) ≤ℤ pos 60000001
