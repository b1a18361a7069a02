-- The list of the columns: falling, and just the occupied ones.
use Rattle.std.proofs.Common.{◌≡◌, ℕ, zero, suc, ◌⊎◌, ◌↔◌, List, [], ◌∷◌, ℤ, pos, ◌+ℤ◌, ◌≤ℤ◌, ◌<ℤ◌, inr, arith}
use borrow.Author.Differences.{ints}
use Rattle.std.specs.List.{AllByRecursion}
use Rattle.std.proofs.ByRecursion.{All-weaker}
use Rattle.batch.specs.Term.{column_weight}
use Rattle.column.specs.Parts.{Part}
use Rattle.column.specs.Columns.{Occupies, Occupied, column_of, height, with_column, with_columns, columns, Falling, Listed}

in_from : (k : ℤ) (cs : List ℤ) (x : ℤ) → Listed (with_column k cs) x → (x ≡ k) ⊎ Listed cs x
in_from k [] x = λ h. h
in_from k (c ∷ cs) x = grind (arith, ints, in_from k cs x)

in_to : (k : ℤ) (cs : List ℤ) (x : ℤ) → (x ≡ k) ⊎ Listed cs x → Listed (with_column k cs) x
in_to k [] x = λ h. h
in_to k (c ∷ cs) x = grind (arith, ints, in_to k cs x)

all_with : (P : ℤ → Type 0) (k : ℤ) (cs : List ℤ) → P k → AllByRecursion P cs → AllByRecursion P (with_column k cs)
all_with P k [] h a = (h, a)
all_with P k (c ∷ cs) h a = grind (arith, ints, all_with P k cs h a.1)

falling_with : (k : ℤ) (cs : List ℤ) → Falling cs → Falling (with_column k cs)
falling_with k [] d = (tt, tt)
falling_with k (c ∷ cs) (a, d) = grind (arith, ints, All-weaker, all_with, falling_with k cs d)

-- ---- a run of columns
abbrev Run : ℤ → ℕ → ℤ → Type 0
Run k n x = (k ≤ℤ x) × (x <ℤ (k +ℤ pos n))

run_from : (k : ℤ) (n : ℕ) (cs : List ℤ) (x : ℤ) → Listed (with_columns k n cs) x → Run k n x ⊎ Listed cs x
run_from k zero cs x i = inr i
run_from k (suc n) cs x i = grind (arith, ints, in_from, run_from k n cs x)

run_to : (k : ℤ) (n : ℕ) (cs : List ℤ) (x : ℤ) → Run k n x ⊎ Listed cs x → Listed (with_columns k n cs) x
run_to k zero cs x i = grind (arith, ints)
run_to k (suc n) cs x i = grind (arith, ints, in_to, run_to k n cs x)

falling_run : (k : ℤ) (n : ℕ) (cs : List ℤ) → Falling cs → Falling (with_columns k n cs)
falling_run k zero cs d = d
falling_run k (suc n) cs d = falling_with (k +ℤ pos n) (with_columns k n cs) (falling_run k n cs d)

-- ---- the columns of a part
pub floor_is : (z : ℤ) → (column_weight (column_of z) ≤ℤ z) × (z <ℤ column_weight (column_of z +ℤ pos 1))
floor_is z = grind (arith, ints)

run_occupies : (p : Part) (k : ℤ) → Run (column_of p.weight) (height p) k ↔ Occupies p k
run_occupies p k = grind (arith, ints)

pub columns_fall : (ps : List Part) → Falling (columns ps)
unfolding columns
columns_fall [] = tt
columns_fall (p ∷ ps) = falling_run (column_of p.weight) (height p) (columns ps) (columns_fall ps)

pub columns_occupied : (ps : List Part) (k : ℤ) → Listed (columns ps) k → Occupied ps k
unfolding columns
columns_occupied [] k i = i
columns_occupied (p ∷ ps) k i = grind (arith, ints, run_occupies, columns_occupied ps k, run_from)

pub occupied_columns : (ps : List Part) (k : ℤ) → Occupied ps k → Listed (columns ps) k
unfolding columns
occupied_columns [] k i = i
occupied_columns (p ∷ ps) k i = grind (arith, ints, run_occupies, occupied_columns ps k, run_to)
