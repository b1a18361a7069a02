-- The ends of a counted term's columns.
use Rattle.std.specs.Prelude.{◌≡◌, ◌⊎◌, ℕ, ◌<◌, ◌≤◌, Bool, cond, ◌&&◌, List, ℤ, pos, ◌-ℤ◌, ◌≤ℤ◌, ◌<ℤ◌, int_lt, int_le, Option, Some, None, slice_index_or}
use Rattle.std.specs.Int.{int_min}
use Rattle.std.specs.List.{All}
use Rattle.std.specs.Ordering.{int_cmp, max_by_ordering}
use Rattle.batch.specs.Term.{Term}
use Rattle.column.specs.declared.term.CountedTerm.{CountedTerm}
use Rattle.column.specs.declared.term.Edge.{Edge}
use Rattle.column.specs.declared.term.Edge.TheVariants.{First, Last}
use Rattle.column.specs.Parts.{low, top}
use Rattle.column.specs.Columns.{column_of}
use Rattle.column.specs.Listed.{listed_part}

-- the column at an end
abbrev pub edge_column : Edge → CountedTerm → ℤ
edge_column First c = c.first
edge_column Last c = c.last

-- the ends are those of the part: the columns of its highest and of its lowest weight
pub record Spanning (ts : List Term) (c : CountedTerm) : Type 0 where
  pub first : c.first ≡ column_of (top (listed_part ts c) -ℤ pos 1)
  pub last : c.last ≡ column_of (low (listed_part ts c))

abbrev pub SpansListed : List Term → List CountedTerm → Type 0
SpansListed ts cs = All (Spanning ts) cs

-- does it occupy the column right below the column b?
abbrev pub occupies_next : ℤ → CountedTerm → Bool
occupies_next b c = int_lt c.last b && int_le (b -ℤ pos 1) c.first

-- the highest column below the column b that it occupies, if there is one
abbrev pub highest_below : ℤ → CountedTerm → Option ℤ
highest_below b c = cond (int_lt c.last b) (Some (int_min c.first (b -ℤ pos 1))) None

-- the end lies at the column k or above it
abbrev pub From : Edge → ℤ → CountedTerm → Type 0
From e k c = k ≤ℤ edge_column e c

-- the end lies below the column k, and not above the column h
abbrev pub Below : Edge → ℤ → ℤ → CountedTerm → Type 0
Below e k h c = (edge_column e c <ℤ k) × (edge_column e c ≤ℤ h)

-- two lists agree but for the places from one up to another
abbrev pub SameOutside : List CountedTerm → List CountedTerm → ℕ → ℕ → Type 0
SameOutside xs ys from to = (k : ℕ) (d : CountedTerm) → (k < from) ⊎ (to ≤ k) → slice_index_or ys k d ≡ slice_index_or xs k d

-- the greater of two columns, as a maximum over many picks it
abbrev pub picked : ℤ → ℤ → ℤ
picked p z = max_by_ordering (int_cmp p z) p z
