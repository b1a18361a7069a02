-- The fields of a partial sum, the number that they hold, and the limits that they keep to.
use Rattle.std.specs.Prelude.{◌≡◌, ℕ, ◌+◌, ◌^◌, ◌<◌, ◌≤◌, List, drop, ℤ, pos, ◌+ℤ◌, ◌≤ℤ◌, neg_ℤ, ◌<ℤ◌, slice_index_or, unsigned_abs}
use Rattle.exact.specs.Integers.{gap, scale}
use Rattle.batch.specs.Term.{column_weight}
use Rattle.totals.specs.Totals.{totals_value}
use Rattle.ends.specs.Ends.{furthest_column}

pub record Fields : Type 0 where
  pub totals : List ℤ
  pub from : ℕ
  pub lowest : ℤ
  pub column : ℤ
  pub rest : ℤ

-- the column of one total further down: how often a unit of the column c holds a unit of the column d below it, as an exponent of 2
abbrev pub drop_between : ℤ → ℤ → ℕ
drop_between c d = gap (column_weight c) (column_weight d)

-- the total in a slot
abbrev pub slot_of : Fields → ℕ → ℤ
slot_of p k = slice_index_or p.totals k (pos 0)

-- the head: the most significant total, in the last slot
abbrev pub head_of : Fields → ℤ
head_of p = slot_of p 129

-- the window's number, in units of its lowest column
abbrev pub window_of : Fields → ℤ
window_of p = totals_value (drop p.from p.totals)

-- the number that they hold, in units of the column
abbrev pub held_of : Fields → ℤ
held_of p = scale (window_of p) (drop_between p.lowest p.column) +ℤ p.rest

-- the most that a column's total can be: 1,024 digits of 32 bits
abbrev pub most_total : ℕ
most_total = 2 ^ 42

-- below the head each total is within this bound
abbrev pub TotalsWithin : ℕ → Fields → Type 0
TotalsWithin most p = (k : ℕ) → k < 129 → unsigned_abs (slot_of p k) ≤ most

-- how the window and the rest lie, with the bounds that do not depend on a carry
pub record Shaped (p : Fields) : Type 0 where
  pub order : p.column ≤ℤ p.lowest
  pub open_rest : p.column ≡ p.lowest → p.rest ≡ pos 0
  pub closed_full : p.column <ℤ p.lowest → p.from ≡ 0
  pub unused : (k : ℕ) → k < p.from → slot_of p k ≡ pos 0
  pub head_small : unsigned_abs (head_of p) ≤ 2 ^ 52 + 2 ^ 42
  pub head_some : p.from < 129 → 0 < unsigned_abs (head_of p)
  pub head_large : p.from < 129 → unsigned_abs (head_of p) < 2 ^ 20 → slot_of p 128 ≡ pos 0
  pub rest_small : unsigned_abs p.rest ≤ 2 ^ 43

-- the limits that a partial sum keeps to. Right below the window the rest is within half a unit of the window's lowest column
pub record Sound (p : Fields) : Type 0 where
  pub shaped : Shaped p
  pub open_totals : p.column ≡ p.lowest → TotalsWithin most_total p
  pub all_totals : TotalsWithin (2 ^ 42 + 2 ^ 11) p
  pub near_rest : p.column +ℤ pos 1 ≡ p.lowest → unsigned_abs p.rest ≤ 2 ^ 31

-- a column from which an end can be rounded
pub record InReach (c : ℤ) : Type 0 where
  pub from : neg_ℤ (pos furthest_column) ≤ℤ c
  pub upto : c ≤ℤ pos furthest_column
