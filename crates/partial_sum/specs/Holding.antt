-- What number a partial sum holds, and what absorbing a column makes of it.
use Rattle.std.specs.Prelude.{◌≡◌, ℕ, ◌^◌, ◌<◌, ◌≤◌, ◌⊎◌, ℤ, pos, ◌+ℤ◌, ◌-ℤ◌, ◌≤ℤ◌, ◌<ℤ◌, unsigned_abs}
use Rattle.exact.specs.Integers.{scale}
use Rattle.partial_sum.specs.Limits.{Fields, drop_between, slot_of, head_of, window_of, held_of, most_total}
use Rattle.partial_sum.specs.declared.sum.PartialSum.{PartialSum}

abbrev pub fields : PartialSum → Fields
fields p = record { totals = p.totals; from = p.from; lowest = p.lowest; column = p.column; rest = p.rest }

-- the total in a slot
abbrev pub slot : PartialSum → ℕ → ℤ
slot p k = slot_of (fields p) k

-- the head: the most significant total, in the last slot
abbrev pub head : PartialSum → ℤ
head p = head_of (fields p)

-- the window's number, in units of its lowest column
abbrev pub window : PartialSum → ℤ
window p = window_of (fields p)

-- the number that the partial sum holds, in units of its column
abbrev pub held : PartialSum → ℤ
held p = held_of (fields p)

-- a total can be absorbed at a column: it is further down, and the rest is small, and 0 before a gap
pub record Absorbs (p : PartialSum) (t d : ℤ) : Type 0 where
  pub further : d <ℤ p.column
  pub total : unsigned_abs t ≤ most_total
  pub rest_few : unsigned_abs p.rest ≤ 1024
  pub rest_none : (d +ℤ pos 1) <ℤ p.column → p.rest ≡ pos 0

-- the head alone is the window, and stays small enough to take the total of the column d in
pub record Folds (p : PartialSum) (d : ℤ) : Type 0 where
  pub alone : p.from ≡ 129
  pub small : unsigned_abs (head p) < 2 ^ 20
  pub next : (p.column ≡ d +ℤ pos 1) ⊎ (head p ≡ pos 0)

-- otherwise a head that is alone is not 0, and it is large or followed by a gap
pub record Appends (p : PartialSum) (d : ℤ) : Type 0 where
  pub some : p.from ≡ 129 → 0 < unsigned_abs (head p)
  pub spaced : p.from ≡ 129 → unsigned_abs (head p) < 2 ^ 20 → (d +ℤ pos 1) <ℤ p.column

-- the window goes k columns further down, to the column d or as far as there is room
pub record Lowers (p : PartialSum) (k : ℕ) (d : ℤ) : Type 0 where
  pub room : k ≤ p.from
  pub reach : d ≤ℤ (p.lowest -ℤ pos k)
  pub full : d <ℤ (p.lowest -ℤ pos k) → p.from ≡ k

-- q is p with the total t of the column d
pub record Absorbed (p q : PartialSum) (t d : ℤ) : Type 0 where
  pub value : held q ≡ scale (held p) (drop_between p.column d) +ℤ t
  pub at : q.column ≡ d
  pub no_higher : q.lowest ≤ℤ p.lowest
