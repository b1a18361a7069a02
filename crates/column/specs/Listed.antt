-- What a term that counts stands for.
use Rattle.std.specs.Prelude.{◌<◌, Bool, List, map, ℤ, pos, Option, slice_index_or}
use Rattle.std.specs.Coded.{le_prop}
use Rattle.std.specs.List.{AllByRecursion-prop}
use Rattle.batch.specs.Term.{Term, not_a_number, infinite, signed_zero, regular}
use Rattle.column.specs.declared.term.CountedTerm.{CountedTerm}
use Rattle.column.specs.Parts.{Part, part, low, top, Regular}
use Rattle.column.specs.Walk.{highest_spanned}

-- a term with another sign as a part; a part of 0 where the term is not regular
abbrev pub signed_part : Bool → Term → Part
signed_part s not_a_number = part s 0 (pos 0)
signed_part s (infinite t) = part s 0 (pos 0)
signed_part s (signed_zero t) = part s 0 (pos 0)
signed_part s (regular t m q) = part s m q

-- the part that one listed term stands for among the terms of a batch; a part of 0 past the last term
abbrev pub listed_part : List Term → CountedTerm → Part
listed_part ts c = slice_index_or (map (signed_part c.negative) ts) c.place (part c.negative 0 (pos 0))

-- the parts that some of them stand for
abbrev pub parts_listed : List Term → List CountedTerm → List Part
parts_listed ts cs = map (listed_part ts) cs

-- none of these is 0
abbrev pub RegularListed : List Term → List CountedTerm → Type 0
RegularListed ts cs = Regular (parts_listed ts cs)

pub RegularListed-prop : (ts : List Term) (cs : List CountedTerm) → IsProp (RegularListed ts cs)
RegularListed-prop ts cs = AllByRecursion-prop (λ (p : Part). 0 < p.significand) (λ p. le_prop) (parts_listed ts cs)

-- the highest column below the column b that a listed term occupies, if there is one
abbrev pub highest_occupied : List Term → ℤ → CountedTerm → Option ℤ
highest_occupied ts b c = highest_spanned (low (listed_part ts c)) (top (listed_part ts c)) b
