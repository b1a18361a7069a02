-- Which terms count, and with which sign: the parts of a sum, from the marks of the places and a list of terms.
use Rattle.std.specs.Prelude.{ℕ, suc, not, List, [], ◌∷◌, ◌++◌, map}
use Rattle.batch.specs.Term.{Term, not_a_number, infinite, signed_zero, regular}
use Rattle.sheet.specs.declared.mark.Mark.{Mark}
use Rattle.sheet.specs.declared.mark.Mark.TheVariants.{Out, In, Turned}
use Rattle.column.specs.Parts.{Part, part}

-- the part that a term is, if it is regular
abbrev pub regular_part : Term → List Part
regular_part not_a_number = []
regular_part (infinite s) = []
regular_part (signed_zero s) = []
regular_part (regular s m q) = part s m q ∷ []

-- the part with the other sign
abbrev pub turned : Part → Part
turned p = part (not p.negative) p.significand p.weight

-- the part that a term counts as under a mark, if it counts
abbrev pub counted_part : Mark → Term → List Part
counted_part Out t = []
counted_part In t = regular_part t
counted_part Turned t = map turned (regular_part t)

-- the parts of terms that stand at the places from i on
abbrev pub parts_from : (ℕ → Mark) → ℕ → List Term → List Part
parts_from marks i [] = []
parts_from marks i (t ∷ ts) = counted_part (marks i) t ++ parts_from marks (suc i) ts

-- the parts of a list of terms, the first at the place 0
abbrev pub parts_of : (ℕ → Mark) → List Term → List Part
parts_of marks ts = parts_from marks 0 ts
