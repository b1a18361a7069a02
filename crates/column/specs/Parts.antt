-- The parts of a sum: signed numbers m * 2 ^ q, their exact sum, and how much of each lies above a weight.
use Rattle.std.specs.Prelude.{ℕ, ◌+◌, ◌<◌, Bool, cond, List, [], ◌∷◌, map, ℤ, pos, ◌+ℤ◌}
use Rattle.std.specs.List.{AllByRecursion}
use Rattle.exact.specs.Integers.{signed}
use Rattle.exact.specs.Dyadic.{Dyadic, dyadic, total}
use Rattle.batch.specs.Term.{Term, regular, low_weight, top_weight, whole_units}

-- the number significand * 2 ^ weight, or minus that
pub record Part : Type 0 where
  pub negative : Bool
  pub significand : ℕ
  pub weight : ℤ

-- the part with this sign, significand and weight
abbrev pub part : Bool → ℕ → ℤ → Part
part s m q = record { negative = s; significand = m; weight = q }

-- no part is 0
abbrev pub Regular : List Part → Type 0
Regular = AllByRecursion (λ p. 0 < p.significand)

-- the regular term that it is
abbrev pub as_term : Part → Term
as_term p = regular p.negative p.significand p.weight

-- its low weight and its top weight
abbrev pub low : Part → ℤ
low p = low_weight (as_term p)

abbrev pub top : Part → ℤ
top p = top_weight (as_term p)

-- the part as an exact number
abbrev pub number : Part → Dyadic
number p = dyadic (signed p.negative p.significand) p.weight

-- the exact sum
abbrev pub exact_sum : List Part → Dyadic
exact_sum ps = total (map number ps)

-- how many whole units of 2 ^ w the magnitude has
abbrev pub units : Part → ℤ → ℕ
units p w = whole_units p.significand p.weight w

-- the sum of a magnitude of each part, with the parts' signs
abbrev pub signed_sum : (Part → ℕ) → List Part → ℤ
signed_sum f [] = pos 0
signed_sum f (p ∷ ps) = signed p.negative (f p) +ℤ signed_sum f ps

-- how many parts pass a test
abbrev pub tally : (Part → Bool) → List Part → ℕ
tally t [] = 0
tally t (p ∷ ps) = cond (t p) 1 0 + tally t ps
