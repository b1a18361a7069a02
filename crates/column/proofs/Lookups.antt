-- What a batch answers of a listed term is what its part has.
use Rattle.std.proofs.Common.{◌≡◌, ℕ, zero, suc, Bool, List, [], ◌∷◌, map, get_or, ℤ, pos, sym, refl, ◌∙◌, ap₂, arith}
use lib.Ieee.Digits.{size-le}
use borrow.Author.Differences.{ints}
use Rattle.exact.specs.Integers.{signed}
use Rattle.batch.specs.Term.{Term, not_a_number, infinite, signed_zero, regular, low_weight, top_weight, digit_at}
use Rattle.batch.specs.Lookup.{low_of_term, top_of_term, digit_of_term}
use Rattle.column.specs.declared.term.CountedTerm.{CountedTerm}
use Rattle.column.specs.Parts.{Part, part, low, top}
use Rattle.column.specs.Columns.{digit}
use Rattle.column.specs.Listed.{signed_part, listed_part}

-- ---- a part of 0
zero_digit : (s : Bool) (k : ℤ) → digit (part s 0 (pos 0)) k ≡ 0
zero_digit s k = omega (arith, ints)

zero_top : (s : Bool) → top (part s 0 (pos 0)) ≡ pos 0
zero_top s = let z = size-le 0 0 (omega arith) in omega (arith, ints)

-- ---- one term
signed_digit : (s : Bool) (k : ℤ) (t : Term) → digit (signed_part s t) k ≡ digit_at k t
signed_digit s k t = grind (arith, ints)

signed_low : (s : Bool) (t : Term) → low (signed_part s t) ≡ low_weight t
signed_low s t = grind (arith, ints)

signed_top : (s : Bool) (t : Term) → top (signed_part s t) ≡ top_weight t
signed_top s not_a_number = zero_top s
signed_top s (infinite r) = zero_top s
signed_top s (signed_zero r) = zero_top s
signed_top s (regular r m q) = refl

signed_sign : (s : Bool) (t : Term) → (signed_part s t).negative ≡ s
signed_sign s t = grind (arith, ints)

-- ---- the term at a place, or none
-- what two readings agree on of each term and of none, they agree on at each place
same_at_place : {X : Type 0} (s : Bool) (f : Part → X) (g : Term → X) (d : X) → ((t : Term) → f (signed_part s t) ≡ g t) → f (part s 0 (pos 0)) ≡ d
    → (ts : List Term) (i : ℕ) → f (get_or (map (signed_part s) ts) i (part s 0 (pos 0))) ≡ get_or (map g ts) i d
same_at_place s f g d each none [] i = none
same_at_place s f g d each none (t ∷ ts) zero = each t
same_at_place s f g d each none (t ∷ ts) (suc i) = same_at_place s f g d each none ts i

module _ (ts : List Term) (c : CountedTerm) where
  pub listed_digit : (k : ℤ) → digit (listed_part ts c) k ≡ digit_of_term ts c.place k
  listed_digit k = same_at_place c.negative (λ (p : Part). digit p k) (digit_at k) 0 (signed_digit c.negative k) (zero_digit c.negative k) ts c.place

  pub listed_low : low (listed_part ts c) ≡ low_of_term ts c.place
  listed_low = same_at_place c.negative low low_weight (pos 0) (signed_low c.negative) refl ts c.place

  pub listed_top : top (listed_part ts c) ≡ top_of_term ts c.place
  listed_top = same_at_place c.negative top top_weight (pos 0) (signed_top c.negative) (zero_top c.negative) ts c.place

  pub listed_sign : (listed_part ts c).negative ≡ c.negative
  listed_sign = same_at_place c.negative (λ (p : Part). p.negative) (λ t. c.negative) c.negative (signed_sign c.negative) refl ts c.place ∙ constant ts c.place
    where
      constant : (xs : List Term) (i : ℕ) → get_or (map (λ (t : Term). c.negative) xs) i c.negative ≡ c.negative
      constant [] i = refl
      constant (x ∷ xs) zero = refl
      constant (x ∷ xs) (suc i) = constant xs i

  pub signed_listed : (k : ℤ) (r : ℕ) → r ≡ digit_of_term ts c.place k → signed c.negative r ≡ signed (listed_part ts c).negative (digit (listed_part ts c) k)
  signed_listed k r e = ap₂ (λ (s : Bool) (n : ℕ). signed s n) (sym listed_sign) (e ∙ sym (listed_digit k))
