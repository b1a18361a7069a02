-- A term that was written reads back as itself.
use Rattle.std.proofs.Common.{◌≡◌, ℕ, ◌-◌, ◌*◌, ◌/◌, ◌%◌, ◌^◌, ◌<◌, ◌≤◌, Bool, false, List, [], ◌∷◌, length, get_or, ℤ, pos, ◌+ℤ◌, ◌-ℤ◌, neg_ℤ, ◌≤ℤ◌, None, sym, refl, ap, ◌∙◌, eq-eqb, arith}
use Rattle.std.specs.Prelude.{int_lt}
use Rattle.std.specs.List.{AllByRecursion}
use Rattle.std.specs.Float.Ieee.{size}
use Rattle.std.proofs.lemmas.Int.{ints}
use Rattle.std.proofs.lemmas.Bool.{le-ltb}
use Rattle.std.proofs.lemmas.Nat.{shl-shr}
use Rattle.exact.specs.Limbs.{limbs_value}
use Rattle.answers.proofs.LimbLists.{value_of_limbs}
use Rattle.batch.specs.Term.{Term, not_a_number, infinite, signed_zero, regular, Limited, RegularLimits, most_digits, farthest_top}
use Rattle.limb_batch.specs.Records.{limbs_for, spare_bits}
use Rattle.limb_batch.specs.Opening.{limbs_fault}
use Rattle.forms.specs.Parts.{bracketed}
use Rattle.forms.specs.Forms.{fields, WellFormed}
use Rattle.form_reader.proofs.Lines.{reading-complete}
use Rattle.text_terms.specs.Meaning.{IsTerm, term_fault}
use Rattle.term_writer.specs.Lines.{form_of_term, significand_of}
use Rattle.term_writer.specs.ReadsBack.{ReadsBack}
use Rattle.term_writer.proofs.Limbs.{length-limbs_of, words-limbs_of}
use Rattle.term_writer.proofs.Significands.{significand_fits, top_bit_set, low_bits_clear}

-- an integer that is at least another is not below it
not_less : (a b : ℤ) → b ≤ℤ a → int_lt a b ≡ false
not_less a b h = grind (arith, ints)

-- the limbs of a number have no fault
limbs_accepted : (m : ℕ) → 0 < size m → limbs_fault (significand_of m (size m)) (size m) ≡ None
limbs_accepted m h =
    let xs = significand_of m (size m) in
    let top : 2 ^ 31 ≤ get_or xs (length xs - 1) 0 = rw (length-limbs_of (limbs_for (size m)) (m * 2 ^ spare_bits (size m))) (top_bit_set m h) in
    rw (le-ltb (get_or xs (length xs - 1) 0) (2 ^ 31) top, eq-eqb (get_or xs 0 0 % 2 ^ spare_bits (size m)) 0 (low_bits_clear m h)) refl

-- nor has its term
regular_accepted : (m : ℕ) (q : ℤ) → RegularLimits m q → term_fault (q +ℤ pos (size m)) (size m) (significand_of m (size m)) ≡ None
regular_accepted m q l =
    let p = size m in
    let e = q +ℤ pos p in
    rw (
      le-ltb p 1 l.some_digit,
      le-ltb most_digits p l.few_digits,
      not_less e (neg_ℤ (pos farthest_top)) l.not_below,
      not_less (pos farthest_top) e l.not_above,
      eq-eqb (length (significand_of m p)) (limbs_for p) (length-limbs_of (limbs_for p) (m * 2 ^ spare_bits p)),
    ) (limbs_accepted m l.some_digit)

-- the first digits of the limbs are the number again
number_restored : (m : ℕ) → limbs_value (significand_of m (size m)) / 2 ^ spare_bits (size m) ≡ m
number_restored m =
    ap (λ v. v / 2 ^ spare_bits (size m)) (value_of_limbs (limbs_for (size m)) (m * 2 ^ spare_bits (size m)) (significand_fits m))
    ∙ shl-shr m (spare_bits (size m))

-- nor is its weight lost
weight_restored : (q : ℤ) (p : ℕ) → (q +ℤ pos p) -ℤ pos p ≡ q
weight_restored q p = omega (arith, ints)

-- so the form of a regular term means it
regular_meant : (k : Bool) (m : ℕ) (q : ℤ) → RegularLimits m q → IsTerm (form_of_term (regular k m q)) (regular k m q)
regular_meant k m q l = (regular_accepted m q l, sym (λ i. regular k (number_restored m i) (weight_restored q (size m) i)))

-- and it has a spelling
regular_spelled : (k : Bool) (m : ℕ) (q : ℤ) → RegularLimits m q → WellFormed (form_of_term (regular k m q))
regular_spelled k m q l =
    let n = limbs_for (size m) in
    let v = m * 2 ^ spare_bits (size m) in
    (omega (arith, ints, l), omega (arith, l), record { some = omega (arith, length-limbs_of n v, l); each = words-limbs_of n v })

-- what has a spelling is read
restored : (t : Term) → WellFormed (form_of_term t) → IsTerm (form_of_term t) t → ReadsBack t
restored t w m = record { well_formed = w; means = m; read = reading-complete (form_of_term t) (bracketed (fields (form_of_term t))) w refl }

-- one term
term_restored : (t : Term) → Limited t → ReadsBack t
term_restored not_a_number l = restored not_a_number tt refl
term_restored (infinite k) l = restored (infinite k) tt refl
term_restored (signed_zero k) l = restored (signed_zero k) tt refl
term_restored (regular k m q) l = restored (regular k m q) (regular_spelled k m q l) (regular_meant k m q l)

-- every term of a batch
pub all_restored : (ts : List Term) → AllByRecursion Limited ts → AllByRecursion ReadsBack ts
all_restored [] l = tt
all_restored (t ∷ ts) (h, l) = (term_restored t h, all_restored ts l)
