-- The fault and the term of one record whose limbs stand behind a pool.
use Rattle.std.proofs.Common.{◌≡◌, ℕ, ◌+◌, ◌≤◌, Bool, true, false, cond, List, ◌++◌, length, take, drop, ℤ, pos, neg_ℤ, Some, None, Option, sym, refl, ap, ap₂, ◌∙◌, arith, length-append, le-ltb, lt-ltb, eq-eqb}
use Rattle.std.specs.Prelude.{nat_lt, int_lt, ◌==◌}
use Rattle.std.proofs.lemmas.List.{take_all}
use Rattle.std.proofs.Math.Seq.{drop-append_seam}
use Rattle.std.proofs.lemmas.Bool.{ne_eqb, eqb-false}
use borrow.Author.Tests.{ltb-false, eqb-true}
use Rattle.batch.specs.Term.{most_digits, farthest_top}
use Rattle.batch.specs.declared.fault.RecordFault.{RecordFault}
use Rattle.batch.specs.declared.fault.RecordFault.TheVariants.{PrecisionOutOfRange, ExponentOutOfRange, LimbsPastPool}
use Rattle.batch.specs.declared.fault.BatchFault.TheVariants.{AtRecord}
use Rattle.limb_batch.specs.Records.{limbs_for, record_term}
use Rattle.limb_batch.specs.Opening.{limbs_fault, record_fault, fault_at}
use Rattle.text_terms.specs.Meaning.{term_fault, term_meant, regular_record}

-- the fault of the precision or of the exponent, or else of the rest
abbrev pub after_ranges : ℤ → ℕ → Option RecordFault → Option RecordFault
after_ranges e p rest =
    cond (nat_lt p 1) (Some PrecisionOutOfRange)
    (cond (nat_lt most_digits p) (Some PrecisionOutOfRange)
    (cond (int_lt e (neg_ℤ (pos farthest_top))) (Some ExponentOutOfRange)
    (cond (int_lt (pos farthest_top) e) (Some ExponentOutOfRange) rest)))

-- the rest counts only of some digits
after_ranges-some : (e : ℤ) (p : ℕ) (f g : Option RecordFault) → (1 ≤ p → f ≡ g) → after_ranges e p f ≡ after_ranges e p g
after_ranges-some e p f g h = by_test (nat_lt p 1) refl
  where
    rest : Option RecordFault → Option RecordFault
    rest f = cond (nat_lt most_digits p) (Some PrecisionOutOfRange) (cond (int_lt e (neg_ℤ (pos farthest_top))) (Some ExponentOutOfRange) (cond (int_lt (pos farthest_top) e) (Some ExponentOutOfRange) f))

    by_test : (b : Bool) → nat_lt p 1 ≡ b → cond b (Some PrecisionOutOfRange) (rest f) ≡ cond b (Some PrecisionOutOfRange) (rest g)
    by_test true t = refl
    by_test false t = ap rest (h (ltb-false p 1 t))

-- a test that gives a fault was passed
passed : {X : Type 0} (b : Bool) (x : X) (rest : Option X) → cond b (Some x) rest ≡ None → rest ≡ None
passed true x rest h = cc
passed false x rest h = h

-- so were those of the precision and the exponent
after_ranges-none : (e : ℤ) (p : ℕ) (f : Option RecordFault) → after_ranges e p f ≡ None → f ≡ None
after_ranges-none e p f h =
    passed (int_lt (pos farthest_top) e) ExponentOutOfRange f
    (passed (int_lt e (neg_ℤ (pos farthest_top))) ExponentOutOfRange _
    (passed (nat_lt most_digits p) PrecisionOutOfRange _
    (passed (nat_lt p 1) PrecisionOutOfRange _ h)))

-- a term without a fault has as many limbs as it takes
pub whole_limbs : (e : ℤ) (p : ℕ) (limbs : List ℕ) → term_fault e p limbs ≡ None → length limbs ≡ limbs_for p
whole_limbs e p limbs h = by_test (length limbs == limbs_for p) refl (after_ranges-none e p _ h)
  where
    by_test : (b : Bool) → (length limbs == limbs_for p) ≡ b → cond b (limbs_fault limbs p) (Some LimbsPastPool) ≡ None → length limbs ≡ limbs_for p
    by_test true t g = eqb-true _ _ t
    by_test false t g = cc

module _ (pool : List ℕ) (e : ℤ) (p : ℕ) where
  -- the fault of a record whose limbs begin where the pool ends, over what it sees of the pool
  record_fault-behind : (negative : Bool) (seen : List ℕ) → record_fault seen (regular_record negative e p (length pool))
      ≡ after_ranges e p (cond (nat_lt (length seen) (length pool + limbs_for p)) (Some LimbsPastPool) (limbs_fault (take (limbs_for p) (drop (length pool) seen)) p))
  record_fault-behind true seen = refl
  record_fault-behind false seen = refl

  -- its term
  record_term-behind : (negative : Bool) (seen : List ℕ) → record_term seen (regular_record negative e p (length pool)) ≡ term_meant negative e p (take (limbs_for p) (drop (length pool) seen))
  record_term-behind true seen = refl
  record_term-behind false seen = refl

module _ (pool limbs : List ℕ) (negative : Bool) (e : ℤ) (p : ℕ) where
  limbs_behind : length limbs ≡ limbs_for p → take (limbs_for p) (drop (length pool) (pool ++ limbs)) ≡ limbs
  limbs_behind whole = ap (take (limbs_for p)) (drop-append_seam pool limbs) ∙ take_all (limbs_for p) limbs (omega arith)

  -- with as many limbs as it takes
  fault_whole : length limbs ≡ limbs_for p → record_fault (pool ++ limbs) (regular_record negative e p (length pool)) ≡ term_fault e p limbs
  fault_whole whole =
      record_fault-behind pool e p negative (pool ++ limbs)
      ∙ after_ranges-some e p _ _
      (λ some. ap₂ (λ (b : Bool) (xs : List ℕ). cond b (Some LimbsPastPool) (limbs_fault xs p)) (le-ltb _ _ (rw length-append (omega arith))) (limbs_behind whole)
      ∙ sym (ap (λ (b : Bool). cond b (limbs_fault limbs p) (Some LimbsPastPool)) (eq-eqb _ _ whole)))

  -- with more or fewer, and none of them seen
  fault_broken : ¬ (length limbs ≡ limbs_for p) → record_fault pool (regular_record negative e p (length pool)) ≡ term_fault e p limbs
  fault_broken broken =
      record_fault-behind pool e p negative pool
      ∙ after_ranges-some e p _ _
      (λ some. ap (λ (b : Bool). cond b (Some LimbsPastPool) (limbs_fault (take (limbs_for p) (drop (length pool) pool)) p)) (lt-ltb _ _ (omega arith))
      ∙ sym (ap (λ (b : Bool). cond b (limbs_fault limbs p) (Some LimbsPastPool)) (ne_eqb _ _ broken)))

  -- so it has the fault of the term
  pub fault_seen : (n : ℕ) → length limbs ≡ n → record_fault (cond (n == limbs_for p) (pool ++ limbs) pool) (regular_record negative e p (length pool)) ≡ term_fault e p limbs
  fault_seen n many = by_test (n == limbs_for p) refl
    where
      by_test : (b : Bool) → (n == limbs_for p) ≡ b → record_fault (cond b (pool ++ limbs) pool) (regular_record negative e p (length pool)) ≡ term_fault e p limbs
      by_test true t = fault_whole (many ∙ eqb-true _ _ t)
      by_test false t = fault_broken (λ whole. eqb-false _ _ t (sym many ∙ whole))

  -- and where that has none, the record has none over all limbs, and is the term
  pub none_behind : term_fault e p limbs ≡ None → record_fault (pool ++ limbs) (regular_record negative e p (length pool)) ≡ None
  none_behind none = fault_whole (whole_limbs e p limbs none) ∙ none

  pub term_behind : term_fault e p limbs ≡ None → record_term (pool ++ limbs) (regular_record negative e p (length pool)) ≡ term_meant negative e p limbs
  term_behind none = record_term-behind pool e p negative (pool ++ limbs) ∙ ap (term_meant negative e p) (limbs_behind (whole_limbs e p limbs none))

-- ---- its place among the records
-- the fault that one record alone gets, at the place where it is to stand
pub fault_placed : (i j : ℕ) (f : Option RecordFault) (g : RecordFault) → Some (AtRecord i g) ≡ fault_at 0 f None → Some (AtRecord j g) ≡ fault_at j f None
fault_placed i j None g h = cc
fault_placed i j (Some k) g h = cc

-- where it gets none, it has none
pub no_fault_at : (i : ℕ) (f : Option RecordFault) → None ≡ fault_at i f None → f ≡ None
no_fault_at i None h = refl
no_fault_at i (Some k) h = cc
