-- Records without a fault, over a pool that grows and with one more record behind them.
use Rattle.std.proofs.Common.{◌≡◌, ℕ, ◌+◌, ◌<◌, ◌≤◌, Bool, true, false, cond, List, [], ◌∷◌, ◌++◌, length, take, drop, ℤ, is_some, Some, None, Option, sym, refl, ap, ap₂, ◌∙◌, arith, length-append, length-drop, length-take-le, le-ltb}
use Rattle.std.specs.Prelude.{nat_lt}
use Rattle.std.proofs.lemmas.List.{take-append-le, drop-append-le, map-append, length-map}
use Rattle.std.specs.List.{AllByRecursion}
use Rattle.std.proofs.ByRecursion.{All-append, All-weaker}
use borrow.Author.Tests.{clash}
use Rattle.batch.specs.Term.{Term, most_terms}
use Rattle.batch.specs.TermKinds.{kind_numbered, kind_is_regular, term_of_kind}
use Rattle.batch.specs.declared.kind.Kind.{Kind}
use Rattle.batch.specs.declared.kind.Kind.TheVariants.{Positive, Negative}
use Rattle.batch.specs.declared.fault.RecordFault.{RecordFault}
use Rattle.batch.specs.declared.fault.RecordFault.TheVariants.{LimbsPastPool}
use Rattle.limb_batch.specs.declared.record.LimbRecord.{LimbRecord}
use Rattle.limb_batch.specs.Records.{limbs_for, significand, record_term, record_terms}
use Rattle.limb_batch.specs.Opening.{limbs_fault, regular_fault, fault_by_kind, record_fault, fault_at, first_fault, opening_fault}
use Rattle.limb_batch.specs.SoundRecords.{none_refused, sound}
use Rattle.text_terms.proofs.Faults.{after_ranges}

-- a record has no fault
abbrev pub Faultless : List ℕ → LimbRecord → Type 0
Faultless pool r = is_some (record_fault pool r) ≡ false

-- an option without a value is None
pub none_there : {X : Type 0} (o : Option X) → is_some o ≡ false → o ≡ None
none_there None h = refl
none_there (Some x) h = absurd (clash (sym h))

-- only of a regular kind the fault of the rest counts
fault_by_kind-regular : (k : Kind) (f g : Option RecordFault) → (kind_is_regular k ≡ true → f ≡ g) → fault_by_kind k f ≡ fault_by_kind k g
fault_by_kind-regular Positive f g h = h refl
fault_by_kind-regular Negative f g h = h refl
fault_by_kind-regular _ f g h = refl

-- only of a regular kind the digits count
term_of_kind-regular : (k : Kind) (m n : ℕ) (q : ℤ) → (kind_is_regular k ≡ true → m ≡ n) → term_of_kind k m q ≡ term_of_kind k n q
term_of_kind-regular Positive m n q h = ap (λ (x : ℕ). term_of_kind Positive x q) (h refl)
term_of_kind-regular Negative m n q h = ap (λ (x : ℕ). term_of_kind Negative x q) (h refl)
term_of_kind-regular _ m n q h = refl

-- ---- one record
module _ (pool more : List ℕ) (r : LimbRecord) where
  inside_grown : r.place + limbs_for r.precision ≤ length pool → nat_lt (length (pool ++ more)) (r.place + limbs_for r.precision) ≡ nat_lt (length pool) (r.place + limbs_for r.precision)
  inside_grown h = le-ltb _ _ (rw length-append (omega arith)) ∙ sym (le-ltb _ _ h)

  significand_grown : r.place + limbs_for r.precision ≤ length pool → significand (pool ++ more) r ≡ significand pool r
  significand_grown h =
      ap (take (limbs_for r.precision)) (drop-append-le r.place pool more (omega arith))
      ∙ take-append-le (limbs_for r.precision) (drop r.place pool) more (rw length-drop (omega arith))

  -- has the same fault
  fault_grown : Faultless pool r → record_fault (pool ++ more) r ≡ record_fault pool r
  fault_grown h =
      fault_by_kind-regular (kind_numbered r.kind) (regular_fault (pool ++ more) r) (regular_fault pool r)
      (λ k.
      let inside = (sound pool r k h).inside in
      ap₂ (λ (b : Bool) (xs : List ℕ). after_ranges r.exponent r.precision (cond b (Some LimbsPastPool) (limbs_fault xs r.precision))) (inside_grown inside) (significand_grown inside))

  -- and is the same term
  term_grown : Faultless pool r → record_term (pool ++ more) r ≡ record_term pool r
  term_grown h = term_of_kind-regular (kind_numbered r.kind) _ _ _ (λ k. rw (significand_grown (sound pool r k h).inside) refl)

-- ---- all records
-- each record is a term
pub length_terms : (pool : List ℕ) (rs : List LimbRecord) (n : ℕ) → n ≤ length rs → length (record_terms pool (take n rs)) ≡ n
length_terms pool rs n h = rw length-map (length-take-le n rs h)

faultless_grown : (pool more : List ℕ) (rs : List LimbRecord) → AllByRecursion (Faultless pool) rs → AllByRecursion (Faultless (pool ++ more)) rs
faultless_grown pool more rs h = All-weaker (Faultless pool) (Faultless (pool ++ more)) (λ r f. ap is_some (fault_grown pool more r f) ∙ f) rs h

terms_grown : (pool more : List ℕ) (rs : List LimbRecord) → AllByRecursion (Faultless pool) rs → record_terms (pool ++ more) rs ≡ record_terms pool rs
terms_grown pool more [] h = refl
terms_grown pool more (r ∷ rs) h = ap₂ (λ (t : Term) (ts : List Term). t ∷ ts) (term_grown pool more r h.0) (terms_grown pool more rs h.1)

none_first : (pool : List ℕ) (i : ℕ) (rs : List LimbRecord) → AllByRecursion (Faultless pool) rs → first_fault pool i rs ≡ None
none_first pool i [] h = refl
none_first pool i (r ∷ rs) h = ap (λ f. fault_at i f (first_fault pool (i + 1) rs)) (none_there (record_fault pool r) h.0) ∙ none_first pool (i + 1) rs h.1

module _ (pool more : List ℕ) (rs : List LimbRecord) (r : LimbRecord) (faultless : is_some (opening_fault pool rs) ≡ false) where
  -- with one more there is still no fault
  pub faultless_with : length rs < most_terms → record_fault (pool ++ more) r ≡ None → is_some (opening_fault (pool ++ more) (rs ++ r ∷ [])) ≡ false
  faultless_with few none =
      let all = All-append (Faultless (pool ++ more)) rs (r ∷ []) (faultless_grown pool more rs (none_refused pool rs faultless).1) (ap is_some none, tt) in
      rw (le-ltb most_terms (length (rs ++ r ∷ [])) (rw length-append (omega arith)), none_first (pool ++ more) 0 (rs ++ r ∷ []) all) refl

  -- and one more term
  pub terms_with : record_terms (pool ++ more) (rs ++ r ∷ []) ≡ record_terms pool rs ++ record_term (pool ++ more) r ∷ []
  terms_with = map-append (record_term (pool ++ more)) rs (r ∷ []) ∙ ap (λ ts. ts ++ record_term (pool ++ more) r ∷ []) (terms_grown pool more rs (none_refused pool rs faultless).1)
