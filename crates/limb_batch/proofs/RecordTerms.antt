-- What a record without a fault answers, told by its fields.
use Rattle.std.proofs.Common.{◌≡◌, ℕ, ◌-◌, ◌*◌, ◌/◌, ◌%◌, ◌^◌, ◌<◌, ◌≤◌, Bool, true, false, List, map, length, get_or, ℤ, pos, ◌-ℤ◌, is_some, Some, None, Option, MatchOption, Bor, sym, refl, ap, ◌∙◌, ap₂, arith}
use Rattle.std.specs.List.{slice_get}
use Rattle.std.specs.Option.{option_map}
use Rattle.std.proofs.lemmas.Option.{slice_get-map, slice_get-get_or, get_or_from_slice_get}
use borrow.Author.Tests.{clash}
use borrow.Author.Differences.{ints}
use Rattle.std.proofs.lemmas.List.{get_or-map, get_or_default, length-map}
use Rattle.std.proofs.ByRecursion.{All-get_or}
use Rattle.std.proofs.lemmas.Nat.{shr_split}
use Rattle.exact.specs.Limbs.{limbs_value}
use Rattle.exact.proofs.LimbDigits.{lowest_bits}
use Rattle.batch.specs.Term.{Term, regular, is_regular, whole_units}
use Rattle.batch.specs.TermKinds.{kind_of, kind_numbered, kind_is_regular, term_of_kind}
use Rattle.batch.specs.Lookup.{kind_of_term}
use Rattle.batch.specs.declared.kind.Kind.{Kind}
use Rattle.batch.specs.declared.kind.Kind.TheVariants.{NotANumber, PositiveInfinity, NegativeInfinity, PositiveZero, NegativeZero, Positive, Negative, Absent}
use Rattle.batch.specs.declared.fault.RecordFault.{RecordFault}
use Rattle.batch.proofs.Lookups.{past, regular_inside, irregular_lookup}
use Rattle.batch.proofs.Units.{units_finer}
use Rattle.limb_batch.specs.declared.record.LimbRecord.{LimbRecord}
use Rattle.limb_batch.specs.Records.{limbs_for, spare_bits, significand, record_term, record_terms}
use Rattle.limb_batch.specs.Opening.{Sound, RegularAt, fault_by_kind, opening_fault}
use Rattle.limb_batch.specs.declared.regular.RegularRecord.{RegularRecord}
use Rattle.limb_batch.specs.RegularRecords.{term_signed, IsTerm}
use Rattle.limb_batch.specs.SoundRecords.{none_refused, sound}

kind_kept : (k : Kind) (f : Option RecordFault) (m : ℕ) (q : ℤ) → is_some (fault_by_kind k f) ≡ false → kind_of (term_of_kind k m q) ≡ k
kind_kept NotANumber f m q h = refl
kind_kept PositiveInfinity f m q h = refl
kind_kept NegativeInfinity f m q h = refl
kind_kept PositiveZero f m q h = refl
kind_kept NegativeZero f m q h = refl
kind_kept Positive f m q h = refl
kind_kept Negative f m q h = refl
kind_kept Absent f m q h = absurd (clash (sym h))

regular_term : (k : Kind) (m : ℕ) (q : ℤ) → kind_is_regular k ≡ true → (s : Bool) × (term_of_kind k m q ≡ regular s m q)
regular_term NotANumber m q h = absurd (clash h)
regular_term PositiveInfinity m q h = absurd (clash h)
regular_term NegativeInfinity m q h = absurd (clash h)
regular_term PositiveZero m q h = absurd (clash h)
regular_term NegativeZero m q h = absurd (clash h)
regular_term Positive m q h = (false, refl)
regular_term Negative m q h = (true, refl)
regular_term Absent m q h = absurd (clash h)

kind_past : (pool : List ℕ) (rs : List LimbRecord) (i : ℕ) → length rs ≤ i → kind_of_term (record_terms pool rs) i ≡ Absent
kind_past pool rs i h = past kind_of Absent (record_terms pool rs) i (rw length-map h)

-- the answer F of term i is that of record i
lookup_record : {Y : Type 0} (F : Term → Y) (y : Y) (pool : List ℕ) (rs : List LimbRecord) (i : ℕ) (d : LimbRecord) → i < length rs → get_or (map F (record_terms pool rs)) i y ≡ F (record_term pool (get_or rs i d))
lookup_record F y pool rs i d h =
    get_or-map F (record_terms pool rs) i (record_term pool d) y (rw length-map h) ∙ ap F (get_or-map (record_term pool) rs i d (record_term pool d) h)

-- a record of a regular kind is there
pub inside : (pool : List ℕ) (rs : List LimbRecord) (i : ℕ) (b : Bool) (k : Kind) → k ≡ kind_of_term (record_terms pool rs) i → b ≡ kind_is_regular k → b ≡ true → i < length rs
inside pool rs i b k e f t = rw length-map at (regular_inside (record_terms pool rs) i b (f ∙ ap kind_is_regular e) t)

module _ (pool : List ℕ) (rs : List LimbRecord) (i : ℕ) (d : LimbRecord) (faultless : is_some (opening_fault pool rs) ≡ false) where
  pub kind_here : i < length rs → (k : Kind) → k ≡ kind_numbered (get_or rs i d).kind → k ≡ kind_of_term (record_terms pool rs) i
  kind_here h k e =
      let r = get_or rs i d in
      e ∙ sym (lookup_record kind_of Absent pool rs i d h ∙ kind_kept (kind_numbered r.kind) _ _ _ (All-get_or _ rs i d h (none_refused pool rs faultless).1))

  -- and has no fault
  pub regular_there : (b : Bool) (k : Kind) → k ≡ kind_of_term (record_terms pool rs) i → b ≡ kind_is_regular k → b ≡ true → RegularAt pool rs i (get_or rs i d)
  regular_there b k e f t =
      let h = inside pool rs i b k e f t in
      let r : kind_is_regular (kind_numbered (get_or rs i d).kind) ≡ true = ap kind_is_regular (kind_here h _ refl ∙ sym e) ∙ sym f ∙ t in
      record { there = h; is = get_or_default rs i d (get_or rs i d) h; regular_kind = r; sound = sound pool (get_or rs i d) r (All-get_or _ rs i d h (none_refused pool rs faultless).1) }

-- the kind of the record that is found
pub kind_found : (pool : List ℕ) (rs : List LimbRecord) (i : ℕ) (found : Option (Bor LimbRecord)) (k : Kind) → is_some (opening_fault pool rs) ≡ false
    → MatchOption found (length rs ≤ i) (λ x. (i < length rs) × ((d : LimbRecord) → x.now ≡ get_or rs i d)) → MatchOption found (k ≡ Absent) (λ x. k ≡ kind_numbered x.now.kind)
    → k ≡ kind_of_term (record_terms pool rs) i
kind_found pool rs i None k none there e = e ∙ sym (kind_past pool rs i there)
kind_found pool rs i (Some x) k none (there, is) e = kind_here pool rs i x.now none there k (e ∙ ap (λ (r : LimbRecord). kind_numbered r.kind) (is x.now))

-- a regular record without a fault spells term i
pub term_there : (pool : List ℕ) (rs : List LimbRecord) (i : ℕ) (r : LimbRecord) → RegularAt pool rs i r
    → (negative : Bool) × (slice_get (record_terms pool rs) i ≡ Some (regular negative (limbs_value (significand pool r) / 2 ^ spare_bits r.precision) (r.exponent -ℤ pos r.precision)))
term_there pool rs i r h =
    let (s, same) = regular_term (kind_numbered r.kind) _ _ h.regular_kind in
    (s, slice_get-map (record_term pool) rs i ∙ ap (option_map (record_term pool)) (slice_get-get_or rs i r h.there) ∙ ap (λ z. Some (record_term pool z)) (sym h.is) ∙ ap Some same)

-- the answer F of term i is that of the regular record that is found, and y where none is
module _ {Y : Type 0} (F : Term → Y) (y : Y) (none : (t : Term) → is_regular t ≡ false → F t ≡ y) where
  pub answer_found : (ts : List Term) (i : ℕ) (found : Option RegularRecord) (x : Y) → ((s : Bool) (r : RegularRecord) → F (term_signed s r) ≡ F (term_signed false r))
      → MatchOption found (kind_is_regular (kind_of_term ts i) ≡ false) (IsTerm ts i) → MatchOption found (x ≡ y) (λ r. x ≡ F (term_signed false r)) → x ≡ get_or (map F ts) i y
  answer_found ts i None x same e f = f ∙ irregular_lookup F y none ts i _ refl e
  answer_found ts i (Some r) x same (s, at) f = f ∙ sym (same s r) ∙ sym (get_or_from_slice_get (map F ts) i (F (term_signed s r)) y (slice_get-map F ts i ∙ ap (option_map F) at))

-- the bits below the digits are 0
pub spare_clear : (pool : List ℕ) (r : LimbRecord) → Sound pool r → limbs_value (significand pool r) % 2 ^ spare_bits r.precision ≡ 0
spare_clear pool r s = lowest_bits (significand pool r) (spare_bits r.precision) (32 - spare_bits r.precision) (let a = s.in_range.some_digit in omega arith) ∙ s.low_clear

-- the digits of the whole limbs are those of the number without the spare bits
pub units_are : (v p : ℕ) (e w : ℤ) → v % 2 ^ spare_bits p ≡ 0 → whole_units v (e -ℤ pos (32 * limbs_for p)) w ≡ whole_units (v / 2 ^ spare_bits p) (e -ℤ pos p) w
units_are v p e w clear =
    let spare = spare_bits p in
    let whole : v ≡ v / 2 ^ spare * 2 ^ spare = let a = shr_split v spare in omega arith in
    let apart : e -ℤ pos (32 * limbs_for p) ≡ (e -ℤ pos p) -ℤ pos spare = omega (arith, ints) in
    ap₂ (λ (m : ℕ) (q : ℤ). whole_units m q w) whole apart ∙ units_finer (v / 2 ^ spare) spare (e -ℤ pos p) w
