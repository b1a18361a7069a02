-- Records without a fault spell a list of terms that can be a batch.
use Rattle.std.specs.Prelude.{◌≡◌, ℕ, ◌+◌, ◌-◌, ◌*◌, ◌/◌, ◌%◌, ◌^◌, ◌<◌, ◌≤◌, Bool, true, false, cond, not, T, List, [], ◌∷◌, length, drop, ℤ, pos, ◌+ℤ◌, ◌-ℤ◌, neg_ℤ, ◌≤ℤ◌, is_some, Some, None, Option, ◌==◌, int_lt, nat_lt, slice_index, refl}
use Rattle.std.proofs.Common.{sym, ◌∙◌, subst, arith, length-drop, length-take-le}
use Rattle.std.specs.Int.Signed.{lt_z_no}
use Rattle.std.proofs.lemmas.List.{length-map}
use Rattle.std.specs.Float.Ieee.{size}
use borrow.Author.Tests.{ltb-false, eqb-true, clash}
use Rattle.std.proofs.lemmas.Int.{ints}
use Rattle.std.specs.List.{AllByRecursion}
use Rattle.std.proofs.ByRecursion.{All-map, All-weaker, All-from_get_or, All-take, All-drop}
use Rattle.exact.specs.Limbs.{Limbs, limbs_value}
use Rattle.exact.proofs.LowDigits.{size_lowered}
use Rattle.exact.proofs.LimbDigits.{size_full}
use Rattle.batch.specs.Term.{Limited, RegularLimits, Batchable, most_terms, most_digits, farthest_top}
use Rattle.batch.specs.TermKinds.{kind_numbered, kind_is_regular, term_of_kind}
use Rattle.batch.specs.declared.kind.Kind.{Kind}
use Rattle.batch.specs.declared.kind.Kind.TheVariants.{NotANumber, PositiveInfinity, NegativeInfinity, PositiveZero, NegativeZero, Positive, Negative, Absent}
use Rattle.batch.specs.declared.fault.RecordFault.{RecordFault}
use Rattle.batch.specs.declared.fault.BatchFault.{BatchFault}
use Rattle.limb_batch.specs.declared.record.LimbRecord.{LimbRecord}
use Rattle.limb_batch.specs.Records.{limbs_for, spare_bits, significand, record_term, record_terms}
use Rattle.limb_batch.specs.Opening.{Sound, regular_fault, fault_by_kind, record_fault, fault_at, first_fault, opening_fault}

-- a pool holds numbers of 32 bits
abbrev pub Words : List ℕ → Type 0
Words pool = (k : ℕ) → slice_index pool k < 2 ^ 32

-- a test that gives a fault was passed, and so was what comes after it
passed : {X : Type 0} (b : Bool) (x : X) (rest : Option X) → is_some (cond b (Some x) rest) ≡ false → (b ≡ false) × (is_some rest ≡ false)
passed true x rest h = absurd (clash (sym h))
passed false x rest h = (refl, h)

held : {X : Type 0} (b : Bool) (x : X) → is_some (cond b None (Some x)) ≡ false → b ≡ true
held true x h = refl
held false x h = absurd (clash (sym h))

none_at : (i : ℕ) (f : Option RecordFault) (rest : Option BatchFault) → is_some (fault_at i f rest) ≡ false → (is_some f ≡ false) × (is_some rest ≡ false)
none_at i None rest h = (refl, h)
none_at i (Some f) rest h = absurd (clash (sym h))

none_first : (pool : List ℕ) (i : ℕ) (rs : List LimbRecord) → is_some (first_fault pool i rs) ≡ false → AllByRecursion (λ r. is_some (record_fault pool r) ≡ false) rs
none_first pool i [] h = tt
none_first pool i (r ∷ rs) h = let p = none_at i (record_fault pool r) (first_fault pool (i + 1) rs) h in (p.0, none_first pool (i + 1) rs p.1)

pub none_refused : (pool : List ℕ) (rs : List LimbRecord) → is_some (opening_fault pool rs) ≡ false → (length rs ≤ most_terms) × AllByRecursion (λ r. is_some (record_fault pool r) ≡ false) rs
none_refused pool rs h = let p = passed (nat_lt most_terms (length rs)) _ _ h in (ltb-false _ _ p.0, none_first pool 0 rs p.1)

not_less : (a b : ℤ) → int_lt a b ≡ false → b ≤ℤ a
not_less a b h = lt_z_no (subst (λ (t : Bool). T (not t)) (sym h) tt)

-- ---- a regular record
regular_sound : (pool : List ℕ) (r : LimbRecord) → is_some (regular_fault pool r) ≡ false → Sound pool r
regular_sound pool r h =
    let xs = significand pool r in
    let p = passed (nat_lt r.precision 1) _ _ h in
    let q = passed (nat_lt most_digits r.precision) _ _ p.1 in
    let e = passed (int_lt r.exponent (neg_ℤ (pos farthest_top))) _ _ q.1 in
    let f = passed (int_lt (pos farthest_top) r.exponent) _ _ e.1 in
    let l = passed (nat_lt (length pool) (r.place + limbs_for r.precision)) _ _ f.1 in
    let t = passed (nat_lt (slice_index xs (length xs - 1)) (2 ^ 31)) _ _ l.1 in
    record {
      in_range = record { some_digit = ltb-false _ _ p.0; few_digits = ltb-false _ _ q.0; not_below = not_less _ _ e.0; not_above = not_less _ _ f.0 };
      inside = ltb-false _ _ l.0;
      top_set = ltb-false _ _ t.0;
      low_clear = eqb-true _ _ (held (slice_index xs 0 % 2 ^ spare_bits r.precision == 0) _ t.1);
    }

by_regular : (k : Kind) (f : Option RecordFault) → kind_is_regular k ≡ true → is_some (fault_by_kind k f) ≡ false → is_some f ≡ false
by_regular NotANumber f h g = absurd (clash h)
by_regular PositiveInfinity f h g = absurd (clash h)
by_regular NegativeInfinity f h g = absurd (clash h)
by_regular PositiveZero f h g = absurd (clash h)
by_regular NegativeZero f h g = absurd (clash h)
by_regular Positive f h g = g
by_regular Negative f h g = g
by_regular Absent f h g = absurd (clash h)

pub sound : (pool : List ℕ) (r : LimbRecord) → kind_is_regular (kind_numbered r.kind) ≡ true → is_some (record_fault pool r) ≡ false → Sound pool r
sound pool r h g = regular_sound pool r (by_regular (kind_numbered r.kind) (regular_fault pool r) h g)

-- ---- how many digits it has
pub length_significand : (pool : List ℕ) (r : LimbRecord) → r.place + limbs_for r.precision ≤ length pool → length (significand pool r) ≡ limbs_for r.precision
length_significand pool r h = length-take-le _ _ (rw length-drop (omega arith))

pub limbs_significand : (pool : List ℕ) (r : LimbRecord) → Words pool → Limbs (significand pool r)
limbs_significand pool r w = All-take (λ x. x < 2 ^ 32) (limbs_for r.precision) (drop r.place pool) (All-drop (λ x. x < 2 ^ 32) r.place pool (All-from_get_or (λ x. x < 2 ^ 32) pool 0 (λ i h. w i)))

pub size_significand : (pool : List ℕ) (r : LimbRecord) → Words pool → Sound pool r → size (limbs_value (significand pool r) / 2 ^ spare_bits r.precision) ≡ r.precision
size_significand pool r w s =
    let xs = significand pool r in
    let p = r.precision in
    let some = s.in_range.some_digit in
    let len : length xs ≡ limbs_for p = length_significand pool r s.inside in
    let full : size (limbs_value xs) ≡ 32 * length xs = size_full xs (limbs_significand pool r w) (rw len (omega arith)) s.top_set in
    size_lowered (limbs_value xs) (spare_bits p) p (full ∙ rw len (omega arith)) some

limited_by_kind : (k : Kind) (m : ℕ) (q : ℤ) → (kind_is_regular k ≡ true → RegularLimits m q) → Limited (term_of_kind k m q)
limited_by_kind NotANumber m q h = tt
limited_by_kind PositiveInfinity m q h = tt
limited_by_kind NegativeInfinity m q h = tt
limited_by_kind PositiveZero m q h = tt
limited_by_kind NegativeZero m q h = tt
limited_by_kind Positive m q h = h refl
limited_by_kind Negative m q h = h refl
limited_by_kind Absent m q h = tt

limits : (p : ℕ) (e : ℤ) (m : ℕ) → size m ≡ p → 1 ≤ p → p ≤ most_digits → neg_ℤ (pos farthest_top) ≤ℤ e → e ≤ℤ pos farthest_top → RegularLimits m (e -ℤ pos p)
limits p e m z a b c d =
    let t : (e -ℤ pos p) +ℤ pos (size m) ≡ e = rw z (omega (arith, ints)) in
    record { some_digit = rw z a; few_digits = rw z b; not_below = rw t c; not_above = rw t d }

term_limited : (pool : List ℕ) (r : LimbRecord) → Words pool → is_some (record_fault pool r) ≡ false → Limited (record_term pool r)
term_limited pool r w h =
    limited_by_kind (kind_numbered r.kind) _ _
    (λ k. let s = sound pool r k h in limits r.precision r.exponent _ (size_significand pool r w s) s.in_range.some_digit s.in_range.few_digits s.in_range.not_below s.in_range.not_above)

pub terms_batchable : (pool : List ℕ) (rs : List LimbRecord) → Words pool → is_some (opening_fault pool rs) ≡ false → Batchable (record_terms pool rs)
terms_batchable pool rs w h =
    let p = none_refused pool rs h in
    record {
      few = rw length-map p.0;
      each_limited = All-map Limited (record_term pool) rs (All-weaker _ (λ r. Limited (record_term pool r)) (λ r. term_limited pool r w) rs p.1);
    }
