-- Which records are refused, and with which fault: the tests in their order.
use Rattle.std.specs.Prelude.{◌≡◌, ℕ, ◌+◌, ◌-◌, ◌%◌, ◌^◌, ◌<◌, ◌≤◌, true, cond, List, [], ◌∷◌, length, get_or, take, pos, neg_ℤ, ◌≤ℤ◌, Some, None, Option, ◌==◌, int_lt, nat_lt, slice_index, slice_index_or}
use Rattle.std.specs.List.{AllByRecursion}
use Rattle.batch.specs.Term.{most_terms, most_digits, farthest_top}
use Rattle.batch.specs.TermKinds.{kind_numbered, kind_is_regular}
use Rattle.batch.specs.declared.kind.Kind.{Kind}
use Rattle.batch.specs.declared.kind.Kind.TheVariants.{NotANumber, PositiveInfinity, NegativeInfinity, PositiveZero, NegativeZero, Positive, Negative, Absent}
use Rattle.batch.specs.declared.fault.RecordFault.{RecordFault}
use Rattle.batch.specs.declared.fault.RecordFault.TheVariants.{UnknownKind, PrecisionOutOfRange, ExponentOutOfRange, LimbsPastPool, TopBitClear, LowBitSet}
use Rattle.batch.specs.declared.fault.BatchFault.{BatchFault}
use Rattle.batch.specs.declared.fault.BatchFault.TheVariants.{TooManyTerms, AtRecord}
use Rattle.limb_batch.specs.declared.record.LimbRecord.{LimbRecord}
use Rattle.limb_batch.specs.Records.{limbs_for, spare_bits, significand}

-- of a significand of p digits: the top bit of its last limb is 1, then the bits below the digits are 0
abbrev pub limbs_fault : List ℕ → ℕ → Option RecordFault
limbs_fault xs p =
    cond (nat_lt (slice_index xs (length xs - 1)) (2 ^ 31)) (Some TopBitClear)
    (cond (slice_index xs 0 % 2 ^ spare_bits p == 0) None
    (Some LowBitSet))

-- of a regular record: its precision, its exponent, its place, its significand
abbrev pub regular_fault : List ℕ → LimbRecord → Option RecordFault
regular_fault pool r =
    cond (nat_lt r.precision 1) (Some PrecisionOutOfRange)
    (cond (nat_lt most_digits r.precision) (Some PrecisionOutOfRange)
    (cond (int_lt r.exponent (neg_ℤ (pos farthest_top))) (Some ExponentOutOfRange)
    (cond (int_lt (pos farthest_top) r.exponent) (Some ExponentOutOfRange)
    (cond (nat_lt (length pool) (r.place + limbs_for r.precision)) (Some LimbsPastPool)
    (limbs_fault (significand pool r) r.precision)))))

-- only of a regular record more than the kind is read
abbrev pub fault_by_kind : Kind → Option RecordFault → Option RecordFault
fault_by_kind NotANumber f = None
fault_by_kind PositiveInfinity f = None
fault_by_kind NegativeInfinity f = None
fault_by_kind PositiveZero f = None
fault_by_kind NegativeZero f = None
fault_by_kind Positive f = f
fault_by_kind Negative f = f
fault_by_kind Absent f = Some UnknownKind

-- the first fault of a record, or none
abbrev pub record_fault : List ℕ → LimbRecord → Option RecordFault
record_fault pool r = fault_by_kind (kind_numbered r.kind) (regular_fault pool r)

-- the fault of record i, or else that of the rest
abbrev pub fault_at : ℕ → Option RecordFault → Option BatchFault → Option BatchFault
fault_at i (Some f) rest = Some (AtRecord i f)
fault_at i None rest = rest

-- the fault of the first record that has one, counted from i
abbrev pub first_fault : List ℕ → ℕ → List LimbRecord → Option BatchFault
first_fault pool i [] = None
first_fault pool i (r ∷ rs) = fault_at i (record_fault pool r) (first_fault pool (i + 1) rs)

-- why the records are refused, if they are
abbrev pub opening_fault : List ℕ → List LimbRecord → Option BatchFault
opening_fault pool rs = cond (nat_lt most_terms (length rs)) (Some TooManyTerms) (first_fault pool 0 rs)

-- record i has the fault f, and no record before it has one
pub record FirstFault (pool : List ℕ) (rs : List LimbRecord) (i : ℕ) (f : RecordFault) : Type 0 where
  pub there : i < length rs
  pub faulty : (d : LimbRecord) → record_fault pool (slice_index_or rs i d) ≡ Some f
  pub first : AllByRecursion (λ r. record_fault pool r ≡ None) (take i rs)

-- what the outcome of an opening tells of the records
abbrev pub Told : List ℕ → List LimbRecord → Option BatchFault → Type 0
Told pool rs None = (length rs ≤ most_terms) × AllByRecursion (λ r. record_fault pool r ≡ None) rs
Told pool rs (Some TooManyTerms) = most_terms < length rs
Told pool rs (Some (AtRecord i f)) = (length rs ≤ most_terms) × FirstFault pool rs i f

-- the precision and the exponent of a record are in range
pub record InRange (r : LimbRecord) : Type 0 where
  pub some_digit : 1 ≤ r.precision
  pub few_digits : r.precision ≤ most_digits
  pub not_below : neg_ℤ (pos farthest_top) ≤ℤ r.exponent
  pub not_above : r.exponent ≤ℤ pos farthest_top

-- what a regular record without a fault keeps to
pub record Sound (pool : List ℕ) (r : LimbRecord) : Type 0 where
  pub in_range : InRange r
  pub inside : r.place + limbs_for r.precision ≤ length pool
  pub top_set : 2 ^ 31 ≤ slice_index (significand pool r) (length (significand pool r) - 1)
  pub low_clear : get_or (significand pool r) 0 0 % 2 ^ spare_bits r.precision ≡ 0

-- a record is record i, and it is regular and without a fault
pub record RegularAt (pool : List ℕ) (rs : List LimbRecord) (i : ℕ) (r : LimbRecord) : Type 0 where
  pub there : i < length rs
  pub is : r ≡ slice_index_or rs i r
  pub regular_kind : kind_is_regular (kind_numbered r.kind) ≡ true
  pub sound : Sound pool r
