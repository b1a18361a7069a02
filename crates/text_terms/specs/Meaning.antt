-- What a term of a text means, and why one is refused.
use Rattle.std.specs.Prelude.{◌≡◌, ℕ, ◌/◌, ◌^◌, Bool, cond, List, length, ℤ, pos, neg_ℤ, ◌-ℤ◌, Some, None, Option, ◌==◌, int_lt, nat_lt}
use Rattle.exact.specs.Limbs.{limbs_value}
use Rattle.batch.specs.Term.{Term, not_a_number, infinite, signed_zero, regular, most_digits, farthest_top}
use Rattle.batch.specs.TermKinds.{kind_number, infinity, zero_of_sign, number_of_sign}
use Rattle.batch.specs.declared.kind.Kind.{Kind}
use Rattle.batch.specs.declared.kind.Kind.TheVariants as Kinds
use Rattle.batch.specs.declared.fault.RecordFault.{RecordFault}
use Rattle.batch.specs.declared.fault.RecordFault.TheVariants.{PrecisionOutOfRange, ExponentOutOfRange, LimbsPastPool}
use Rattle.limb_batch.specs.Records.{limbs_for, spare_bits}
use Rattle.limb_batch.specs.declared.record.LimbRecord.{LimbRecord}
use Rattle.limb_batch.specs.Opening.{limbs_fault}
use Rattle.forms.specs.Forms.{Form, not_a_number as nan_form, infinity as infinity_form, signed_zero as zero_form, term, mark, back, set, reopen, ask, ask_named}
use Rattle.text_terms.specs.declared.special.Special.{Special}
use Rattle.text_terms.specs.declared.special.Special.TheVariants.{NotANumber, Infinity, Zero}

-- how many limbs a text may have
abbrev pub most_limbs : ℕ
most_limbs = 5461

-- the term that is not regular
abbrev pub special_term : Special → Term
special_term NotANumber = not_a_number
special_term (Infinity negative) = infinite negative
special_term (Zero negative) = signed_zero negative

-- and its kind
abbrev pub special_kind : Special → Kind
special_kind NotANumber = Kinds.NotANumber
special_kind (Infinity negative) = infinity negative
special_kind (Zero negative) = zero_of_sign negative

-- the regular term: the first p digits of its limbs are a number m, and it is m * 2 ^ (exponent - p)
abbrev pub term_meant : Bool → ℤ → ℕ → List ℕ → Term
term_meant negative exponent p limbs = regular negative (limbs_value limbs / 2 ^ spare_bits p) (exponent -ℤ pos p)

-- its record, where its limbs begin at this place of a pool
abbrev pub regular_record : Bool → ℤ → ℕ → ℕ → LimbRecord
regular_record negative exponent p place = record { kind = kind_number (number_of_sign negative); exponent = exponent; precision = p; place = place }

-- why it is refused, if it is: its precision, its exponent, how many limbs it has, their bits
abbrev pub term_fault : ℤ → ℕ → List ℕ → Option RecordFault
term_fault exponent p limbs =
    cond (nat_lt p 1) (Some PrecisionOutOfRange)
    (cond (nat_lt most_digits p) (Some PrecisionOutOfRange)
    (cond (int_lt exponent (neg_ℤ (pos farthest_top))) (Some ExponentOutOfRange)
    (cond (int_lt (pos farthest_top) exponent) (Some ExponentOutOfRange)
    (cond (length limbs == limbs_for p) (limbs_fault limbs p)
    (Some LimbsPastPool)))))

-- the form means the term, which has no fault
abbrev pub IsTerm : Form → Term → Type 0
IsTerm nan_form t = t ≡ not_a_number
IsTerm (infinity_form negative) t = t ≡ infinite negative
IsTerm (zero_form negative) t = t ≡ signed_zero negative
IsTerm (term negative exponent precision limbs) t = (term_fault exponent precision limbs ≡ None) × (t ≡ term_meant negative exponent precision limbs)
IsTerm (mark place letter) t = ⊥
IsTerm back t = ⊥
IsTerm set t = ⊥
IsTerm reopen t = ⊥
IsTerm (ask width floor mode) t = ⊥
IsTerm (ask_named name mode) t = ⊥
