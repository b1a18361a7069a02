-- Regular records without a fault: the number m * 2 ^ q that one spells.
use Rattle.std.specs.Prelude.{◌≡◌, ℕ, ◌/◌, ◌^◌, Bool, List, pos, ◌-ℤ◌, Some}
use Rattle.std.specs.List.{slice_get}
use Rattle.exact.specs.Limbs.{limbs_value}
use Rattle.batch.specs.Term.{Term, regular}
use Rattle.limb_batch.specs.declared.regular.RegularRecord.{RegularRecord}
use Rattle.limb_batch.specs.Records.{spare_bits}

-- its term, of either sign
abbrev pub term_signed : Bool → RegularRecord → Term
term_signed negative r = regular negative (limbs_value r.limbs.now / 2 ^ spare_bits r.precision) (r.exponent -ℤ pos r.precision)

-- term i of a list is that of the record, with some sign
abbrev pub IsTerm : List Term → ℕ → RegularRecord → Type 0
IsTerm ts i r = (negative : Bool) × (slice_get ts i ≡ Some (term_signed negative r))
