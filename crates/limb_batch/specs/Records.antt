-- What the records of a limb batch mean.
use Rattle.std.specs.Prelude.{ℕ, ◌+◌, ◌-◌, ◌*◌, ◌/◌, ◌^◌, List, map, take, drop, pos, ◌-ℤ◌}
use Rattle.exact.specs.Limbs.{limbs_value}
use Rattle.batch.specs.Term.{Term}
use Rattle.batch.specs.TermKinds.{kind_numbered, term_of_kind}
use Rattle.limb_batch.specs.declared.record.LimbRecord.{LimbRecord}

-- how many limbs p binary digits take
abbrev pub limbs_for : ℕ → ℕ
limbs_for p = (p + 31) / 32

-- how many bits of these limbs lie below the p digits
abbrev pub spare_bits : ℕ → ℕ
spare_bits p = 32 * limbs_for p - p

-- the limbs of a record: a part of the pool
abbrev pub significand : List ℕ → LimbRecord → List ℕ
significand pool r = take (limbs_for r.precision) (drop r.place pool)

-- the term of a record: the first p digits of its limbs are a number m, and it is m * 2 ^ (exponent - p) where it is regular
abbrev pub record_term : List ℕ → LimbRecord → Term
record_term pool r =
    term_of_kind (kind_numbered r.kind) (limbs_value (significand pool r) / 2 ^ spare_bits r.precision) (r.exponent -ℤ pos r.precision)

-- the terms that the records spell
abbrev pub record_terms : List ℕ → List LimbRecord → List Term
record_terms pool rs = map (record_term pool) rs
