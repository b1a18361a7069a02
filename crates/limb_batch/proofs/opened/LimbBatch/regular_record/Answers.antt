-- A record of a regular kind is there and has no fault.
use Rattle.std.proofs.Common.{◌≡◌, List, ℕ, ◌+◌, ◌-◌, true, refl, ap, get_or, take, drop, pos, w64, rules, arith}
use Rattle.std.proofs.lemmas.Int.{to_z-of_z}
use Rattle.batch.specs.TermKinds.{kind_is_regular}
use Rattle.batch.specs.Lookup.{kind_of_term}
use Rattle.batch.specs.declared.kind.Kind.{Kind}
use Rattle.limb_batch.specs.declared.record.LimbRecord.{LimbRecord}
use Rattle.limb_batch.specs.declared.opened.LimbBatch.{LimbBatch}
use Rattle.limb_batch.specs.Records.{limbs_for, record_terms, significand}
use Rattle.limb_batch.specs.SoundRecords.{length_significand, size_significand}
use Rattle.limb_batch.specs.Opening.{RegularAt}
use Rattle.limb_batch.proofs.RecordTerms.{regular_there, term_there, spare_clear}
use Rattle.limb_batch.proofs.opened.LimbBatch.regular_record.Goals as goal

abbrev zeros : LimbRecord
zeros = record { kind = 0; exponent = pos 0; precision = 0; place = 0 }

found : (b : LimbBatch) (i : ℕ) (k : Kind) → k ≡ kind_of_term (record_terms b.pool.now b.records.now) i → true ≡ kind_is_regular k → RegularAt b.pool.now b.records.now i (get_or b.records.now i zeros)
found b i k e f = regular_there b.pool.now b.records.now i zeros b.faultless true k e f refl

-- the part of the pool that is read
part_read : (pool : List ℕ) (r : LimbRecord) (n : ℕ) → n ≡ limbs_for r.precision → take (r.place + n - r.place) (drop r.place pool) ≡ significand pool r
part_read pool r n e = ap (λ k. take k (drop r.place pool)) (omega arith)

pub limb_count-count-requires : goal.limb_count-count-requires
limb_count-count-requires c = (found c.args.self.now c.args.i _ c.kind.ensures c.if-not-is_regular.ensures).sound.in_range.few_digits

pub overflow_add-result : goal.overflow_add-result
overflow_add-result c = let h = (found c.args.self.now c.args.i _ c.kind.ensures c.if-not-is_regular.ensures).sound.inside in search rules

pub offset_bounds-self-record : goal.offset_bounds-self-record
offset_bounds-self-record c = let h = (found c.args.self.now c.args.i _ c.kind.ensures c.if-not-is_regular.ensures).sound.inside in search rules

pub slice_bounds-result-end : goal.slice_bounds-result-end
slice_bounds-result-end c = let h = (found c.args.self.now c.args.i _ c.kind.ensures c.if-not-is_regular.ensures).sound.inside in search rules

pub invariant_of-result : goal.invariant_of-result
invariant_of-result c =
    let b = c.args.self.now in
    let h = (found b c.args.i _ c.kind.ensures c.if-not-is_regular.ensures).sound in
    let r = get_or b.records.now c.args.i zeros in
    let part = part_read b.pool.now r _ c.limb_count-count.ensures in
    let same = to_z-of_z w64 r.exponent (search rules) in
    record {
      few_digits = h.in_range.few_digits;
      not_below = rw same h.in_range.not_below;
      not_above = rw same h.in_range.not_above;
      whole_limbs = rw part (length_significand b.pool.now r h.inside);
      all_digits = rw part (size_significand b.pool.now r b.words h);
      low_clear = rw part (spare_clear b.pool.now r h);
    }

pub returns : goal.returns
returns c =
    let b = c.args.self.now in
    let r = get_or b.records.now c.args.i zeros in
    let part = part_read b.pool.now r _ c.limb_count-count.ensures in
    let same = to_z-of_z w64 r.exponent (search rules) in
    rw (part, same) (term_there b.pool.now b.records.now c.args.i r (found b c.args.i _ c.kind.ensures c.if-not-is_regular.ensures))
