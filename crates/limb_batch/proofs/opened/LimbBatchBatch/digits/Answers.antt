-- The digits of the regular record that is found, and 0 where none is.
use Rattle.std.proofs.Common.{◌≡◌, pos, ◌-ℤ◌, slice_index, Some, None, refl, w32, rules}
use Rattle.std.proofs.lemmas.Int.{to_z-of_z}
use Rattle.batch.specs.Term.{digit_at}
use Rattle.batch.proofs.Lookups.{digit_none}
use Rattle.limb_batch.proofs.RecordTerms.{answer_found}
use Rattle.limb_batch.proofs.opened.LimbBatchBatch.digits.Goals as goal

pub returns-in-Some-clause-each : goal.returns-in-Some-clause-each
returns-in-Some-clause-each c j l =
    let k = c.args.column -ℤ pos j in
    let read = rw (to_z-of_z w32 c.args.column c.ranges.column) at (c.digits.ensures.each j l) in
    answer_found (digit_at k) 0 (digit_none k) _ c.args.i (Some c.in-Some.record) _ (λ s r. refl) c.in-Some.ensures read

pub returns-in-None-clause-each : goal.returns-in-None-clause-each
returns-in-None-clause-each c j l =
    let k = c.args.column -ℤ pos j in
    let none : slice_index c.fill.new.self j ≡ 0 = search rules in
    answer_found (digit_at k) 0 (digit_none k) _ c.args.i None _ (λ s r. refl) c.in-None.ensures none
