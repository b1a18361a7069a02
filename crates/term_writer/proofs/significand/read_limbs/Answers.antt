use Rattle.std.proofs.Common.{◌≡◌, ◌≢◌, ◌*◌, ◌/◌, ◌%◌, ◌^◌, ◌<◌, length, ap, ◌∙◌, arith, below_more, get_or-set_other, get_or-set_same, w32, of_z, to_z, rules}
use Rattle.batch.specs.Term.{whole_units}
use Rattle.answers.specs.Published.{limbs_of}
use Rattle.term_writer.proofs.Columns.{units_higher}
use Rattle.term_writer.proofs.Limbs.{limbs_of-from_places}
use Rattle.term_writer.proofs.significand.read_limbs.Goals as goal

pub loop-j-preserved : goal.loop-j-preserved
loop-j-preserved g c = λ s m q at.
    let j = c.loop-j.j in
    let from = to_z w32 (of_z w32 c.args.weight) in
    let within : j < length c.loop-j.limbs = omega arith in
    let kept : to_z w32 (of_z w32 c.weight_above.result) ≡ c.weight_above.result = search rules in
    let read : c.bits_from.result ≡ whole_units m q from / 2 ^ (32 * j) % 4294967296 =
    c.bits_from.ensures s m q at
    ∙ ap (λ y. whole_units m q y % 4294967296) (kept ∙ c.weight_above.ensures)
    ∙ ap (λ n. n % 4294967296) (units_higher m (32 * j) q from) in
    below_more _ _
    (λ k h. let ne : k ≢ j = omega arith in rw get_or-set_other (c.loop-j.invariant s m q at k h))
    (rw get_or-set_same read)

pub returns-clause-bits : goal.returns-clause-bits
returns-clause-bits g c = λ s m q at.
    let from : to_z w32 (of_z w32 c.args.weight) ≡ c.args.weight = search rules in
    let long : length c.loop-j.limbs ≡ length c.args.limbs.now = omega arith in
    limbs_of-from_places c.loop-j.limbs (whole_units m q (to_z w32 (of_z w32 c.args.weight))) (λ k h. c.loop-j.invariant s m q at k (omega arith))
    ∙ (λ t. limbs_of (long t) (whole_units m q (from t)))
