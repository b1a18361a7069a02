-- The start of each column, counted from the lowest bit of the limbs; the spare bits are 0.
use Rattle.std.proofs.Common.{ℕ, ◌*◌, ◌%◌, pos, ◌-ℤ◌, ap, ◌∙◌, arith}
use borrow.Author.Differences.{ints}
use Rattle.exact.specs.Limbs.{limbs_value}
use Rattle.batch.specs.Term.{column_weight}
use Rattle.batch.proofs.Units.{units_moved}
use Rattle.limb_batch.specs.Records.{limbs_for}
use Rattle.limb_batch.proofs.RecordTerms.{units_are}
use Rattle.limb_batch.proofs.regular.RegularRecord.digits.Goals as goal

pub returns-clause-each : goal.returns-clause-each
returns-clause-each c j l =
    let r = c.args.self.now in
    let v = limbs_value r.limbs.now in
    let e = r.exponent in
    let k = column_weight (c.args.column -ℤ pos j) in
    c.bits_down.ensures.each j l
    ∙ ap (λ (x : ℕ). x % 4294967296) (units_moved v (e -ℤ pos (32 * limbs_for r.precision)) k _ (omega (arith, ints, r.whole_limbs, c.bit_of.ensures)) ∙ units_are v r.precision e k r.low_clear)
