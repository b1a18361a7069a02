-- The start of a column, counted from the lowest bit of the limbs; the spare bits are 0.
use Rattle.std.proofs.Common.{◌≡◌, ◌*◌, length, pos, ◌+ℤ◌, ◌-ℤ◌, ◌*ℤ◌, arith, rules}
use borrow.Author.Differences.{ints}
use Rattle.std.proofs.lemmas.Int.{to_z-of_z}
use Rattle.exact.specs.Limbs.{limbs_value}
use Rattle.batch.specs.Term.{column_weight}
use Rattle.batch.proofs.Units.{units_moved}
use Rattle.limb_batch.specs.Records.{limbs_for}
use Rattle.limb_batch.proofs.RecordTerms.{units_are}
use Rattle.limb_batch.proofs.regular.RegularRecord.digit.Goals as goal

pub returns : goal.returns
returns c =
    let r = c.args.self.now in
    let v = limbs_value r.limbs.now in
    let e = r.exponent in
    let n = length r.limbs.now in
    let k = column_weight c.args.column in
    let start = (pos 32 *ℤ (pos n +ℤ c.args.column)) -ℤ e in
    let apart : start ≡ k -ℤ (e -ℤ pos (32 * limbs_for r.precision)) = omega (arith, ints, r.whole_limbs) in
    rw (← units_are v r.precision e k r.low_clear, ← units_moved v (e -ℤ pos (32 * limbs_for r.precision)) k start apart) (search (rules, to_z-of_z))
