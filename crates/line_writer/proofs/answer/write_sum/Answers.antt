use Rattle.std.proofs.Common.{◌+◌, ◌/◌, ◌≤◌, ◌≡◌, ◌∙◌, length, take, ap, arith, rules, w32, of_z, to_z, SFits, length-take}
use Rattle.std.proofs.lemmas.List.{take_min}
use Rattle.line_writer.proofs.Lengths.{length-sum}
use Rattle.line_writer.proofs.answer.write_sum.Goals as goal

pub write_line-requires : goal.write_line-requires
write_line-requires c =
    let exponent : SFits w32 (to_z w32 (of_z w32 c.args.answer.now.exponent)) = search rules in
    let direction : to_z w32 (of_z w32 c.number.result) ≡ c.number.result = search rules in
    let few : length (take c.min-shown.result c.args.limbs.now) ≤ 128 = omega (arith, length-take c.min-shown.result c.args.limbs.now, c.requires.limbs) in
    let short =
    length-sum c.args.negative _ c.from.result _ c.args.answer.now.direction _ c.from-2.result exponent (omega (arith, c.from.ensures))
    few (direction ∙ c.number.ensures) (omega (arith, c.from-2.ensures)) in
    omega (arith, short, c.requires.room)

pub returns-clause-line : goal.returns-clause-line
returns-clause-line c =
    let n = (c.args.answer.now.precision + 31) / 32 in
    let shown : take c.min-shown.result c.args.limbs.now ≡ take n c.args.limbs.now =
    ap (λ k. take k c.args.limbs.now) (search rules) ∙ take_min n c.args.limbs.now in
    search (rules, shown)

pub returns-clause-short : goal.returns-clause-short
returns-clause-short c =
    let exponent : SFits w32 (to_z w32 (of_z w32 c.args.answer.now.exponent)) = search rules in
    let direction : to_z w32 (of_z w32 c.number.result) ≡ c.number.result = search rules in
    let few : length (take c.min-shown.result c.args.limbs.now) ≤ 128 = omega (arith, length-take c.min-shown.result c.args.limbs.now, c.requires.limbs) in
    let short =
    length-sum c.args.negative _ c.from.result _ c.args.answer.now.direction _ c.from-2.result exponent (omega (arith, c.from.ensures))
    few (direction ∙ c.number.ensures) (omega (arith, c.from-2.ensures)) in
    omega (arith, short, c.write_line.ensures.ends)
