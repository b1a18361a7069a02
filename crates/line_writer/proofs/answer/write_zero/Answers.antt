use Rattle.std.proofs.Common.{◌≡◌, ◌∙◌, arith, rules, w32, of_z, to_z}
use Rattle.line_writer.proofs.Lengths.{length-zero_sum}
use Rattle.line_writer.proofs.answer.write_zero.Goals as goal

pub write_line-requires : goal.write_line-requires
write_line-requires c =
    let direction : to_z w32 (of_z w32 c.number.result) ≡ c.number.result = search rules in
    let short = length-zero_sum c.args.negative c.args.answer.now.direction _ c.from.result (direction ∙ c.number.ensures) (omega (arith, c.from.ensures)) in
    omega (arith, short, c.requires)

pub returns-clause-short : goal.returns-clause-short
returns-clause-short c =
    let direction : to_z w32 (of_z w32 c.number.result) ≡ c.number.result = search rules in
    let short = length-zero_sum c.args.negative c.args.answer.now.direction _ c.from.result (direction ∙ c.number.ensures) (omega (arith, c.from.ensures)) in
    omega (arith, short, c.write_line.ensures.ends)
