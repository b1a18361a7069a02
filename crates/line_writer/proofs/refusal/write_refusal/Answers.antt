use Rattle.std.proofs.Common.{arith}
use Rattle.line_writer.proofs.Lengths.{length-refusal}
use Rattle.line_writer.proofs.refusal.write_refusal.Goals as goal

pub write_line-requires : goal.write_line-requires
write_line-requires c =
    let short = length-refusal c.from.result c.args.line c.args.byte (omega (arith, c.from.ensures)) (omega arith) (omega arith) in
    omega (arith, short, c.requires)

pub returns-clause-short : goal.returns-clause-short
returns-clause-short c =
    let short = length-refusal c.from.result c.args.line c.args.byte (omega (arith, c.from.ensures)) (omega arith) (omega arith) in
    omega (arith, short, c.write_line.ensures.ends)
