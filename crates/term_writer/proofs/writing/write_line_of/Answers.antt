use Rattle.std.proofs.Common.{sym, refl, arith}
use Rattle.batch.specs.declared.kind.Kind.TheVariants.{NotANumber, PositiveInfinity, NegativeInfinity, PositiveZero, NegativeZero, Absent}
use Rattle.line_writer.proofs.Writes.{wrote_nothing}
use Rattle.term_writer.proofs.Lookups.{line_of_special}
use Rattle.term_writer.proofs.writing.write_line_of.Goals as goal

pub returns-in-NotANumber : goal.returns-in-NotANumber
returns-in-NotANumber g c = rw (line_of_special (g.B.Batch.terms c.args.batch.now) c.args.i NotANumber (sym c.in-NotANumber.ensures) refl) c.write_line.ensures

pub returns-in-PositiveInfinity : goal.returns-in-PositiveInfinity
returns-in-PositiveInfinity g c =
    rw (line_of_special (g.B.Batch.terms c.args.batch.now) c.args.i PositiveInfinity (sym c.in-PositiveInfinity.ensures) refl) c.write_line-in-PositiveInfinity.ensures

pub returns-in-NegativeInfinity : goal.returns-in-NegativeInfinity
returns-in-NegativeInfinity g c =
    rw (line_of_special (g.B.Batch.terms c.args.batch.now) c.args.i NegativeInfinity (sym c.in-NegativeInfinity.ensures) refl) c.write_line-in-NegativeInfinity.ensures

pub returns-in-PositiveZero : goal.returns-in-PositiveZero
returns-in-PositiveZero g c =
    rw (line_of_special (g.B.Batch.terms c.args.batch.now) c.args.i PositiveZero (sym c.in-PositiveZero.ensures) refl) c.write_line-in-PositiveZero.ensures

pub returns-in-NegativeZero : goal.returns-in-NegativeZero
returns-in-NegativeZero g c =
    rw (line_of_special (g.B.Batch.terms c.args.batch.now) c.args.i NegativeZero (sym c.in-NegativeZero.ensures) refl) c.write_line-in-NegativeZero.ensures

pub returns-in-Absent : goal.returns-in-Absent
returns-in-Absent g c =
    rw (line_of_special (g.B.Batch.terms c.args.batch.now) c.args.i Absent (sym c.in-Absent.ensures) refl) (wrote_nothing c.args.line.now 0 (omega arith))
