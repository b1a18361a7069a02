use Rattle.std.proofs.Common.{pos, ◌∙◌, arith}
use Rattle.std.proofs.lemmas.Int.{ints}
use Rattle.batch.specs.Term.{regular, low_weight, top_weight}
use Rattle.term_writer.proofs.Lookups.{lookup_found, weights_near}
use Rattle.term_writer.proofs.extent.Extent.of.Goals as goal

pub overflow_sub-precision : goal.overflow_sub-precision
overflow_sub-precision g c =
    let w = weights_near (g.B.Batch.terms c.args.batch.now) c.args.i (g.B.Batch.limited c.args.batch.now).each_limited c.requires in
    omega (arith, ints, w, c.top-exponent.ensures, c.low.ensures)

pub overflow_cast-precision : goal.overflow_cast-precision
overflow_cast-precision g c =
    let w = weights_near (g.B.Batch.terms c.args.batch.now) c.args.i (g.B.Batch.limited c.args.batch.now).each_limited c.requires in
    omega (arith, ints, w, c.top-exponent.ensures, c.low.ensures)

pub invariant_of-result : goal.invariant_of-result
invariant_of-result g c =
    let w = weights_near (g.B.Batch.terms c.args.batch.now) c.args.i (g.B.Batch.limited c.args.batch.now).each_limited c.requires in
    omega (arith, ints, w, c.top-exponent.ensures, c.low.ensures)

pub returns-clause-exponent : goal.returns-clause-exponent
returns-clause-exponent g c = λ s m q at.
    let ts = g.B.Batch.terms c.args.batch.now in
    let w = weights_near ts c.args.i (g.B.Batch.limited c.args.batch.now).each_limited c.requires in
    let top = c.top-exponent.ensures ∙ lookup_found top_weight (pos 0) ts c.args.i (regular s m q) at in
    omega (arith, ints, w, c.top-exponent.ensures, top)

pub returns-clause-precision : goal.returns-clause-precision
returns-clause-precision g c = λ s m q at.
    let ts = g.B.Batch.terms c.args.batch.now in
    let w = weights_near ts c.args.i (g.B.Batch.limited c.args.batch.now).each_limited c.requires in
    let top = c.top-exponent.ensures ∙ lookup_found top_weight (pos 0) ts c.args.i (regular s m q) at in
    let low = c.low.ensures ∙ lookup_found low_weight (pos 0) ts c.args.i (regular s m q) at in
    omega (arith, ints, w, c.top-exponent.ensures, c.low.ensures, top, low)
