-- The answer of a sum without parts.
use Rattle.std.proofs.Common.{Bool, length, pos, ap, ◌∙◌}
use Rattle.grid.specs.Modes.{mode_of}
use Rattle.batch.specs.declared.kind.Kind.{Kind}
use Rattle.sheet.specs.Shown.{shown}
use Rattle.column.specs.PartsOf.{parts_of}
use Rattle.answers.specs.Published.{plain, sum_answer}
use Rattle.ask.proofs.Placing.{answer_of_none}
use Rattle.ask.proofs.compute.finite_answer.Goals as goal

pub returns-in-None : goal.returns-in-None
returns-in-None g c =
    let u = g.G.Grid.spacing c.args.rounding.grid.now in
    let m = mode_of c.args.rounding.mode in
    let ps = parts_of (shown c.args.marks.now) (g.B.Batch.terms c.args.batch.now) in
    let n = length c.args.limbs.now in
    c.plain_answer.ensures
    ∙ ap (λ (k : Kind). plain k (pos 0) 0 n) c.zero.ensures
    ∙ answer_of_none c.args.exact_zero_negative u m ps n c.in-None.ensures
    ∙ ap (λ (b : Bool). sum_answer b u m ps n) c.requires
