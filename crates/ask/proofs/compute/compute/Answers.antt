-- The answer by the class of the sum.
use Rattle.std.proofs.Common.{length, pos, ap, ◌∙◌}
use Rattle.grid.specs.Modes.{mode_of}
use Rattle.batch.specs.declared.kind.Kind.{Kind}
use Rattle.sheet.specs.Shown.{shown}
use Rattle.survey.specs.Found.{found}
use Rattle.survey.specs.declared.class.SumClass.TheVariants.{NotANumber as NanSum, Infinite, Number}
use Rattle.answers.specs.Published.{plain}
use Rattle.ask.proofs.Classes.{answer_by_class}
use Rattle.ask.proofs.compute.compute.Goals as goal

pub returns-in-NotANumber : goal.returns-in-NotANumber
returns-in-NotANumber g c =
    c.plain_answer.ensures
    ∙ answer_by_class (shown c.args.marks.now) (g.B.Batch.terms c.args.batch.now) (found c.new-kinds.result) c.new-kinds.ensures
    NanSum (g.G.Grid.spacing c.args.rounding.grid.now) (mode_of c.args.rounding.mode) (length c.args.limbs.now) c.in-NotANumber.ensures

pub returns-in-Infinite : goal.returns-in-Infinite
returns-in-Infinite g c =
    c.plain_answer-in-Infinite.ensures
    ∙ ap (λ (k : Kind). plain k (pos 0) 0 (length c.args.limbs.now)) c.infinity.ensures
    ∙ answer_by_class (shown c.args.marks.now) (g.B.Batch.terms c.args.batch.now) (found c.new-kinds.result) c.new-kinds.ensures
    (Infinite c.in-Infinite.negative) (g.G.Grid.spacing c.args.rounding.grid.now) (mode_of c.args.rounding.mode) (length c.args.limbs.now) c.in-Infinite.ensures

pub returns-in-Number : goal.returns-in-Number
returns-in-Number g c =
    c.finite_answer.ensures
    ∙ answer_by_class (shown c.args.marks.now) (g.B.Batch.terms c.args.batch.now) (found c.new-kinds.result) c.new-kinds.ensures
    Number (g.G.Grid.spacing c.args.rounding.grid.now) (mode_of c.args.rounding.mode) (length c.args.limbs.now) c.in-Number.ensures
