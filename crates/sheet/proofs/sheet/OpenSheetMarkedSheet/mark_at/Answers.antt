use Rattle.std.proofs.Common.{◌∙◌}
use Rattle.sheet.specs.Model.{model}
use Rattle.sheet.proofs.Agreeing.{agrees_shows}
use Rattle.sheet.proofs.sheet.OpenSheetMarkedSheet.mark_at.Goals as goal

pub returns-clause-answers : goal.returns-clause-answers
returns-clause-answers c = λ cs a. c.at.ensures ∙ agrees_shows (model cs) _ _ a c.args.place
