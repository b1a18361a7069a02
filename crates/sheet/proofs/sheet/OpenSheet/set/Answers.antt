use Rattle.std.proofs.Common.{refl}
use Rattle.sheet.specs.Model.{setting, model}
use Rattle.sheet.proofs.Agreeing.{agrees_shows, then_shows}
use Rattle.sheet.proofs.sheet.OpenSheet.set.Goals as goal

pub returns-clause-reached : goal.returns-clause-reached
returns-clause-reached c = λ cs a. then_shows cs setting _ refl (agrees_shows (model cs) _ _ a)
