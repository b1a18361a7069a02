use Rattle.std.proofs.Common.{replicate, ⊎_elim}
use Rattle.std.proofs.lemmas.Bool.{cases_lt}
use Rattle.std.proofs.lemmas.List.{get_or-replicate, get_or_past}
use Rattle.sheet.specs.declared.mark.Mark.TheVariants.{Out}
use Rattle.sheet.proofs.marks.Marks.new.Goals as goal

pub returns : goal.returns
returns c = λ p. ⊎_elim (λ inside. get_or-replicate 1024 p Out Out inside) (λ past. get_or_past (replicate 1024 Out) p Out past) (cases_lt p 1024)
