use Rattle.std.proofs.Common.{sym, ◌∙◌}
use Rattle.fields.proofs.Floors.{floors_check}
use Rattle.form_reader.proofs.lexing.Lexer.floor.Goals as goal

pub read-requires : goal.read-requires
read-requires c = λ e q. (floors_check.refused e _ (sym c.floor.ensures ∙ q)).within
