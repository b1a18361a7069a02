use Rattle.std.proofs.Common.{sym, ◌∙◌}
use Rattle.fields.proofs.Integers.{integers_check}
use Rattle.form_reader.proofs.lexing.Lexer.integer.Goals as goal

pub read-requires : goal.read-requires
read-requires c = λ e q. (integers_check.refused e _ (sym c.integer.ensures ∙ q)).within
