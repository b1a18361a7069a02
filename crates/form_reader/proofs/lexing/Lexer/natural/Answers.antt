use Rattle.std.proofs.Common.{sym, ◌∙◌}
use Rattle.fields.proofs.Naturals.{naturals_check}
use Rattle.form_reader.proofs.lexing.Lexer.natural.Goals as goal

pub read-requires : goal.read-requires
read-requires c = λ e q. (naturals_check.refused e _ (sym c.natural.ensures ∙ q)).within
