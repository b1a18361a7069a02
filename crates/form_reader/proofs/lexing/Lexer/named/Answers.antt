use Rattle.std.proofs.Common.{sym, ◌∙◌}
use Rattle.fields.proofs.Keywords.{keywords_check}
use Rattle.form_reader.proofs.lexing.Lexer.named.Goals as goal

pub read-requires : goal.read-requires
read-requires c = λ e q. ((keywords_check _).refused e _ (sym c.keyword.ensures ∙ q)).within
