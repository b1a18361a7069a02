use Rattle.std.proofs.Common.{sym, ap, ◌∙◌}
use Rattle.std.specs.Result.{result_map_both}
use Rattle.fields.proofs.Runs.{runs_check}
use Rattle.form_reader.proofs.lexing.Lexer.run.Goals as goal

pub read-requires : goal.read-requires
read-requires c = λ e q. (runs_check.refused e _ (sym c.run.ensures ∙ ap (result_map_both (λ run. run.now) (λ place. place)) q)).within
