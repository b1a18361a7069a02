use Rattle.std.proofs.Common.{sym, ap, ◌∙◌}
use Rattle.std.specs.Result.{result_map_both}
use Rattle.fields.specs.Held.{limbs_held}
use Rattle.fields.proofs.LimbTexts.{limb_texts_check}
use Rattle.form_reader.proofs.lexing.Lexer.limbs.Goals as goal

pub read-requires : goal.read-requires
read-requires c = λ e q. (limb_texts_check.refused e _ (sym c.limbs.ensures ∙ ap (result_map_both limbs_held (λ place. place)) q)).within
