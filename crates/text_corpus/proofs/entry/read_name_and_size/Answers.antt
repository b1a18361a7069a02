-- The digits are the decimal that they are read as.
use Rattle.std.proofs.Common.{rules, sym, ◌∙◌}
use Rattle.fields.proofs.Naturals.{naturals_check}
use Rattle.text_corpus.proofs.entry.read_name_and_size.Goals as goal

pub returns-in-Ok : goal.returns-in-Ok
returns-in-Ok c =
    let digits = (naturals_check.accepted c.in-Ok.size c.in_ok-name.digits.now (sym c.natural.ensures ∙ c.in-Ok.is)).1 in
    rw (← digits) (search rules)
