-- The marks from the number on are searched as the sheet's places are.
use Rattle.std.proofs.Common.{sym, ap, ◌∙◌}
use Rattle.sheet.specs.Shown.{shown}
use Rattle.survey.specs.Places.{first_marked}
use Rattle.survey.proofs.Marked.{place_from, searched, none_marked}
use Rattle.survey.proofs.places.lowest_marked_from.Goals as goal

pub returns-then-not-any_marked : goal.returns-then-not-any_marked
returns-then-not-any_marked c =
    none_marked (shown c.args.marks.now) c.args.from c.from-left.result.now c.from-left.ensures.in_order (sym c.any_marked.ensures ∙ c.if-not-any_marked.true)
    ∙ ap (first_marked (shown c.args.marks.now) c.args.from) c.from-left.ensures.all

pub returns-in_err-at : goal.returns-in_err-at
returns-in_err-at c =
    c.from_residual.ensures ∙ ap (place_from c.args.from) c.in_err-at.ensures.first ∙ searched (shown c.args.marks.now) c.args.from c.from-left.result.now c.from-left.ensures.in_order
    ∙ ap (first_marked (shown c.args.marks.now) c.args.from) c.from-left.ensures.all

pub returns : goal.returns
returns c =
    ap (place_from c.args.from) c.in_ok-at.ensures.first ∙ searched (shown c.args.marks.now) c.args.from c.from-left.result.now c.from-left.ensures.in_order
    ∙ ap (first_marked (shown c.args.marks.now) c.args.from) c.from-left.ensures.all
