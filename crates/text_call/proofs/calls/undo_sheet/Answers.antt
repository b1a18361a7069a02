use Rattle.history.specs.declared.call.SheetCall.TheVariants.{Undo}
use Rattle.text_call.proofs.SheetCalls.{undoing_keeps, law_in_turn, law_out_of_turn}
use Rattle.text_call.proofs.calls.undo_sheet.Goals as goal

pub returns-in-Open : goal.returns-in-Open
returns-in-Open c =
    law_in_turn c.args.sheet.now c.in-Open.sheet c.undo.new.self Undo c.undo.result c.without_answer.result c.in-Open.is undoing_keeps c.without_answer.ensures
    c.undo.ensures.answers c.undo.ensures.reached c.undo.ensures.refused

pub returns-in-Set : goal.returns-in-Set
returns-in-Set c = law_out_of_turn c.args.sheet.now c.in-Set.field-0 Undo c.in-Set.is undoing_keeps
