use Rattle.history.specs.declared.call.SheetCall.TheVariants.{Mark}
use Rattle.text_call.proofs.SheetCalls.{marking_keeps, law_in_turn, law_out_of_turn}
use Rattle.text_call.proofs.calls.mark_sheet.Goals as goal

pub returns-in-Open : goal.returns-in-Open
returns-in-Open c =
    law_in_turn c.args.sheet.now c.in-Open.sheet c.mark.new.self (Mark c.args.place c.args.mark) c.mark.result c.without_answer.result c.in-Open.is (marking_keeps c.args.place c.args.mark) c.without_answer.ensures
    c.mark.ensures.answers c.mark.ensures.reached c.mark.ensures.refused

pub returns-in-Set : goal.returns-in-Set
returns-in-Set c = law_out_of_turn c.args.sheet.now c.in-Set.field-0 (Mark c.args.place c.args.mark) c.in-Set.is (marking_keeps c.args.place c.args.mark)
