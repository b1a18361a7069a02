use Rattle.std.proofs.Common.{rules, refl, ◌∙◌}
use Rattle.history.specs.declared.call.SheetCall.TheVariants.{Mark}
use Rattle.text_call.proofs.Standings.{sheet_call_done}
use Rattle.text_call.proofs.calls.Calls.mark.Goals as goal

pub returns : goal.returns
returns c = λ p ts s.
    let done = sheet_call_done p ts c.args.self.now _ (Mark c.min-place.result c.mark_of_run.result) c.mark_sheet.result c.in_ok-mark_sheet.field-0 s c.mark_sheet.ensures c.in_ok-mark_sheet.was refl refl in
    (done.0, (search rules) ∙ done.1, done.2)
