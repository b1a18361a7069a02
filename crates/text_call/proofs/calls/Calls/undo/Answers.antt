use Rattle.std.proofs.Common.{refl}
use Rattle.history.specs.declared.call.SheetCall.TheVariants.{Undo}
use Rattle.text_call.proofs.Standings.{sheet_call_done}
use Rattle.text_call.proofs.calls.Calls.undo.Goals as goal

pub returns : goal.returns
returns c = λ p ts s. sheet_call_done p ts c.args.self.now _ Undo c.undo_sheet.result c.in_ok-undo_sheet.field-0 s c.undo_sheet.ensures c.in_ok-undo_sheet.was refl refl
