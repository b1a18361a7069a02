use Rattle.std.proofs.Common.{map, subst}
use Rattle.history.specs.declared.any_sheet.Sheet.{Sheet}
use Rattle.ask_history.specs.Data.{call_of}
use Rattle.ask_history.specs.Law.{CallLaw}
use Rattle.text_call.proofs.calls.call_moved.Goals as goal

pub returns : goal.returns
returns g c =
    let made = call_of g.G.Grid.spacing g.G.Grid.widest (map (λ b. g.B.Batch.terms b.now) c.args.batches.now) c.args.wanted in
    subst (λ (s : Sheet). CallLaw s made c.call-next.result.0 c.call-next.result.1) c.replace-moved.ensures.value c.call-next.ensures
