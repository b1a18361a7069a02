use Rattle.std.proofs.Common.{refl}
use Rattle.std.proofs.lemmas.Result.{err_from_is_err_and}
use Rattle.history.specs.Data.{call_of}
use Rattle.text_call.proofs.Standings.{call_refused, sheet_call_done}
use Rattle.text_call.proofs.calls.Calls.turn.Goals as goal

pub returns-in_err-call_moved : goal.returns-in_err-call_moved
returns-in_err-call_moved c =
    let gives = err_from_is_err_and c.from_residual.result c.from_residual.ensures.1 in
    λ p ts s. rw (gives.1, gives.2) (call_refused p ts c.args.self.now (call_of c.args.wanted) c.call_moved.new.sheet c.call_moved.result _ s c.call_moved.ensures c.in_err-call_moved.was)

pub returns : goal.returns
returns c = λ p ts s. sheet_call_done p ts c.args.self.now _ c.args.wanted c.call_moved.result c.in_ok-call_moved.field-0 s c.call_moved.ensures c.in_ok-call_moved.was refl refl
