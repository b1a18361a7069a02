use Rattle.ask_history.proofs.Calling.{own_call}
use Rattle.ask_history.proofs.any_sheet.call_sheet.Goals as goal

pub returns : goal.returns
returns c = own_call c.args.sheet _ c.args.call c.call-next.result.1 c.without_answer.result c.without_answer.ensures c.call-next.ensures.answers c.call-next.ensures.reaches c.call-next.ensures.refused
