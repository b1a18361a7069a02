use Rattle.std.proofs.Common.{[]}
use Rattle.answers.proofs.Traces.{trace_starts}
use Rattle.ask_history.proofs.Leading.{reaches_traced}
use Rattle.ask_history.proofs.any_sheet.new_sheet.Goals as goal

pub returns : goal.returns
returns c = reaches_traced [] c.new.result trace_starts c.new.ensures
