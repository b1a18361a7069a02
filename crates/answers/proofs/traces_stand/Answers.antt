use Rattle.answers.proofs.Traces.{trace_starts, trace_goes_on}
use Rattle.answers.proofs.Sheets.{sheets_traced}
use Rattle.answers.proofs.traces_stand.Goals as goal

pub returns : goal.returns
returns c = record { starts = trace_starts; goes_on = trace_goes_on; sheets = sheets_traced }
