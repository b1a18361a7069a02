-- When a trace leads to a sheet in either state.
use Rattle.std.specs.Prelude.{List}
use Rattle.history.specs.declared.any_sheet.Sheet.{Sheet}
use Rattle.history.specs.declared.any_sheet.Sheet.TheVariants.{Open, Set}
use Rattle.answers.specs.Trace.{Event, TracedOpen, TracedSet}

-- the trace is lawful, and its calls lead to the sheet
abbrev pub Traced : List Event → Sheet → Type 0
Traced h (Open s) = TracedOpen h s
Traced h (Set s) = TracedSet h s
