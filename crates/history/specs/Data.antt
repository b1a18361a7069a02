-- Calls and outcomes as a program holds them, and what they stand for.
use Rattle.std.specs.Prelude.{ℕ, List, map, Some, None, Ok, Err, Option, Result}
use Rattle.sheet.specs.Model.{Call, History, marking, undoing, setting, reopening}
use Rattle.sheet.specs.Numbers.{Refusal, refused_by, fault_number}
use Rattle.history.specs.declared.call.SheetCall.{SheetCall}
use Rattle.history.specs.declared.call.SheetCall.TheVariants.{Mark, Undo, Set, Reopen}
use Rattle.history.specs.declared.outcome.CallFault.{CallFault}
use Rattle.history.specs.declared.outcome.CallFault.TheVariants.{Sheet, OutOfTurn}

-- the call of a history that a call of a list is; it asks nothing, so it stands among asks with any questions
abbrev pub call_of : {Q : Type 0} → SheetCall → Call Q
call_of (Mark p k) = marking p k
call_of Undo = undoing
call_of Set = setting
call_of Reopen = reopening

abbrev pub calls_of : List SheetCall → History
calls_of cs = map call_of cs

abbrev pub call_fault_number : CallFault → ℕ
call_fault_number (Sheet f) = fault_number f
call_fault_number OutOfTurn = 20

abbrev pub Outcome : Type 0
Outcome = Result (Unit {0}) CallFault

-- what an outcome tells: nothing where the call was done, else its refusal
abbrev pub outcome_tells : Outcome → Option Refusal
outcome_tells (Ok x) = None
outcome_tells (Err f) = Some (refused_by (call_fault_number f))
