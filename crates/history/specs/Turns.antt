-- Lists of calls in which some come out of turn: which of them fit the state of the sheet, and what each is told.
use Rattle.std.specs.Prelude.{Bool, true, false, cond, List, [], ◌∷◌, Some, fold, Option}
use Rattle.sheet.specs.Model.{Call, marking, undoing, setting, reopening, asking, refusal_after}
use Rattle.sheet.specs.Numbers.{Refusal, refused_by}

-- whether a call fits an open sheet (true) or a set one (false): a set sheet is asked and reopened, an open one all else
abbrev pub fits : {Q : Type 0} → Bool → Call Q → Bool
fits is_open (marking p k) = is_open
fits is_open undoing = is_open
fits is_open setting = is_open
fits true reopening = false
fits false reopening = true
fits true (asking q) = false
fits false (asking q) = true

-- whether the sheet is open after a call; one out of turn changes nothing
abbrev pub opens : {Q : Type 0} → Bool → Call Q → Bool
opens is_open (marking p k) = is_open
opens is_open undoing = is_open
opens is_open setting = false
opens is_open reopening = true
opens is_open (asking q) = is_open

-- whether the sheet is open after a list of calls, from its laying on
abbrev pub open_after : {Q : Type 0} → List (Call Q) → Bool
open_after cs = fold opens true cs

-- the calls that fit, from a state on
abbrev pub fitting_from : {Q : Type 0} → Bool → List (Call Q) → List (Call Q)
fitting_from is_open [] = []
fitting_from is_open (c ∷ cs) = cond (fits is_open c) (c ∷ fitting_from (opens is_open c) cs) (fitting_from (opens is_open c) cs)

-- the calls that fit: these alone reach the sheet
abbrev pub fitting : {Q : Type 0} → List (Call Q) → List (Call Q)
fitting cs = fitting_from true cs

-- what a call is told after a list of calls: 20 where it does not fit, else what the sheet's model says
abbrev pub told_after : {Q : Type 0} → List (Call Q) → Call Q → Option Refusal
told_after cs c = cond (fits (open_after cs) c) (refusal_after (fitting cs) c) (Some (refused_by 20))
