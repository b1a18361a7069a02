-- The law of a marking and of an undoing, from what an open sheet itself promises, and of either out of turn.
use Rattle.std.proofs.Common.{◌≡◌, ℕ, Bool, true, [], ◌∷◌, ◌++◌, Ok, Err, Result, is_err, is_some, sym, refl, ap, ◌∙◌, subst}
use Rattle.std.proofs.lemmas.Bool.{cond-true}
use Rattle.sheet.specs.declared.fault.SheetFault.{SheetFault}
use Rattle.sheet.specs.declared.sheet.OpenSheet.{OpenSheet}
use Rattle.sheet.specs.declared.sheet.SetSheet.{SetSheet}
use Rattle.sheet.specs.Model.{Call, History, refusal_after}
use Rattle.sheet.specs.Numbers.{told}
use Rattle.sheet.specs.Reached.{Reached}
use Rattle.history.specs.declared.any_sheet.Sheet.{Sheet}
use Rattle.history.specs.declared.any_sheet.Sheet.TheVariants.{Open, Set}
use Rattle.history.specs.declared.call.SheetCall.{SheetCall}
use Rattle.history.specs.declared.outcome.CallFault.TheVariants.{Sheet as OwnFault, OutOfTurn}
use Rattle.history.specs.declared.call.SheetCall.TheVariants.{Mark, Undo}
use Rattle.history.specs.Data.{Outcome as SheetOutcome, call_of, outcome_tells}
use Rattle.history.specs.Turns.{fits, opens, open_after, fitting}
use Rattle.history.proofs.Reaching.{turns_open, stays_set}
use Rattle.history.proofs.Turning.{told_out_of_turn}
use Rattle.answers.specs.Trace.{reply_of}
use Rattle.ask_history.specs.declared.outcome.CallFault.TheVariants.{Call as Called}
use Rattle.ask_history.specs.Data.{Outcome, reply_told}
use Rattle.ask_history.specs.Law.{CallLaw}
use Rattle.ask_history.proofs.Calling.{own_call}

-- what a sheet told, as what a call of a list is told
abbrev listed : Result (Unit {0}) SheetFault → SheetOutcome
listed (Ok x) = Ok x
listed (Err f) = Err (OwnFault f)

-- it tells the same
listed_tells : (r : Result (Unit {0}) SheetFault) → outcome_tells (listed r) ≡ told r
listed_tells (Ok x) = refl
listed_tells (Err f) = refl

-- a refusal that it tells is one
listed_refused : (r : Result (Unit {0}) SheetFault) → is_some (outcome_tells (listed r)) ≡ true → is_err r ≡ true
listed_refused (Ok x) e = e
listed_refused (Err f) e = refl

-- a call that only an open sheet takes, and that leaves the state of the sheet
pub record KeepsOpen (c : SheetCall) : Type 0 where
  pub fit : (b : Bool) → fits {Q = Unit {0}} b (call_of c) ≡ b
  pub same : (b : Bool) → opens {Q = Unit {0}} b (call_of c) ≡ b

-- a marking is one
pub marking_keeps : (p k : ℕ) → KeepsOpen (Mark p k)
marking_keeps p k = record { fit = λ b. refl; same = λ b. refl }

-- and so is an undoing
pub undoing_keeps : KeepsOpen Undo
undoing_keeps = record { fit = λ b. refl; same = λ b. refl }

-- such a call in turn
pub law_in_turn : (before : Sheet) (s t : OpenSheet) (c : SheetCall) (r : Result (Unit {0}) SheetFault) (o : Outcome) → before ≡ Open s → KeepsOpen c → reply_told o ≡ reply_of (told r)
    → ((cs : History) → Reached cs s → told r ≡ refusal_after cs (call_of c)) → ((cs : History) → Reached cs s → Reached (cs ++ call_of c ∷ []) t)
    → (is_err r ≡ true → t ≡ s) → CallLaw before (call_of c) (Open t) o
law_in_turn before s t c r o is keeps tells answers reached stays =
    let d : Call (Unit {0}) = call_of c in
    subst (λ (x : Sheet). CallLaw x (call_of c) (Open t) o) (sym is)
    (own_call (Open s) (Open t) c (listed r) o (tells ∙ ap reply_of (sym (listed_tells r)))
    (λ cs a. listed_tells r ∙ answers (fitting cs) a.1 ∙ sym (cond-true _ _ _ (keeps.fit (open_after cs) ∙ a.0)))
    (λ cs a. turns_open cs d t (keeps.same (open_after cs) ∙ a.0) (keeps.fit (open_after cs) ∙ a.0) (reached (fitting cs) a.1))
    (λ e. ap Open (stays (listed_refused r e))))

-- and out of turn
pub law_out_of_turn : (before : Sheet) (s : SetSheet) (c : SheetCall) → before ≡ Set s → KeepsOpen c → CallLaw before (call_of c) before (Err (Called OutOfTurn))
law_out_of_turn before s c is keeps =
    let d : Call (Unit {0}) = call_of c in
    subst (λ (x : Sheet). CallLaw x (call_of c) x (Err (Called OutOfTurn))) (sym is)
    (own_call (Set s) (Set s) c (Err OutOfTurn) (Err (Called OutOfTurn)) refl
    (λ cs a. sym (told_out_of_turn cs d (keeps.fit (open_after cs) ∙ a.0)))
    (λ cs a. stays_set cs d s (keeps.same (open_after cs) ∙ a.0) (keeps.fit (open_after cs) ∙ a.0) a.1) (λ _. refl))
