use Rattle.std.proofs.Common.{[], ◌∷◌, ◌++◌, sym, refl, ap, subst}
use Rattle.sheet.specs.Model.{marking, undoing, setting, reopening}
use Rattle.history.specs.declared.any_sheet.Sheet.TheVariants.{Open, Set}
use Rattle.history.specs.declared.call.SheetCall.{SheetCall}
use Rattle.history.specs.Data.{call_of}
use Rattle.history.specs.Reaches.{Reaches}
use Rattle.history.specs.Turns.{fits, fitting}
use Rattle.history.proofs.Reaching.{turns_open, turns_set, stays_open}
use Rattle.history.proofs.any_sheet.call_open.Goals as goal

pub returns-in-Mark-clause-reaches : goal.returns-in-Mark-clause-reaches
returns-in-Mark-clause-reaches c = λ cs a.
    subst (λ (x : SheetCall). Reaches (cs ++ call_of x ∷ []) (Open c.mark.new.self)) (sym c.in-Mark.is)
    (turns_open cs (marking c.in-Mark.place c.in-Mark.mark) c.mark.new.self a.0 a.0 (c.mark.ensures.reached (fitting cs) a.1))

pub returns-in-Undo-clause-reaches : goal.returns-in-Undo-clause-reaches
returns-in-Undo-clause-reaches c = λ cs a.
    subst (λ (x : SheetCall). Reaches (cs ++ call_of x ∷ []) (Open c.undo.new.self)) (sym c.in-Undo.is)
    (turns_open cs undoing c.undo.new.self a.0 a.0 (c.undo.ensures.reached (fitting cs) a.1))

pub returns-in-Set-clause-reaches : goal.returns-in-Set-clause-reaches
returns-in-Set-clause-reaches c = λ cs a.
    subst (λ (x : SheetCall). Reaches (cs ++ call_of x ∷ []) (Set c.set.result)) (sym c.in-Set.is)
    (turns_set cs setting c.set.result refl a.0 (c.set.ensures.reached (fitting cs) a.1))

pub returns-in-Reopen-clause-reaches : goal.returns-in-Reopen-clause-reaches
returns-in-Reopen-clause-reaches c = λ cs a.
    subst (λ (x : SheetCall). Reaches (cs ++ call_of x ∷ []) (Open c.args.sheet)) (sym c.in-Reopen.is)
    (stays_open cs reopening c.args.sheet refl (ap (λ b. fits {Q = Unit {0}} b reopening) a.0) a.1)
