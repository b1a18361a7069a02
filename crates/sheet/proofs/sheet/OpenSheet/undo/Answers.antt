use Rattle.std.proofs.Common.{[], ◌∷◌, ◌++◌, length, ap, ◌∙◌, subst, arith}
use Rattle.sheet.specs.Model.{History, marking, undoing, setting, model}
use Rattle.sheet.specs.Reached.{Agrees, Reached}
use Rattle.sheet.specs.Shown.{shown}
use Rattle.sheet.specs.Undo.{undoes}
use Rattle.sheet.proofs.Agreeing.{agrees_shows, agrees_height, undoing_agrees, then_agrees}
use Rattle.sheet.proofs.Refusing.{taken_undoing}
use Rattle.sheet.proofs.Settling.{undone_marking_marks, kept_by_setting, undone_since_setting}
use Rattle.sheet.proofs.sheet.OpenSheet.undo.Goals as goal

pub returns-in_err-step-clause-stops_at_setting : goal.returns-in_err-step-clause-stops_at_setting
returns-in_err-step-clause-stops_at_setting c = λ cs later q other a. agrees_shows (model (cs ++ setting ∷ later)) _ _ a q ∙ kept_by_setting cs later q other

-- the history with an undo more leads to the sheet that is left
goes_on : (c : goal.After-put) (cs : History) → Reached cs c.args.self.now → Reached (cs ++ undoing ∷ []) (record { marks = c.put.new.self; trail = c.pop.new.self })
goes_on c cs a =
    let s = c.args.self.now in
    let height = agrees_height (model cs) (shown s.marks) (undoes s.trail) a in
    then_agrees cs undoing _ _ (taken_undoing (model cs) (λ none. omega (arith, none, height, ap length c.in_ok-step.ensures)))
    (undoing_agrees (model cs) (shown s.marks) (shown c.put.new.self) c.in_ok-step.step (undoes c.pop.new.self) c.put.ensures
    (subst (Agrees (model cs) (shown s.marks)) c.in_ok-step.ensures a))

pub returns-clause-takes_back : goal.returns-clause-takes_back
returns-clause-takes_back c = λ cs p k taken a q.
    agrees_shows (model ((cs ++ marking p k ∷ []) ++ undoing ∷ [])) _ _ (goes_on c (cs ++ marking p k ∷ []) a) q ∙ undone_marking_marks cs p k q taken

pub returns-clause-stops_at_setting : goal.returns-clause-stops_at_setting
returns-clause-stops_at_setting c = λ cs later q other a.
    agrees_shows (model ((cs ++ setting ∷ later) ++ undoing ∷ [])) _ _ (goes_on c (cs ++ setting ∷ later) a) q ∙ undone_since_setting cs later q other
