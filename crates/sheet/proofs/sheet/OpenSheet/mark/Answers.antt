use Rattle.std.proofs.Common.{◌≡◌, [], ◌∷◌, ◌++◌, sym, ◌∙◌, subst, rules}
use Rattle.sheet.specs.declared.trail.Step.{Step}
use Rattle.sheet.specs.declared.trail.Trail.{Trail}
use Rattle.sheet.specs.Numbers.{refused_by}
use Rattle.sheet.specs.Model.{marking, model}
use Rattle.sheet.specs.Shown.{shown}
use Rattle.sheet.specs.Undo.{undoes}
use Rattle.sheet.specs.Reached.{Agrees}
use Rattle.sheet.proofs.Agreeing.{agrees_height, marking_agrees, still_agrees, then_agrees}
use Rattle.sheet.proofs.sheet.OpenSheet.mark.Goals as goal

pub returns-in_err-push-clause-answers : goal.returns-in_err-push-clause-answers
returns-in_err-push-clause-answers c = λ cs a. let full : (model cs).h ≡ 256 = sym (agrees_height (model cs) _ _ a) ∙ c.in_err-push.ensures.1 in search rules

pub returns-in_err-push-clause-reached : goal.returns-in_err-push-clause-reached
returns-in_err-push-clause-reached c = λ cs a.
    let full : (model cs).h ≡ 256 = sym (agrees_height (model cs) _ _ a) ∙ c.in_err-push.ensures.1 in
    subst (λ (t : Trail). Agrees (model (cs ++ marking c.args.place c.args.mark ∷ [])) (shown c.args.self.now.marks) (undoes t)) (sym c.in_err-push.ensures.2)
    (still_agrees cs (marking c.args.place c.args.mark) (refused_by 13) _ _ (search rules) a)

pub returns-clause-answers : goal.returns-clause-answers
returns-clause-answers c = λ cs a. let height = agrees_height (model cs) _ _ a in search rules

pub returns-clause-reached : goal.returns-clause-reached
returns-clause-reached c = λ cs a.
    let s = c.args.self.now in
    let height = agrees_height (model cs) _ _ a in
    let step : Step = record { place = c.in_ok-target.target; before = c.mark_at-before.result } in
    then_agrees cs (marking c.args.place c.args.mark) _ _ (search rules)
    (subst (Agrees _ (shown c.put.new.self)) (sym c.in_ok-push.ensures.0)
    (marking_agrees (model cs) (shown s.marks) (shown c.put.new.self) step (undoes s.trail) c.args.place c.args.mark c.in_ok-given.given
    c.in_ok-target.ensures c.mark_at-before.ensures.shows c.in_ok-given.ensures.0 c.put.ensures a))
