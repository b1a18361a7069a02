-- How a sheet goes on agreeing with the model.
use Rattle.std.proofs.Common.{◌≡◌, ℕ, ◌+◌, ◌-◌, cond, eqb, List, [], ◌∷◌, ◌++◌, length, Some, None, sym, ap, ◌∙◌, subst, ⊎_elim, arith}
use mathlib.Core.Path.{fun_ext}
use Rattle.std.proofs.lemmas.Bool.{cases_eq, cond-true, cond-false, eq-eqb, ne_eqb}
use Rattle.sheet.specs.declared.mark.Mark.{Mark}
use Rattle.sheet.specs.declared.trail.Step.{Step}
use Rattle.sheet.specs.Numbers.{Refusal, mark_numbered}
use Rattle.sheet.specs.Model.{Call, marking, History, Note, Model, done, model, refusal_after}
use Rattle.sheet.specs.Undo.{restored}
use Rattle.sheet.specs.Reached.{Shows, Agrees, undone}
use Rattle.sheet.proofs.Notes.{last_mark_push, without_last_push, after_done, after_refused}

pub agrees_shows : (m : Model) (marks : ℕ → Mark) (ss : List Step) → Agrees m marks ss → Shows m marks
agrees_shows m marks [] a = a.0
agrees_shows m marks (s ∷ ss) a = a.0

-- the model can undo as often as the sheet
pub agrees_height : (m : Model) (marks : ℕ → Mark) (ss : List Step) → Agrees m marks ss → length ss ≡ m.h
agrees_height m marks [] a = sym a.1
agrees_height m marks (s ∷ ss) a = let some = a.1 in omega (arith, agrees_height (undone m) (restored marks s) ss a.2)

-- to undo a marking is to be where one was
pub undone_marking : (m : Model) (p k : ℕ) → undone (done {Q = Unit {0}} m (marking p k)) ≡ m
undone_marking m p k =
    ap (λ (ns : List Note). record { notes = ns; h = m.h + 1 - 1 }) (without_last_push m.notes (record { place = p; mark = mark_numbered k }))
    ∙ ap (λ (n : ℕ). record { notes = m.notes; h = n }) (let e : m.h + 1 - 1 ≡ m.h = omega arith in e)

restored_marking : (marks marked : ℕ → Mark) (s : Step) (given : Mark) → s.before ≡ marks s.place.index
    → ((p : ℕ) → marked p ≡ cond (eqb s.place.index p) given (marks p)) → restored marked s ≡ marks
restored_marking marks marked s given was is = fun_ext (λ (p : ℕ). ⊎_elim
    (λ (same : s.place.index ≡ p). cond-true _ _ _ (eq-eqb _ _ same) ∙ was ∙ ap marks same)
    (λ (other : s.place.index ≡ p → ⊥). cond-false _ _ _ (ne_eqb _ _ other) ∙ is p ∙ cond-false _ _ _ (ne_eqb _ _ other))
    (cases_eq s.place.index p))

-- a marking at the place of the step that the trail records
marked_agrees : (m : Model) (marks marked : ℕ → Mark) (s : Step) (ss : List Step) (k : ℕ) → s.before ≡ marks s.place.index
    → ((q : ℕ) → marked q ≡ cond (eqb s.place.index q) (mark_numbered k) (marks q)) → Agrees m marks ss
    → Agrees (done {Q = Unit {0}} m (marking s.place.index k)) marked (s ∷ ss)
marked_agrees m marks marked s ss k was is a =
    let i = s.place.index in
    let n : Note = record { place = i; mark = mark_numbered k } in (
      λ q. is q ∙ ap (λ (x : Mark). cond (eqb i q) (mark_numbered k) x) (agrees_shows m marks ss a q) ∙ sym (last_mark_push m.notes n q),
      omega arith,
      subst (λ (x : Model). Agrees x (restored marked s) ss) (sym (undone_marking m i k))
          (subst (λ (f : ℕ → Mark). Agrees m f ss) (sym (restored_marking marks marked s (mark_numbered k) was is)) a),
    )

pub marking_agrees : (m : Model) (marks marked : ℕ → Mark) (s : Step) (ss : List Step) (p k : ℕ) (given : Mark)
    → s.place.index ≡ p → s.before ≡ marks p → given ≡ mark_numbered k
    → ((q : ℕ) → marked q ≡ cond (eqb s.place.index q) given (marks q)) → Agrees m marks ss → Agrees (done {Q = Unit {0}} m (marking p k)) marked (s ∷ ss)
marking_agrees m marks marked s ss p k given here was e is a =
    subst (λ (i : ℕ). Agrees (done {Q = Unit {0}} m (marking i k)) marked (s ∷ ss)) here
    (marked_agrees m marks marked s ss k (was ∙ ap marks (sym here)) (λ q. is q ∙ ap (λ (x : Mark). cond (eqb s.place.index q) x (marks q)) e) a)

pub undoing_agrees : (m : Model) (marks back : ℕ → Mark) (s : Step) (ss : List Step) → ((q : ℕ) → back q ≡ restored marks s q) → Agrees m marks (s ∷ ss) → Agrees (undone m) back ss
undoing_agrees m marks back s ss is a = subst (λ (f : ℕ → Mark). Agrees (undone m) f ss) (sym (fun_ext is)) a.2

-- after a call that is refused, and after one that is done
pub still_agrees : (cs : History) (c : Call (Unit {0})) (r : Refusal) (marks : ℕ → Mark) (ss : List Step) → refusal_after cs c ≡ Some r → Agrees (model cs) marks ss → Agrees (model (cs ++ c ∷ [])) marks ss
still_agrees cs c r marks ss refused a = subst (λ (m : Model). Agrees m marks ss) (sym (after_refused cs c r refused)) a

pub then_agrees : (cs : History) (c : Call (Unit {0})) (marks : ℕ → Mark) (ss : List Step) → refusal_after cs c ≡ None → Agrees (done (model cs) c) marks ss → Agrees (model (cs ++ c ∷ [])) marks ss
then_agrees cs c marks ss taken a = subst (λ (m : Model). Agrees m marks ss) (sym (after_done cs c taken)) a

pub then_shows : (cs : History) (c : Call (Unit {0})) (marks : ℕ → Mark) → refusal_after cs c ≡ None → Shows (done (model cs) c) marks → Shows (model (cs ++ c ∷ [])) marks
then_shows cs c marks taken s = subst (λ (m : Model). Shows m marks) (sym (after_done cs c taken)) s
