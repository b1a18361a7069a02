-- What follows for an ask from what it is told: the laws of its answer, and its place in a trace.
use Rattle.std.proofs.Common.{◌≡◌, ℕ, Bool, true, List, [], ◌∷◌, ◌++◌, ℤ, IfOk, Ok, Err, Result, sym, ap, ◌∙◌, subst}
use mathlib.Core.Path.{fun_ext}
use mathlib.Core.List.{map-append}
use Rattle.std.proofs.lemmas.List.Sums.{fold_push}
use Rattle.std.proofs.lemmas.Bool.{cond-true}
use Rattle.batch.specs.Term.{Term}
use Rattle.sheet.specs.Model.{asking, History, Model, blank, after, model}
use Rattle.history.specs.Turns.{fits, open_after, fitting}
use Rattle.sheet.specs.Reached.{Shows}
use Rattle.sheet.specs.Shown.{shown}
use Rattle.sheet.specs.declared.mark.Mark.{Mark}
use Rattle.sheet.specs.declared.marks.Marks.{Marks}
use Rattle.sheet.specs.declared.sheet.SetSheet.{SetSheet}
use Rattle.history.proofs.Turning.{open_after_push, fitting_push}
use Rattle.answers.specs.Published.{Published}
use Rattle.answers.specs.Asked.{Question, question, Reply, answered, asked}
use Rattle.answers.specs.Laws.{Proper, AnswerLaw, Twins, Enclosing}
use Rattle.answers.specs.Trace.{Event, event, without_question, history_of, reply_after, TracedSet}
use Rattle.ask.specs.Told.{published, told}
use Rattle.ask.specs.declared.answer.Answer.{Answer}
use Rattle.ask.specs.declared.fault.AskFault.{AskFault}
use Rattle.answers.proofs.Right.{answers_right}
use Rattle.answers.proofs.Enclosing.{answers_enclose, twin_proper}
use Rattle.answers.proofs.Traces.{trace_goes_on}

-- the marks and the width as the code reads them
pub as_read : (ms ns : Marks) (v w : ℕ) (ts : List Term) (u : ℤ → ℤ) (m n : ℕ) → ms ≡ ns → v ≡ w → asked (shown ms) (question ts u v m n) ≡ asked (shown ns) (question ts u w m n)
as_read ms ns v w ts u m n e f = ap (λ (x : Marks). asked (shown x) (question ts u v m n)) e ∙ ap (λ (x : ℕ). asked (shown ns) (question ts u x m n)) f

-- ---- a refusal that is handed on
-- ---- two questions about one batch and grid ask for one sum
down_encloses : (p q : Question) → Twins p q → (marks : ℕ → Mark) (a b : Published) → Enclosing marks q a b → Enclosing marks p a b
down_encloses p q twins marks a b h =
    subst (λ (ts : List Term). Enclosing marks (record { terms = ts; spacing = p.spacing; width = p.width; mode = p.mode; limbs = p.limbs }) a b) (sym twins.terms)
    (subst (λ (u : ℤ → ℤ). Enclosing marks (record { terms = q.terms; spacing = u; width = p.width; mode = p.mode; limbs = p.limbs }) a b) (sym (fun_ext twins.spacing)) h)

module _ (marks : ℕ → Mark) (q : Question) (proper : Proper q) where
  pub ask_right : (r : Result Answer AskFault) (ls : List ℕ) → told r ls ≡ asked marks q → IfOk r (λ a. AnswerLaw marks q (published a ls))
  ask_right (Ok a) ls e = answers_right marks q (published a ls) proper (sym e)
  ask_right (Err f) ls e = tt

  pub ask_encloses : (r : Result Answer AskFault) (ls : List ℕ) → told r ls ≡ asked marks q
      → IfOk r (λ a. (p : Question) (b : Published) → asked marks p ≡ answered b
      → (Twins p q → Enclosing marks p b (published a ls)) × (Twins q p → Enclosing marks p (published a ls) b))
  ask_encloses (Ok a) ls e = λ p b d. (
    λ t. down_encloses p q t marks b (published a ls) (answers_enclose marks p q b (published a ls) proper t d (sym e)),
    λ t. answers_enclose marks q p (published a ls) b (twin_proper q p t proper) t (sym e) d,
  )
  ask_encloses (Err f) ls e = tt

-- ---- traces
module _ (h : List Event) (s : SetSheet) (traced : TracedSet h s) (q : Question) where
  in_turn : fits (open_after (history_of h)) (asking q) ≡ true
  in_turn = ap (λ (b : Bool). fits b (asking q)) traced.state

  pub ask_answers : (r : Reply) → r ≡ asked (shown s.marks) q → r ≡ reply_after (history_of h) (asking q)
  ask_answers r e =
      e
      ∙ ap (λ (f : ℕ → Mark). asked f q) (fun_ext traced.reached)
      ∙ sym (cond-true _ _ _ in_turn)

  one_more : (r : Reply) → history_of (h ++ event (asking q) r ∷ []) ≡ history_of h ++ asking tt ∷ []
  one_more r = map-append (λ (e : Event). without_question e.call) h (event (asking q) r ∷ [])

  pub ask_reached : (r : Reply) → Proper q → r ≡ asked (shown s.marks) q → TracedSet (h ++ event (asking q) r ∷ []) s
  ask_reached r proper e =
      let cs = history_of h in
      let fit : fits (open_after cs) (asking tt) ≡ true = ap (λ (b : Bool). fits b (asking tt)) traced.state in
      let calls : fitting (cs ++ asking tt ∷ []) ≡ fitting cs ++ asking tt ∷ [] = fitting_push cs (asking tt) fit in
      let same : model (fitting cs ++ asking tt ∷ []) ≡ model (fitting cs) = fold_push after blank (fitting cs) (asking tt) in
      record {
        lawful = trace_goes_on h (asking q) r traced.lawful proper (ask_answers r e);
        state = ap open_after (one_more r) ∙ open_after_push cs (asking tt) ∙ traced.state;
        reached = subst (λ (m : Model). Shows m (shown s.marks)) (sym (ap (λ (l : History). model (fitting l)) (one_more r) ∙ ap model calls ∙ same)) traced.reached;
      }
