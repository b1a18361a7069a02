-- The law of a sheet's own call, from what the sheet promises, and of an ask out of turn.
use Rattle.std.proofs.Common.{◌≡◌, Bool, true, false, cond, List, [], ◌∷◌, ◌++◌, is_some, Some, None, Err, Option, sym, refl, ap, ◌∙◌, subst}
use Rattle.std.proofs.lemmas.Bool.{cond-false, false≢true}
use Rattle.sheet.specs.declared.sheet.OpenSheet.{OpenSheet}
use Rattle.sheet.specs.Model.{Call, asking, History, refusal_after}
use Rattle.sheet.specs.Numbers.{Refusal, refused_by}
use Rattle.history.specs.declared.any_sheet.Sheet.{Sheet}
use Rattle.history.specs.declared.any_sheet.Sheet.TheVariants.{Open}
use Rattle.history.specs.declared.call.SheetCall.{SheetCall}
use Rattle.history.specs.declared.call.SheetCall.TheVariants.{Mark, Undo, Set, Reopen}
use Rattle.history.specs.declared.outcome.CallFault.TheVariants.{OutOfTurn}
use Rattle.history.specs.Data.{Outcome as SheetOutcome, call_of, outcome_tells}
use Rattle.history.specs.Reaches.{Reaches}
use Rattle.history.specs.Turns.{fits, open_after, fitting, told_after}
use Rattle.history.proofs.Reaching.{stays_open}
use Rattle.answers.specs.Asked.{Question, Reply, refused}
use Rattle.answers.specs.Laws.{Proper}
use Rattle.answers.specs.Trace.{Event, without_question, history_of, reply_of, reply_in_turn, reply_after, ProperCall}
use Rattle.ask_history.specs.declared.outcome.CallFault.TheVariants.{Call as CallRefused}
use Rattle.ask_history.specs.Data.{Outcome, reply_told, is_refusal, is_answer}
use Rattle.ask_history.specs.Law.{CallLaw}
use Rattle.ask_history.specs.Traced.{Traced}
use Rattle.ask_history.proofs.Leading.{traced_reaches, traced_on}

-- a sheet's own call asks nothing
own_without : (c : SheetCall) → without_question (call_of c) ≡ call_of c
own_without (Mark p k) = refl
own_without Undo = refl
own_without Set = refl
own_without Reopen = refl

own_proper : (c : SheetCall) → ProperCall (call_of c)
own_proper (Mark p k) = tt
own_proper Undo = tt
own_proper Set = tt
own_proper Reopen = tt

-- so that what it gets among asks is what it is told on a sheet that is never asked
own_reply_in : (b : Bool) (cs : History) (c : SheetCall) → cond (fits b (call_of {Q = Question} c)) (reply_in_turn cs (call_of c)) (refused (refused_by 20))
    ≡ reply_of (cond (fits b (call_of {Q = Unit {0}} c)) (refusal_after cs (call_of c)) (Some (refused_by 20)))
own_reply_in true cs (Mark p k) = refl
own_reply_in false cs (Mark p k) = refl
own_reply_in true cs Undo = refl
own_reply_in false cs Undo = refl
own_reply_in true cs Set = refl
own_reply_in false cs Set = refl
own_reply_in true cs Reopen = refl
own_reply_in false cs Reopen = refl

own_reply : (cs : History) (c : SheetCall) → reply_after cs (call_of c) ≡ reply_of (told_after cs (call_of c))
own_reply cs c = own_reply_in (open_after cs) (fitting cs) c

-- what tells of a refusal is one, and none tells of an answer
refusal_told : (x : Option Refusal) → is_refusal (reply_of x) ≡ true → is_some x ≡ true
refusal_told None e = e
refusal_told (Some r) e = refl

no_answer : (x : Option Refusal) → is_answer (reply_of x) ≡ false
no_answer None = refl
no_answer (Some r) = refl

pub own_call : (s t : Sheet) (c : SheetCall) (x : SheetOutcome) (o : Outcome) → reply_told o ≡ reply_of (outcome_tells x)
    → ((cs : History) → Reaches cs s → outcome_tells x ≡ told_after cs (call_of c)) → ((cs : History) → Reaches cs s → Reaches (cs ++ call_of c ∷ []) t)
    → (is_some (outcome_tells x) ≡ true → t ≡ s) → CallLaw s (call_of c) t o
own_call s t c x o tells answers reaches stays =
    let got : (h : List Event) → Traced h s → reply_told o ≡ reply_after (history_of h) (call_of c)
    = λ h a. tells ∙ ap reply_of (answers (history_of h) (traced_reaches h s a)) ∙ sym (own_reply (history_of h) c) in
    record {
      answers = got;
      traced = λ h a. traced_on h s t (call_of c) (reply_told o) (own_proper c) a (got h a)
          (subst (λ (d : Call (Unit {0})). Reaches (history_of h ++ d ∷ []) t) (sym (own_without c)) (reaches (history_of h) (traced_reaches h s a)));
      when_refused = λ e. stays (refusal_told (outcome_tells x) (ap is_refusal (sym tells) ∙ e));
      when_answered = λ e. absurd (false≢true (sym (no_answer (outcome_tells x)) ∙ ap is_answer (sym tells) ∙ e));
    }

-- an ask of an open sheet
pub ask_out_of_turn : (s : OpenSheet) (q : Question) → Proper q → CallLaw (Open s) (asking q) (Open s) (Err (CallRefused OutOfTurn))
ask_out_of_turn s q proper =
    let r : Reply = refused (refused_by 20) in
    let got : (h : List Event) → Traced h (Open s) → r ≡ reply_after (history_of h) (asking q)
    = λ h a. sym (cond-false _ _ _ (ap (λ (b : Bool). fits b (asking q)) a.state)) in
    record {
      answers = got;
      traced = λ h a. traced_on h (Open s) (Open s) (asking q) r proper a (got h a)
          (stays_open (history_of h) (asking tt) s a.state (ap (λ (b : Bool). fits b (asking tt)) a.state) a.reached);
      when_refused = λ _. refl;
      when_answered = λ _. refl;
    }
