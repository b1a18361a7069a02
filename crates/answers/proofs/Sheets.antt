-- A trace goes on with the calls of an open and of a set sheet.
use Rattle.std.proofs.Common.{◌≡◌, Bool, true, List, [], ◌∷◌, ◌++◌, sym, refl, ap, ◌∙◌, subst}
use Rattle.std.proofs.lemmas.Bool.{cond-true}
use Rattle.std.proofs.lemmas.List.{map_push}
use Rattle.sheet.specs.Model.{Call, marking, undoing, setting, reopening, History, refusal_after}
use Rattle.sheet.specs.Reached.{Reached, ReachedSet}
use Rattle.history.specs.Turns.{fits, opens, open_after, fitting}
use Rattle.history.proofs.Turning.{open_after_push, fitting_push}
use Rattle.answers.specs.Asked.{Question, Reply, done}
use Rattle.answers.specs.Trace.{Event, event, without_question, history_of, reply_of, reply_in_turn, reply_after, SheetsGoOn, SheetsTraced}
use Rattle.answers.proofs.Traces.{trace_starts, trace_goes_on}

module _ (h : List Event) (c : Call Question) (r : Reply) where
  -- the calls of the trace with one more that is in turn
  calls : history_of (h ++ event c r ∷ []) ≡ history_of h ++ without_question c ∷ []
  calls = map_push (λ (e : Event). without_question e.call) h (event c r)

  state : open_after (history_of (h ++ event c r ∷ [])) ≡ opens (open_after (history_of h)) (without_question c)
  state = ap open_after calls ∙ open_after_push (history_of h) (without_question c)

  in_turn : fits (open_after (history_of h)) (without_question c) ≡ true → fitting (history_of (h ++ event c r ∷ [])) ≡ fitting (history_of h) ++ without_question c ∷ []
  in_turn fit = ap fitting calls ∙ fitting_push (history_of h) (without_question c) fit

-- what a call in turn gets
got : (h : List Event) (c : Call Question) → fits (open_after (history_of h)) c ≡ true → reply_in_turn (fitting (history_of h)) c ≡ reply_after (history_of h) c
got h c fit = sym (cond-true _ _ _ fit)

sheets_go_on : (h : List Event) → SheetsGoOn h
sheets_go_on h = record {
  marked = λ s t p k a to.
      let c : Call Question = marking p k in
      let r = reply_of (refusal_after (fitting (history_of h)) (marking p k)) in
      record {
        lawful = trace_goes_on h c r a.lawful tt (got h c a.state);
        state = state h c r ∙ a.state;
        reached = subst (λ (l : History). Reached l t) (sym (in_turn h c r a.state)) to;
      };
  undone = λ s t a to.
      let c : Call Question = undoing in
      let r = reply_of (refusal_after (fitting (history_of h)) undoing) in
      record {
        lawful = trace_goes_on h c r a.lawful tt (got h c a.state);
        state = state h c r ∙ a.state;
        reached = subst (λ (l : History). Reached l t) (sym (in_turn h c r a.state)) to;
      };
  set = λ s t a to.
      let c : Call Question = setting in
      record {
        lawful = trace_goes_on h c done a.lawful tt (got h c a.state);
        state = state h c done;
        reached = subst (λ (l : History). ReachedSet l t) (sym (in_turn h c done a.state)) to;
      };
  reopened = λ s t a to.
      let c : Call Question = reopening in
      record {
        lawful = trace_goes_on h c done a.lawful tt (got h c (ap (λ (b : Bool). fits b c) a.state));
        state = state h c done;
        reached = subst (λ (l : History). Reached l t) (sym (in_turn h c done (ap (λ (b : Bool). fits b (without_question c)) a.state))) to;
      };
}

pub sheets_traced : SheetsTraced
sheets_traced = (λ s r. record { lawful = trace_starts; state = refl; reached = r }, sheets_go_on)
