-- The law over a list of calls, call by call.
use Rattle.std.proofs.Common.{◌≡◌, ℕ, ◌+◌, ◌<◌, ◌≤◌, List, [], ◌∷◌, ◌++◌, length, get_or, take, set, None, Ok, sym, refl, ap, ◌∙◌, subst, arith, length-set}
use Rattle.std.proofs.lemmas.List.{length_push, length-take-le}
use Rattle.sheet.specs.Model.{Call, History, undoing, mark_after}
use Rattle.history.specs.Turns.{fitting}
use Rattle.answers.specs.Asked.{Question}
use Rattle.answers.specs.Trace.{Event, event, history_of, without_question, reply_after}
use Rattle.history.specs.declared.any_sheet.Sheet.{Sheet}
use Rattle.history.specs.Reaches.{shown_on}
use Rattle.ask_history.specs.Data.{Outcome, reply_told}
use Rattle.ask_history.specs.Law.{CallLaw, trace_of, history_run, EntryLaw}
use Rattle.ask_history.specs.Traced.{Traced}
use Rattle.history.proofs.Entering.{answers_push, untouched_push, take_push}
use Rattle.ask_history.proofs.Leading.{traced_marks}

-- the calls of a trace
pub trace_history : (cs : List (Call Question)) (os : List Outcome) → length cs ≤ length os → history_of (trace_of cs os) ≡ history_run cs
trace_history [] os room = refl
trace_history (c ∷ cs) [] room = absurd (omega arith)
trace_history (c ∷ cs) (o ∷ os) room = ap (λ (d : History). without_question c ∷ d) (trace_history cs os (omega arith))

-- one call and its outcome more
pub trace_push : (cs : List (Call Question)) (os : List Outcome) (c : Call Question) (o : Outcome) → length cs < length os
    → trace_of (cs ++ c ∷ []) (set os (length cs) o) ≡ trace_of cs os ++ event c (reply_told o) ∷ []
trace_push [] [] c o room = absurd (omega arith)
trace_push [] (x ∷ os) c o room = refl
trace_push (d ∷ cs) [] c o room = absurd (omega arith)
trace_push (d ∷ cs) (x ∷ os) c o room = ap (λ (h : List Event). event d (reply_told x) ∷ h) (trace_push cs os c o (omega arith))

entered_marks : (cs : List (Call Question)) (os : List Outcome) (s : Sheet) → length cs ≤ length os → Traced (trace_of cs os) s → (p : ℕ) → shown_on s p ≡ mark_after (fitting (history_run cs)) p
entered_marks cs os s room a p = traced_marks (trace_of cs os) s a p ∙ ap (λ (h : History). mark_after (fitting h) p) (trace_history cs os room)

pub law_none : (before : List Outcome) (s : Sheet) → Traced [] s → EntryLaw [] before before s
law_none before s a = record {
  answers = λ i none. absurd (omega arith);
  traced = a;
  untouched = refl;
  marks = entered_marks [] before s (omega arith) a;
}

pub law_push : (cs : List (Call Question)) (before written : List Outcome) (s t : Sheet) (c : Call Question) (o : Outcome) → length cs < length written
    → CallLaw s c t o → EntryLaw cs before written s → EntryLaw (cs ++ c ∷ []) before (set written (length cs) o) t
law_push cs before written s t c o room call law =
    let h : List Event = trace_of cs written in
    let told : reply_told o ≡ reply_after (history_run cs) c = call.answers h law.traced ∙ ap (λ (x : History). reply_after x c) (trace_history cs written (omega arith)) in
    let a : Traced (trace_of (cs ++ c ∷ []) (set written (length cs) o)) t = subst (λ (x : List Event). Traced x t) (sym (trace_push cs written c o room)) (call.traced h law.traced) in
    record {
      answers = answers_push (λ (ds : List (Call Question)) (d : Call Question). reply_after (history_run ds) d) reply_told undoing (Ok None) cs written c o room told law.answers;
      traced = a;
      untouched = untouched_push cs before written c o law.untouched;
      marks = entered_marks (cs ++ c ∷ []) (set written (length cs) o) t (omega (arith, length_push cs c, length-set written (length cs) o)) a;
    }

-- the same, of the first i calls of a list and the next one
pub law_more : (cs : List (Call Question)) (i : ℕ) (before written : List Outcome) (s t : Sheet) (c : Call Question) (o : Outcome) → i < length cs → i < length written
    → get_or cs i undoing ≡ c → CallLaw s c t o → EntryLaw (take i cs) before written s → EntryLaw (take (i + 1) cs) before (set written i o) t
law_more cs i before written s t c o within room here call law =
    let long : length (take i cs) ≡ i = length-take-le i cs (omega arith) in
    subst (λ (x : List (Call Question)). EntryLaw x before (set written i o) t) (take_push cs i c undoing within here)
    (subst (λ (k : ℕ). EntryLaw (take i cs ++ c ∷ []) before (set written k o) t) long (law_push (take i cs) before written s t c o (omega arith) call law))
