-- A trace leads to a sheet as the history of its calls does, and goes on with one call more.
use Rattle.std.proofs.Common.{◌≡◌, ℕ, List, [], ◌∷◌, ◌++◌, sym, subst}
use Rattle.std.proofs.lemmas.List.{map_push}
use Rattle.sheet.specs.Model.{Call, History}
use Rattle.history.specs.declared.any_sheet.Sheet.{Sheet}
use Rattle.history.specs.declared.any_sheet.Sheet.TheVariants.{Open, Set}
use Rattle.history.specs.Reaches.{Reaches, shown_on}
use Rattle.history.proofs.Reaching.{reaches_marks}
use Rattle.answers.specs.Asked.{Question, Reply}
use Rattle.answers.specs.Trace.{Event, event, without_question, history_of, marks_after, reply_after, LawfulTrace, ProperCall}
use Rattle.answers.proofs.Traces.{trace_goes_on}
use Rattle.ask_history.specs.Traced.{Traced}

pub traced_lawful : (h : List Event) (s : Sheet) → Traced h s → LawfulTrace h
traced_lawful h (Open s) a = a.lawful
traced_lawful h (Set s) a = a.lawful

pub traced_reaches : (h : List Event) (s : Sheet) → Traced h s → Reaches (history_of h) s
traced_reaches h (Open s) a = (a.state, a.reached)
traced_reaches h (Set s) a = (a.state, a.reached)

pub reaches_traced : (h : List Event) (s : Sheet) → LawfulTrace h → Reaches (history_of h) s → Traced h s
reaches_traced h (Open s) lawful a = record { lawful = lawful; state = a.0; reached = a.1 }
reaches_traced h (Set s) lawful a = record { lawful = lawful; state = a.0; reached = a.1 }

pub traced_marks : (h : List Event) (s : Sheet) → Traced h s → (p : ℕ) → shown_on s p ≡ marks_after h p
traced_marks h s a p = reaches_marks (history_of h) s (traced_reaches h s a) p

-- with a call that got what the model says, and leads on to t
pub traced_on : (h : List Event) (s t : Sheet) (c : Call Question) (r : Reply) → ProperCall c → Traced h s → r ≡ reply_after (history_of h) c
    → Reaches (history_of h ++ without_question c ∷ []) t → Traced (h ++ event c r ∷ []) t
traced_on h s t c r proper a got reached =
    reaches_traced (h ++ event c r ∷ []) t (trace_goes_on h c r (traced_lawful h s a) proper got)
    (subst (λ (cs : History). Reaches cs t) (sym (map_push (λ (e : Event). without_question e.call) h (event c r))) reached)
