-- What is held of a text stands for its progress, form by form.
use Rattle.std.proofs.Common.{◌≡◌, ℕ, ◌+◌, ◌<◌, Bool, true, false, cond, ltb, lt-ltb, List, [], ◌∷◌, ◌++◌, length, Some, None, Ok, Err, Option, Result, sym, refl, ap, ◌∙◌, subst, arith, length-append}
use Rattle.std.proofs.lemmas.Bool.{cond_both}
use Rattle.batch.specs.Term.{Term, most_terms}
use Rattle.batch.specs.declared.fault.RecordFault.{RecordFault}
use Rattle.batch.specs.declared.fault.BatchFault.{BatchFault}
use Rattle.batch.specs.declared.fault.BatchFault.TheVariants.{TooManyTerms, AtRecord}
use Rattle.sheet.specs.Numbers.{Refusal, refused_by as by_number}
use Rattle.sheet.specs.Model.{Call, marking, undoing, setting, reopening, asking, History, model, refusal, mark_after}
use Rattle.grid.specs.Rounding.{Mode, mode_numbered}
use Rattle.grid.specs.declared.fault.GridFault.{GridFault}
use Rattle.sheet.specs.declared.mark.Mark.{Mark}
use Rattle.survey.specs.Places.{lowest_marked}
use Rattle.history.specs.Turns.{fits, open_after, fitting}
use Rattle.history.specs.Data.{call_of}
use Rattle.history.specs.declared.call.SheetCall.{SheetCall}
use Rattle.history.specs.declared.call.SheetCall.TheVariants.{Mark as MarkCall, Undo, Set, Reopen}
use Rattle.history.specs.declared.any_sheet.Sheet.{Sheet}
use Rattle.limbs.specs.Bits.{limbs_for}
use Rattle.answers.specs.Asked.{Question, question, Reply, done, refused, answered, asked, reply_past, reply_in_mode}
use Rattle.answers.specs.Trace.{Event, event, history_of, reply_of, reply_after}
use Rattle.ask_history.specs.Data.{Outcome as CallOutcome, reply_told}
use Rattle.ask_history.specs.Law.{CallLaw}
use Rattle.ask_history.specs.Traced.{Traced}
use Rattle.ask_history.specs.declared.answered.AnsweredAsk.{AnsweredAsk}
use Rattle.ask_history.specs.declared.outcome.CallFault.{CallFault}
use Rattle.text_terms.specs.declared.list.TermList.{TermList}
use Rattle.text_terms.specs.TermLists.{terms_of, push_fault}
use Rattle.any_grid.specs.Asked.{Meaning}
use Rattle.text_call.specs.declared.calls.Calls.{Calls}
use Rattle.text_call.specs.declared.fault.FormFault.TheVariants.{Batch, Call as CallRefused}
use Rattle.text_call.specs.Faults.{form_fault_number}
use Rattle.text_call.specs.Progress.{Progress, refused_by, goes_on, is_answered, asks_answered, most_asks, limbs_lent, term_added, term_outcome, replied, call_outcome, ask_on, ask_outcome}
use Rattle.text_call.specs.Standing.{Stands}
use Rattle.text_call.proofs.Steps.{asks_push}

-- ---- which replies there are
abbrev pub Unanswered : Reply → Type 0
Unanswered done = Unit {0}
Unanswered (refused r) = Unit {0}
Unanswered (answered a) = ⊥

abbrev pub NotDone : Reply → Type 0
NotDone done = ⊥
NotDone (refused r) = Unit {0}
NotDone (answered a) = Unit {0}

refusal_unanswered : (o : Option Refusal) → Unanswered (reply_of o)
refusal_unanswered None = tt
refusal_unanswered (Some r) = tt

-- a call out of turn gets no answer, and one in turn none if its reply is none
turn_unanswered : (b : Bool) (r : Reply) → Unanswered r → Unanswered (cond b r (refused (by_number 20)))
turn_unanswered true r h = h
turn_unanswered false r h = tt

-- one of the sheet's own calls gets no answer
pub sheet_unanswered : (cs : History) (c : SheetCall) → Unanswered (reply_after cs (call_of c))
sheet_unanswered cs (MarkCall p k) = turn_unanswered (fits {Q = Question} (open_after cs) (marking p k)) _ (refusal_unanswered (refusal {Q = Question} (model (fitting cs)) (marking p k)))
sheet_unanswered cs Undo = turn_unanswered (fits {Q = Question} (open_after cs) undoing) _ (refusal_unanswered (refusal {Q = Question} (model (fitting cs)) undoing))
sheet_unanswered cs Set = turn_unanswered (fits {Q = Question} (open_after cs) setting) done tt
sheet_unanswered cs Reopen = turn_unanswered (fits {Q = Question} (open_after cs) reopening) done tt

past_not_done : (o : Option ℕ) (m : Mode) (marks : ℕ → Mark) (q : Question) → NotDone (reply_past o m marks q)
past_not_done (Some p) m marks q = tt
past_not_done None m marks q = tt

mode_not_done : (o : Option Mode) (marks : ℕ → Mark) (q : Question) → NotDone (reply_in_mode o marks q)
mode_not_done None marks q = tt
mode_not_done (Some m) marks q = cond_both (ltb q.limbs (limbs_for q.width)) (refused (by_number 16)) (reply_past (lowest_marked marks (length q.terms)) m marks q) NotDone
    (λ _. tt) (λ _. past_not_done (lowest_marked marks (length q.terms)) m marks q)

-- an ask is refused or answered
pub ask_not_done : (cs : History) (q : Question) → NotDone (reply_after cs (asking q))
ask_not_done cs q = cond_both (fits (open_after cs) (asking q)) (asked (mark_after (fitting cs)) q) (refused (by_number 20)) NotDone
    (λ _. mode_not_done (mode_numbered q.mode) (mark_after (fitting cs)) q) (λ _. tt)

-- ---- calls
-- a trace with an event more is begun
begun_push : (h : List Event) (e : Event) → ltb 0 (length (h ++ e ∷ [])) ≡ true
begun_push h e = lt-ltb 0 (length (h ++ e ∷ [])) (rw length-append (omega arith))

-- what is held after a call stands for the progress after it
module _ (p : Progress) (ts : TermList) (c d : Calls) (s : Stands p ts c) (call : Call Question) (r : Reply)
    (traced : Traced (p.trace ++ event call r ∷ []) d.sheet) (begun : d.begun ≡ true) where
  pub stands_after : d.asks ≡ c.asks + cond (is_answered (event call r)) 1 0 → Stands (record { terms = p.terms; trace = p.trace ++ event call r ∷ [] }) ts d
  stands_after asks = record {
    terms = s.terms;
    traced = traced;
    asks = asks ∙ ap (λ n. n + cond (is_answered (event call r)) 1 0) s.asks ∙ sym (asks_push p.trace (event call r));
    begun = begun ∙ sym (begun_push p.trace (event call r));
  }

-- a call that is refused
pub call_refused : (p : Progress) (ts : TermList) (c : Calls) (call : Call Question) (after : Sheet) (o : CallOutcome) (f : CallFault) → Stands p ts c → CallLaw c.sheet call after o → o ≡ Err f
    → call_outcome p call ≡ refused_by (form_fault_number (CallRefused f))
call_refused p ts c call after o f s law is = ap (replied p call) (sym (ap reply_told (sym is) ∙ law.answers p.trace s.traced))

-- what is made of a call that is not refused, with its answer if it has one
abbrev pub Done : Progress → Call Question → TermList → Calls → Option AnsweredAsk → Type 0
Done p call ts d x = (q : Progress) × (call_outcome p call ≡ goes_on q (reply_told (Ok x))) × Stands q ts d

-- a call of the sheet's own that is not refused
pub sheet_call_done : (p : Progress) (ts : TermList) (c d : Calls) (call : SheetCall) (o : CallOutcome) (x : Option AnsweredAsk) → Stands p ts c → CallLaw c.sheet (call_of call) d.sheet o → o ≡ Ok x
    → d.asks ≡ c.asks → d.begun ≡ true → Done p (call_of call) ts d None
sheet_call_done p ts c d call o None s law is asks begun =
    let told : done ≡ reply_after (history_of p.trace) (call_of call) = ap reply_told (sym is) ∙ law.answers p.trace s.traced in
    let traced : Traced (p.trace ++ event (call_of call) done ∷ []) d.sheet = subst (λ (o : CallOutcome). Traced (p.trace ++ event (call_of call) (reply_told o) ∷ []) d.sheet) is (law.traced p.trace s.traced) in
    (record { terms = p.terms; trace = p.trace ++ event (call_of call) done ∷ [] }, ap (replied p (call_of call)) (sym told), stands_after p ts c d s (call_of call) done traced begun (asks ∙ omega arith))
sheet_call_done p ts c d call o (Some a) s law is asks begun =
    absurd (subst Unanswered (sym (ap reply_told (sym is) ∙ law.answers p.trace s.traced)) (sheet_unanswered (history_of p.trace) call))

-- an ask that is not refused
pub ask_done : (p : Progress) (ts : TermList) (c d : Calls) (q : Question) (o : CallOutcome) (x : Option AnsweredAsk) → Stands p ts c → CallLaw c.sheet (asking q) d.sheet o → o ≡ Ok x
    → d.asks ≡ c.asks + 1 → d.begun ≡ true → Done p (asking q) ts d x
ask_done p ts c d q o None s law is asks begun =
    absurd (subst NotDone (sym (ap reply_told (sym is) ∙ law.answers p.trace s.traced)) (ask_not_done (history_of p.trace) q))
ask_done p ts c d q o (Some a) s law is asks begun =
    let r = reply_told (Ok (Some a)) in
    let told : r ≡ reply_after (history_of p.trace) (asking q) = ap reply_told (sym is) ∙ law.answers p.trace s.traced in
    let traced : Traced (p.trace ++ event (asking q) r ∷ []) d.sheet = subst (λ (o : CallOutcome). Traced (p.trace ++ event (asking q) (reply_told o) ∷ []) d.sheet) is (law.traced p.trace s.traced) in
    (record { terms = p.terms; trace = p.trace ++ event (asking q) r ∷ [] }, ap (replied p (asking q)) (sym told), stands_after p ts c d s (asking q) r traced begun asks)

-- ---- places past the last one
-- a marking there is refused, whichever place it is
far_refused : (p : Progress) (a b k : ℕ) → 1023 < a → 1023 < b → (t : Bool) → open_after (history_of p.trace) ≡ t → call_outcome p (marking a k) ≡ call_outcome p (marking b k)
far_refused p a b k far other true is = rw (is, lt-ltb 1023 a far, lt-ltb 1023 b other) refl
far_refused p a b k far other false is = rw is refl

pub far_place : (p : Progress) (a b k : ℕ) → 1023 < a → 1023 < b → call_outcome p (marking a k) ≡ call_outcome p (marking b k)
far_place p a b k far other = far_refused p a b k far other (open_after (history_of p.trace)) refl

-- ---- terms
-- what a push tells that is not refused
room_left : (ts : List Term) (fault : Option RecordFault) → None ≡ push_fault ts fault → (ltb (length ts) most_terms ≡ true) × (fault ≡ None)
room_left ts fault e = by_room (ltb (length ts) most_terms) refl fault e where
  by_room : (b : Bool) → ltb (length ts) most_terms ≡ b → (fault : Option RecordFault) → None ≡ push_fault ts fault → (b ≡ true) × (fault ≡ None)
  by_room true is None e = (refl, refl)
  by_room true is (Some x) e = let z : ◌≡◌ {A = Option BatchFault} None (Some (AtRecord (length ts) x)) = e ∙ rw is refl in cc
  by_room false is fault e = let z : ◌≡◌ {A = Option BatchFault} None (Some TooManyTerms) = e ∙ rw is refl in cc

-- a term that is taken, before any call
pub term_taken : (p : Progress) (before after : TermList) (c : Calls) (fault : Option RecordFault) (t : Term) → Stands p before c → c.begun ≡ false → None ≡ push_fault (terms_of before) fault
    → terms_of after ≡ terms_of before ++ t ∷ [] → (q : Progress) × (term_outcome p fault t ≡ goes_on q done) × Stands q after c
term_taken p before after c fault t s idle none more =
    let room = room_left (terms_of before) fault none in
    let no_call : ltb 0 (length p.trace) ≡ false = sym s.begun ∙ idle in
    let few : ltb (length p.terms) most_terms ≡ true = ap (λ (ts : List Term). ltb (length ts) most_terms) (sym s.terms) ∙ room.0 in (
      record { terms = p.terms ++ t ∷ []; trace = p.trace },
      rw (no_call, few, room.1) refl,
      record { terms = more ∙ ap (λ (ts : List Term). ts ++ t ∷ []) s.terms; traced = s.traced; asks = s.asks; begun = s.begun },
    )

-- a term that is refused, before any call
pub term_refused : (p : Progress) (before : TermList) (c : Calls) (fault : Option RecordFault) (t : Term) (f : BatchFault) → Stands p before c → c.begun ≡ false → Some f ≡ push_fault (terms_of before) fault
    → term_outcome p fault t ≡ refused_by (form_fault_number (Batch f))
term_refused p before c fault t f s idle some = rw no_call (by_room (ltb (length (terms_of before)) most_terms) refl fault some) where
  no_call : ltb 0 (length p.trace) ≡ false
  no_call = sym s.begun ∙ idle

  same : ltb (length p.terms) most_terms ≡ ltb (length (terms_of before)) most_terms
  same = ap (λ (ts : List Term). ltb (length ts) most_terms) (sym s.terms)

  told : (f g : BatchFault) → ◌≡◌ {A = Option BatchFault} (Some f) (Some g) → refused_by (form_fault_number (Batch g)) ≡ refused_by (form_fault_number (Batch f))
  told f g e = let z : f ≡ g = cc in ap (λ (h : BatchFault). refused_by (form_fault_number (Batch h))) (sym z)

  by_room : (b : Bool) → ltb (length (terms_of before)) most_terms ≡ b → (fault : Option RecordFault) → Some f ≡ push_fault (terms_of before) fault
      → cond (ltb (length p.terms) most_terms) (term_added p fault t) (refused_by 1) ≡ refused_by (form_fault_number (Batch f))
  by_room true is None e = let z : ◌≡◌ {A = Option BatchFault} (Some f) None = e ∙ rw is refl in cc
  by_room true is (Some x) e = rw (same, is) (told f (AtRecord (length (terms_of before)) x) (e ∙ rw is refl))
  by_room false is fault e = rw (same, is) (told f TooManyTerms (e ∙ rw is refl))

-- ---- asks
-- an ask on a set sheet, before the last one that may come
pub ask_made : (p : Progress) (ts : TermList) (c d : Calls) (grid : Result Meaning GridFault) (m : Meaning) (mode : ℕ) (q : Question) (o : CallOutcome) (x : Option AnsweredAsk) → Stands p ts c
    → open_after (history_of p.trace) ≡ false → c.asks < most_asks → grid ≡ Ok m → q ≡ question p.terms m.spacing m.width mode limbs_lent
    → CallLaw c.sheet (asking q) d.sheet o → o ≡ Ok x → d.asks ≡ c.asks + 1 → d.begun ≡ true
    → (r : Progress) × (ask_outcome p grid mode ≡ goes_on r (reply_told (Ok x))) × Stands r ts d
ask_made p ts c d grid m mode q o x s shut few is_grid is_question law is asks begun =
    let made = ask_done p ts c d q o x s law is asks begun in
    let some : ltb (asks_answered p.trace) most_asks ≡ true = lt-ltb (asks_answered p.trace) most_asks (subst (λ (n : ℕ). n < most_asks) s.asks few) in
    let on : ask_outcome p grid mode ≡ ask_on p (Ok m) mode = λ i. cond (shut i) (refused_by 20) (cond (some i) (ask_on p (is_grid i) mode) (refused_by 21)) in
    (made.0, on ∙ ap (λ (z : Question). call_outcome p (asking z)) (sym is_question) ∙ made.1, made.2)
