-- What a form does that goes on: it adds a term, or makes a call.
use Rattle.std.proofs.Common.{◌≡◌, ℕ, ◌+◌, ◌<◌, ◌≤◌, Bool, true, false, cond, ltb, ltb-false, ◌⊎◌, List, [], ◌∷◌, ◌++◌, length, Some, None, Ok, Err, Option, Result, refl, inl, inr, not-suc-le-zero, arith}
use Rattle.std.proofs.lemmas.Bool.{cond_both, ltb-true, false≢true}
use Rattle.std.proofs.lemmas.List.Sums.{sum_by-append}
use Rattle.batch.specs.Term.{Term, not_a_number, infinite, signed_zero, most_terms}
use Rattle.batch.specs.declared.fault.RecordFault.{RecordFault}
use Rattle.grid.specs.declared.fault.GridFault.{GridFault}
use Rattle.sheet.specs.Numbers.{Refusal, refused_by as by_number}
use Rattle.sheet.specs.Model.{Call, marking, undoing, setting, reopening, asking, model, refusal}
use Rattle.history.specs.Turns.{fits, open_after, fitting}
use Rattle.answers.specs.Asked.{Question, question, Reply, done, refused, answered}
use Rattle.answers.specs.Trace.{Event, event, history_of, reply_of, reply_after}
use Rattle.forms.specs.Forms.{Form, not_a_number as nan_form, infinity, signed_zero as zero_form, term, mark, back, set, reopen, ask, ask_named}
use Rattle.text_terms.specs.Meaning.{IsTerm, term_fault, term_meant}
use Rattle.any_grid.specs.Asked.{Meaning, grid_of_width, grid_of_name}
use Rattle.text_call.specs.Letters.{mark_of_run, mode_of_run}
use Rattle.text_call.specs.Progress.{Progress, Outcome, refused_by, goes_on, is_answered, asks_answered, most_asks, limbs_lent, term_added, term_outcome, replied, ask_on, ask_outcome, outcome_of}
use Rattle.text_call.specs.Law.{IsAsk, IsCall, NotRefused}

-- one term more, before any call
pub record TermAdded (p : Progress) (f : Form) (q : Progress) (r : Reply) : Type 0 where
  pub new : Term
  pub means : IsTerm f new
  pub no_call : p.trace ≡ []
  pub next : q ≡ record { terms = p.terms ++ new ∷ []; trace = p.trace }
  pub got : r ≡ done

-- one call more, which was not refused
pub record CallMade (p : Progress) (f : Form) (q : Progress) (r : Reply) : Type 0 where
  pub made : Call Question
  pub means : IsCall p.terms f made
  pub allowed : NotRefused (event made r)
  pub few : asks_answered p.trace ≤ most_asks → asks_answered (p.trace ++ event made r ∷ []) ≤ most_asks
  pub next : q ≡ record { terms = p.terms; trace = p.trace ++ event made r ∷ [] }

-- what an outcome does, if it goes on
abbrev pub Advances : Progress → Form → Outcome → Type 0
Advances p f (refused_by n) = Unit {0}
Advances p f (goes_on q r) = TermAdded p f q r ⊎ CallMade p f q r

-- ---- terms
-- a term that may have a fault, before any call
added_advances : (p : Progress) (f : Form) (fault : Option RecordFault) (t : Term) → (fault ≡ None → IsTerm f t) → p.trace ≡ [] → Advances p f (term_added p fault t)
added_advances p f (Some x) t means none = tt
added_advances p f None t means none = inl (record { new = t; means = means refl; no_call = none; next = refl; got = refl })

-- the same wherever it comes
term_advances : (p : Progress) (f : Form) (fault : Option RecordFault) (t : Term) → (fault ≡ None → IsTerm f t) → Advances p f (term_outcome p fault t)
term_advances p f fault t means = by_calls p.trace refl where
  room : Outcome
  room = cond (ltb (length p.terms) most_terms) (term_added p fault t) (refused_by 1)

  by_calls : (h : List Event) → p.trace ≡ h → Advances p f (cond (ltb 0 (length h)) (refused_by 20) room)
  by_calls [] none = cond_both (ltb (length p.terms) most_terms) (term_added p fault t) (refused_by 1) (Advances p f) (λ _. added_advances p f fault t means none) (λ _. tt)
  by_calls (e ∷ es) is = cond_both (ltb 0 (length (e ∷ es))) (refused_by 20) room (Advances p f) (λ _. tt) (λ no. absurd (not-suc-le-zero (ltb-false 0 (length (e ∷ es)) no)))

-- ---- calls
-- one event more is at most one answer more
pub asks_push : (h : List Event) (e : Event) → asks_answered (h ++ e ∷ []) ≡ asks_answered h + cond (is_answered e) 1 0
asks_push h e = let z = sum_by-append (λ (x : Event). cond (is_answered x) 1 0) h (e ∷ []) in omega (arith, z)

-- few answers stay few, where an answer has room
few_after : (h : List Event) (e : Event) → (is_answered e ≡ true → asks_answered h < most_asks) → asks_answered h ≤ most_asks → asks_answered (h ++ e ∷ []) ≤ most_asks
few_after h e room few = rw (asks_push h e) (cond_both (is_answered e) 1 0 (λ n. asks_answered h + n ≤ most_asks) (λ is. let z = room is in omega arith) (λ _. omega arith))

-- a call, by what it gets
replied_advances : (p : Progress) (f : Form) (c : Call Question) (r : Reply) → IsCall p.terms f c → (is_answered (event c r) ≡ true → asks_answered p.trace < most_asks) → Advances p f (replied p c r)
replied_advances p f c (refused x) means room = tt
replied_advances p f c done means room = inr (record { made = c; means = means; allowed = refl; few = few_after p.trace (event c done) room; next = refl })
replied_advances p f c (answered a) means room = inr (record { made = c; means = means; allowed = refl; few = few_after p.trace (event c (answered a)) room; next = refl })

-- no call but an ask is answered
unanswered : (c : Call Question) (in_turn : Bool) (x : Option Refusal) → is_answered (event c (cond in_turn (reply_of x) (refused (by_number 20)))) ≡ true → ⊥
unanswered c true None e = false≢true e
unanswered c true (Some r) e = false≢true e
unanswered c false x e = false≢true e

-- an ask, on a grid that may be refused
ask_advances : (p : Progress) (f : Form) (grid : Result Meaning GridFault) (mode : List ℕ) → ((c : Call Question) → IsAsk p.terms grid mode c → IsCall p.terms f c)
    → Advances p f (ask_outcome p grid (mode_of_run mode))
ask_advances p f grid mode means =
    cond_both (open_after (history_of p.trace)) _ _ (Advances p f) (λ _. tt) (λ _. cond_both (ltb (asks_answered p.trace) most_asks) _ _ (Advances p f) (λ room. on grid means (ltb-true _ _ room)) (λ _. tt))
  where
    on : (g : Result Meaning GridFault) → ((c : Call Question) → IsAsk p.terms g mode c → IsCall p.terms f c) → asks_answered p.trace < most_asks → Advances p f (ask_on p g (mode_of_run mode))
    on (Err x) is room = tt
    on (Ok g) is room =
        let c : Call Question = asking (question p.terms g.spacing g.width (mode_of_run mode) limbs_lent) in
        replied_advances p f c (reply_after (history_of p.trace) c) (is c (g, refl, refl)) (λ _. room)

-- a form that goes on adds a term, or makes a call
pub advances : (p : Progress) (f : Form) → Advances p f (outcome_of p f)
advances p nan_form = term_advances p nan_form None not_a_number (λ _. refl)
advances p (infinity negative) = term_advances p (infinity negative) None (infinite negative) (λ _. refl)
advances p (zero_form negative) = term_advances p (zero_form negative) None (signed_zero negative) (λ _. refl)
advances p (term negative exponent precision limbs) =
    term_advances p (term negative exponent precision limbs) (term_fault exponent precision limbs) (term_meant negative exponent precision limbs) (λ e. (e, refl))
advances p (mark place letter) =
    let c : Call Question = marking place (mark_of_run letter) in
    let h = history_of p.trace in
    replied_advances p (mark place letter) c (reply_after h c) refl (λ e. absurd (unanswered c (fits (open_after h) c) (refusal (model (fitting h)) c) e))
advances p back =
    let c : Call Question = undoing in
    let h = history_of p.trace in
    replied_advances p back c (reply_after h c) refl (λ e. absurd (unanswered c (fits (open_after h) c) (refusal (model (fitting h)) c) e))
advances p set =
    let c : Call Question = setting in
    let h = history_of p.trace in
    replied_advances p set c (reply_after h c) refl (λ e. absurd (unanswered c (fits (open_after h) c) None e))
advances p reopen =
    let c : Call Question = reopening in
    let h = history_of p.trace in
    replied_advances p reopen c (reply_after h c) refl (λ e. absurd (unanswered c (fits (open_after h) c) None e))
advances p (ask width floor mode) = ask_advances p (ask width floor mode) (grid_of_width width floor) mode (λ c is. is)
advances p (ask_named name mode) = ask_advances p (ask_named name mode) (grid_of_name name) mode (λ c is. is)
