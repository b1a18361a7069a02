-- The law over a list of calls, call by call.
use Rattle.std.proofs.Common.{◌≡◌, ℕ, ◌+◌, ◌<◌, List, [], ◌∷◌, ◌++◌, length, get_or, take, drop, set, Ok, sym, refl, ap, ◌∙◌, subst, ⊎_elim, arith}
use Rattle.std.proofs.lemmas.List.{length_push, get_or_push, get_or_append_left, get_or-set_same, get_or-set_other, take_at, take-append-le, take_more, length-take-le, drop-drop, drop-set-lt}
use Rattle.std.proofs.lemmas.Bool.{cases_eq}
use Rattle.sheet.specs.Model.{Call, History, undoing}
use Rattle.history.specs.declared.any_sheet.Sheet.{Sheet}
use Rattle.history.specs.Data.{Outcome, outcome_tells}
use Rattle.history.specs.Law.{EntryLaw}
use Rattle.history.specs.Reaches.{Reaches}
use Rattle.history.specs.Turns.{told_after}
use Rattle.history.proofs.Reaching.{reaches_marks}

-- Of any calls and outcomes, where `says` is what a call gets after others, and `tells` what an outcome tells.
-- With one call more, whose outcome is written in its place, each call still got what is said of it.
pub answers_push : {C O R : Type 0} (says : List C → C → R) (tells : O → R) (d : C) (e : O) (cs : List C) (written : List O) (c : C) (o : O) → length cs < length written → tells o ≡ says cs c
    → ((i : ℕ) → i < length cs → tells (get_or written i e) ≡ says (take i cs) (get_or cs i d))
    → (i : ℕ) → i < length (cs ++ c ∷ []) → tells (get_or (set written (length cs) o) i e) ≡ says (take i (cs ++ c ∷ [])) (get_or (cs ++ c ∷ []) i d)
answers_push {C} {O} says tells d e cs written c o room told answers i within = ⊎_elim
    (λ (last : i ≡ length cs).
    ap tells (subst (λ (j : ℕ). get_or (set written (length cs) o) j e ≡ o) (sym last) (get_or-set_same written (length cs) o e room))
    ∙ told ∙ ap (λ (h : List C). says h c) (sym (take_at cs (c ∷ []) i (sym last)))
    ∙ ap (says (take i (cs ++ c ∷ []))) (sym (get_or_push cs c d i (sym last))))
    (λ (earlier : i ≡ length cs → ⊥).
    let inside : i < length cs = omega (arith, within, length_push cs c, earlier) in
    ap tells (get_or-set_other written (length cs) i o e earlier) ∙ answers i inside
    ∙ ap (λ (h : List C). says h (get_or cs i d)) (sym (take-append-le i cs (c ∷ []) (omega arith)))
    ∙ ap (says (take i (cs ++ c ∷ []))) (sym (get_or_append_left cs (c ∷ []) d i inside)))
    (cases_eq i (length cs))

-- and the outcomes past the last call are as they were
pub untouched_push : {C O : Type 0} (cs : List C) (before written : List O) (c : C) (o : O) → drop (length cs) written ≡ drop (length cs) before
    → drop (length (cs ++ c ∷ [])) (set written (length cs) o) ≡ drop (length (cs ++ c ∷ [])) before
untouched_push cs before written c o untouched =
    let n = length cs in
    subst (λ (k : ℕ). drop k (set written n o) ≡ drop k before) (sym (length_push cs c))
    (drop-set-lt (n + 1) written n o (omega arith) ∙ sym (drop-drop 1 n written) ∙ ap (drop 1) untouched ∙ drop-drop 1 n before)

-- the first calls of a list and the next one
pub take_push : {C : Type 0} (cs : List C) (i : ℕ) (c d : C) → i < length cs → get_or cs i d ≡ c → take i cs ++ c ∷ [] ≡ take (i + 1) cs
take_push {C} cs i c d within here = ap (λ (x : C). take i cs ++ x ∷ []) (sym here) ∙ sym (take_more cs i d within)

pub law_none : (before : List Outcome) (s : Sheet) → Reaches [] s → EntryLaw [] before before s
law_none before s a = record {
  answers = λ i none. absurd (omega arith);
  untouched = refl;
  marks = reaches_marks [] s a;
  reaches = a;
}

pub law_push : (cs : History) (before written : List Outcome) (s t : Sheet) (c : Call (Unit {0})) (o : Outcome) → length cs < length written
    → outcome_tells o ≡ told_after cs c → Reaches (cs ++ c ∷ []) t → EntryLaw cs before written s → EntryLaw (cs ++ c ∷ []) before (set written (length cs) o) t
law_push cs before written s t c o room told a law = record {
  answers = answers_push told_after outcome_tells undoing (Ok tt) cs written c o room told law.answers;
  untouched = untouched_push cs before written c o law.untouched;
  marks = reaches_marks (cs ++ c ∷ []) t a;
  reaches = a;
}

-- the same, of the first i calls of a list and the next one
pub law_more : (cs : History) (i : ℕ) (before written : List Outcome) (s t : Sheet) (c : Call (Unit {0})) (o : Outcome) → i < length cs → i < length written
    → get_or cs i undoing ≡ c → outcome_tells o ≡ told_after (take i cs) c → Reaches (take i cs ++ c ∷ []) t → EntryLaw (take i cs) before written s → EntryLaw (take (i + 1) cs) before (set written i o) t
law_more cs i before written s t c o within room here told a law =
    let long : length (take i cs) ≡ i = length-take-le i cs (omega arith) in
    subst (λ (h : History). EntryLaw h before (set written i o) t) (take_push cs i c undoing within here)
    (subst (λ (k : ℕ). EntryLaw (take i cs ++ c ∷ []) before (set written k o) t) long (law_push (take i cs) before written s t c o (omega arith) told a law))
