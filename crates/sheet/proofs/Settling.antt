-- What a setting settles: no later undo reaches the notes made before it.
use Rattle.std.proofs.Common.{◌≡◌, ℕ, ◌+◌, ◌-◌, ◌<◌, ◌≤◌, false, List, [], ◌∷◌, ◌++◌, length, take, is_some, fold, sym, ap, ◌∙◌, ⊎_elim, append_assoc, arith}
use Rattle.std.proofs.lemmas.List.{take_all, take-take, take-append-le, length_push, length-take-le}
use Rattle.std.proofs.lemmas.List.Sums.{fold-append}
use Rattle.std.proofs.lemmas.Bool.{cond-false, cond_both, cases_lt, cases_eq, ne_eqb, true≢false}
use Rattle.sheet.specs.declared.mark.Mark.{Mark}
use Rattle.sheet.specs.Numbers.{mark_numbered}
use Rattle.sheet.specs.Model.{Call, marking, undoing, setting, reopening, asking, History, Note, Model, last_mark, refusal, done, after, model, mark_after}
use Rattle.sheet.specs.Laws.{Taken, Leaves, Unmarked}
use Rattle.sheet.proofs.Notes.{last_mark_push, after_done}
use Rattle.sheet.proofs.Agreeing.{undone_marking}
use Rattle.sheet.proofs.Refusing.{taken_undoing, refused_empty}

-- Undo cannot reach the first b notes, and however many are undone down to there, the place keeps its mark.
record Settled (b : ℕ) (kept : Mark) (p : ℕ) (m : Model) : Type 0 where
  reach : b + m.h ≤ length m.notes
  keeps : (n : ℕ) → b ≤ n → last_mark (take n m.notes) p ≡ kept

module _ (b : ℕ) (kept : Mark) (p : ℕ) where
  settled_marking : (m : Model) (q k : ℕ) → (q ≡ p → ⊥) → Settled b kept p m → Settled b kept p (done {Q = Unit {0}} m (marking q k))
  settled_marking m q k other s =
      let n : Note = record { place = q; mark = mark_numbered k } in
      let ns = m.notes in
      record {
        reach = omega (arith, s.reach, length_push ns n);
        keeps = λ i from. ⊎_elim
            (λ (short : i < length ns + 1). ap (λ (l : List Note). last_mark l p) (take-append-le i ns (n ∷ []) (omega arith)) ∙ s.keeps i from)
            (λ (long : length ns + 1 ≤ i).
            ap (λ (l : List Note). last_mark l p) (take_all i (ns ++ n ∷ []) (omega (arith, length_push ns n)))
            ∙ last_mark_push ns n p ∙ cond-false _ _ _ (ne_eqb _ _ other)
            ∙ ap (λ (l : List Note). last_mark l p) (sym (take_all i ns (omega arith))) ∙ s.keeps i from)
            (cases_lt i (length ns + 1));
      }

  settled_undoing : (m : Model) → 0 < m.h → Settled b kept p m → Settled b kept p (done {Q = Unit {0}} m undoing)
  settled_undoing m some s =
      let ns = m.notes in
      let last = length ns - 1 in
      let short : length (take (length ns - 1) ns) ≡ length ns - 1 = length-take-le (length ns - 1) ns (omega arith) in
      record {
        reach = omega (arith, s.reach, short);
        keeps = λ i from. ⊎_elim
            (λ (few : i < length ns - 1). ap (λ (l : List Note). last_mark l p) (take-take i (length ns - 1) ns (omega arith)) ∙ s.keeps i from)
            (λ (many : length ns - 1 ≤ i). ap (λ (l : List Note). last_mark l p) (take_all i (take (length ns - 1) ns) (omega (arith, short))) ∙ s.keeps (length ns - 1) (omega (arith, s.reach)))
            (cases_lt i (length ns - 1));
      }

  some_to_undo : (m : Model) → is_some (refusal {Q = Unit {0}} m undoing) ≡ false → 0 < m.h
  some_to_undo m taken = ⊎_elim (λ (none : m.h ≡ 0). absurd (true≢false (sym (ap is_some (refused_empty m none)) ∙ taken))) (λ (some : m.h ≡ 0 → ⊥). omega (arith, some)) (cases_eq m.h 0)

  settled_closing : (m : Model) → Settled b kept p m → Settled b kept p (record { notes = m.notes; h = 0 })
  settled_closing m s = record { reach = omega (arith, s.reach); keeps = s.keeps }

  settled_after : (m : Model) (c : Call (Unit {0})) → Leaves p c → Settled b kept p m → Settled b kept p (after m c)
  settled_after m (marking q k) other s =
      cond_both (is_some (refusal {Q = Unit {0}} m (marking q k))) m (done {Q = Unit {0}} m (marking q k)) (Settled b kept p) (λ _. s) (λ _. settled_marking m q k other s)
  settled_after m undoing other s =
      cond_both (is_some (refusal {Q = Unit {0}} m undoing)) m (done {Q = Unit {0}} m undoing) (Settled b kept p) (λ _. s) (λ taken. settled_undoing m (some_to_undo m taken) s)
  settled_after m setting other s = settled_closing m s
  settled_after m reopening other s = settled_closing m s
  settled_after m (asking q) other s = s

  settled_all : (m : Model) (later : History) → Unmarked p later → Settled b kept p m → Settled b kept p (fold after m later)
  settled_all m [] other s = s
  settled_all m (c ∷ cs) other s = settled_all (after m c) cs other.1 (settled_after m c other.0 s)

settled_mark : (b : ℕ) (kept : Mark) (p : ℕ) (m : Model) → Settled b kept p m → last_mark m.notes p ≡ kept
settled_mark b kept p m s = ap (λ (l : List Note). last_mark l p) (sym (take_all (length m.notes) m.notes (omega arith))) ∙ s.keeps (length m.notes) (omega (arith, s.reach))

-- whatever follows a setting, a place that is not marked again keeps its mark
pub kept_by_setting : (cs later : History) (p : ℕ) → Unmarked p later → mark_after (cs ++ setting ∷ later) p ≡ mark_after cs p
kept_by_setting cs later p other =
    let m : Model = record { notes = (model cs).notes; h = 0 } in
    let b = length m.notes in
    let start : Settled b (mark_after cs p) p m = record {
      reach = omega arith;
      keeps = λ n from. ap (λ (l : List Note). last_mark l p) (take_all n m.notes from);
    } in
    ap (λ (x : Model). last_mark x.notes p) (fold-append after _ cs (setting ∷ later))
    ∙ settled_mark b (mark_after cs p) p _ (settled_all b (mark_after cs p) p m later other start)

unmarked_push : (p : ℕ) (cs : History) (c : Call (Unit {0})) → Unmarked p cs → Leaves p c → Unmarked p (cs ++ c ∷ [])
unmarked_push p [] c other last = (last, tt)
unmarked_push p (x ∷ cs) c other last = (other.0, unmarked_push p cs c other.1 last)

-- one undo more does not reach past the setting either
pub undone_since_setting : (cs later : History) (p : ℕ) → Unmarked p later → mark_after ((cs ++ setting ∷ later) ++ undoing ∷ []) p ≡ mark_after cs p
undone_since_setting cs later p other =
    ap (λ (l : History). mark_after l p) (append_assoc cs (setting ∷ later) (undoing ∷ []))
    ∙ kept_by_setting cs (later ++ undoing ∷ []) p (unmarked_push p later undoing other tt)

-- a marking that is undone leaves every mark as it was
pub undone_marking_marks : (cs : History) (p k q : ℕ) → Taken cs (marking p k) → mark_after ((cs ++ marking p k ∷ []) ++ undoing ∷ []) q ≡ mark_after cs q
undone_marking_marks cs p k q taken =
    let marked = after_done cs (marking p k) taken in
    let some : (model (cs ++ marking p k ∷ [])).h ≡ (model cs).h + 1 = ap (λ (m : Model). m.h) marked in
    ap (λ (m : Model). last_mark m.notes q)
    (after_done (cs ++ marking p k ∷ []) undoing (taken_undoing (model (cs ++ marking p k ∷ [])) (λ (none : (model (cs ++ marking p k ∷ [])).h ≡ 0). omega arith))
    ∙ ap (λ (m : Model). done {Q = Unit {0}} m undoing) marked ∙ undone_marking (model cs) p k)
