-- One place more is in.
use Rattle.std.proofs.Common.{◌≡◌, ℕ, ◌+◌, ◌<◌, ◌≤◌, cond, eqb, [], ◌∷◌, ◌++◌, is_some, Some, None, Ok, Err, Option, Result, sym, refl, ap, ◌∙◌, ⊎_elim, arith, MatchResult}
use Rattle.std.proofs.lemmas.Bool.{cond-true, cond-false, cases_lt, cases_eq, eq-eqb, ne_eqb, lt-ltb, le-ltb, true≢false}
use Rattle.sheet.specs.declared.mark.Mark.{Mark}
use Rattle.sheet.specs.declared.mark.Mark.TheVariants.{In}
use Rattle.sheet.specs.declared.fault.SheetFault.{SheetFault}
use Rattle.sheet.specs.declared.fault.SheetFault.TheVariants.{NoSuchPlace, NoSuchMark, TrailFull, TrailEmpty}
use Rattle.sheet.specs.declared.sheet.OpenSheet.{OpenSheet}
use Rattle.sheet.specs.declared.sheet.SetSheet.{SetSheet}
use Rattle.sheet.specs.Model.{Model, History, marking, setting, reopening, last_mark, model, mark_after, refusal_after}
use Rattle.sheet.specs.Numbers.{Refusal, told, fault_number}
use Rattle.sheet.specs.Shown.{shown}
use Rattle.sheet.specs.Reached.{Reached, ReachedSet}
use Rattle.sheet.proofs.Notes.{after_done, last_mark_push}
use Rattle.sheet.proofs.Refusing.{taken_marking, refused_place}
use Rattle.whole_sheet.specs.FirstPlaces.{first_in, InFirst}

-- the mark of each place when one more is given the mark in
next_in : (n p : ℕ) (m : Mark) → m ≡ first_in n p → cond (eqb n p) In m ≡ first_in (n + 1) p
next_in n p m is =
    ⊎_elim
    (λ (lower : p < n). cond-false _ _ _ (ne_eqb n p (λ e. omega (arith, e, lower))) ∙ is ∙ cond-true _ _ _ (lt-ltb p n lower) ∙ sym (cond-true _ _ _ (lt-ltb p (n + 1) (omega (arith, lower)))))
    (λ (upper : n ≤ p).
    ⊎_elim
    (λ (same : n ≡ p). cond-true _ _ _ (eq-eqb n p same) ∙ sym (cond-true _ _ _ (lt-ltb p (n + 1) (omega (arith, same)))))
    (λ (other : n ≡ p → ⊥). cond-false _ _ _ (ne_eqb n p other) ∙ is ∙ cond-false _ _ _ (le-ltb p n upper) ∙ sym (cond-false _ _ _ (le-ltb p (n + 1) (omega (arith, upper, other)))))
    (cases_eq n p))
    (cases_lt p n)

-- the number of a refusal, if there is one
abbrev refusal_number : Option Refusal → ℕ
refusal_number (Some r) = r.number
refusal_number None = 0

no_such_place : (f : SheetFault) → fault_number f ≡ 11 → f ≡ NoSuchPlace
no_such_place NoSuchPlace e = refl
no_such_place NoSuchMark e = absurd (omega (arith, e))
no_such_place TrailFull e = absurd (omega (arith, e))
no_such_place TrailEmpty e = absurd (omega (arith, e))

module _ (n h : ℕ) (s s' : OpenSheet) (room : h < 256) (at : InFirst n h s) where
  taken : n ≤ 1023 → refusal_after at.0 (marking n 1) ≡ None
  taken near = taken_marking (model at.0) n 1 near (omega arith) (λ full. omega (arith, full, at.3, room))

  marked : n ≤ 1023 → ((cs : History) → Reached cs s → Reached (cs ++ marking n 1 ∷ []) s') → InFirst (n + 1) (h + 1) s'
  marked near step =
      let cs = at.0 in
      let after = after_done cs (marking n 1) (taken near) in (
        cs ++ marking n 1 ∷ [],
        step cs at.1,
        (λ p. ap (λ (m : Model). last_mark m.notes p) after ∙ last_mark_push (model cs).notes _ p ∙ next_in n p (mark_after cs p) (at.2 p)),
        ap (λ (m : Model). m.h) after ∙ ap (λ (k : ℕ). k + 1) at.3,
      )

-- setting and reopening a sheet leaves its marks, and nothing to undo
pub reopened : (n h : ℕ) (s : OpenSheet) (t : SetSheet) (s' : OpenSheet) → InFirst n h s
    → ((cs : History) → Reached cs s → ReachedSet (cs ++ setting ∷ []) t)
    → ((cs : History) → ReachedSet cs t → Reached (cs ++ reopening ∷ []) s')
    → InFirst n 0 s'
reopened n h s t s' at set reopen =
    let cs = at.0 in
    let one = after_done cs setting refl in
    let two = after_done (cs ++ setting ∷ []) reopening refl in (
      (cs ++ setting ∷ []) ++ reopening ∷ [],
      reopen (cs ++ setting ∷ []) (set cs at.1),
      (λ p. ap (λ (m : Model). last_mark m.notes p) two ∙ ap (λ (m : Model). last_mark m.notes p) one ∙ at.2 p),
      ap (λ (m : Model). m.h) two,
    )

-- the marks of a sheet that is set
pub set_shows : (n h : ℕ) (s : OpenSheet) (t : SetSheet) → InFirst n h s
    → ((cs : History) → Reached cs s → ReachedSet (cs ++ setting ∷ []) t)
    → (p : ℕ) → shown t.marks p ≡ first_in n p
set_shows n h s t at set p =
    set at.0 at.1 p ∙ ap (λ (m : Model). last_mark m.notes p) (after_done at.0 setting refl) ∙ at.2 p
