-- How a sheet in either state goes on with one call more.
use Rattle.std.proofs.Common.{◌≡◌, ℕ, true, false, [], ◌∷◌, ◌++◌, sym, ◌∙◌, subst}
use Rattle.sheet.specs.declared.sheet.OpenSheet.{OpenSheet}
use Rattle.sheet.specs.declared.sheet.SetSheet.{SetSheet}
use Rattle.sheet.specs.Model.{Call, History, model, mark_after}
use Rattle.sheet.specs.Reached.{Reached, ReachedSet}
use Rattle.sheet.specs.Shown.{shown}
use Rattle.sheet.specs.Undo.{undoes}
use Rattle.sheet.proofs.Agreeing.{agrees_shows}
use Rattle.history.specs.declared.any_sheet.Sheet.{Sheet}
use Rattle.history.specs.declared.any_sheet.Sheet.TheVariants.{Open, Set}
use Rattle.history.specs.Reaches.{Reaches, shown_on}
use Rattle.history.specs.Turns.{fits, opens, open_after, fitting}
use Rattle.history.proofs.Turning.{open_after_push, fitting_push, fitting_skip}

module _ (cs : History) (c : Call (Unit {0})) where
  -- a call in turn leads to an open sheet, or to a set one
  pub turns_open : (s : OpenSheet) → opens (open_after cs) c ≡ true → fits (open_after cs) c ≡ true → Reached (fitting cs ++ c ∷ []) s → Reaches (cs ++ c ∷ []) (Open s)
  turns_open s state fit a = (open_after_push cs c ∙ state, subst (λ (h : History). Reached h s) (sym (fitting_push cs c fit)) a)

  pub turns_set : (s : SetSheet) → opens (open_after cs) c ≡ false → fits (open_after cs) c ≡ true → ReachedSet (fitting cs ++ c ∷ []) s → Reaches (cs ++ c ∷ []) (Set s)
  turns_set s state fit a = (open_after_push cs c ∙ state, subst (λ (h : History). ReachedSet h s) (sym (fitting_push cs c fit)) a)

  -- a call out of turn leaves the sheet
  pub stays_open : (s : OpenSheet) → opens (open_after cs) c ≡ true → fits (open_after cs) c ≡ false → Reached (fitting cs) s → Reaches (cs ++ c ∷ []) (Open s)
  stays_open s state unfit a = (open_after_push cs c ∙ state, subst (λ (h : History). Reached h s) (sym (fitting_skip cs c unfit)) a)

  pub stays_set : (s : SetSheet) → opens (open_after cs) c ≡ false → fits (open_after cs) c ≡ false → ReachedSet (fitting cs) s → Reaches (cs ++ c ∷ []) (Set s)
  stays_set s state unfit a = (open_after_push cs c ∙ state, subst (λ (h : History). ReachedSet h s) (sym (fitting_skip cs c unfit)) a)

pub reaches_marks : (cs : History) (s : Sheet) → Reaches cs s → (p : ℕ) → shown_on s p ≡ mark_after (fitting cs) p
reaches_marks cs (Open s) a p = agrees_shows (model (fitting cs)) (shown s.marks) (undoes s.trail) a.1 p
reaches_marks cs (Set s) a p = a.1 p
