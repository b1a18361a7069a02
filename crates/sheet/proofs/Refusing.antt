-- Which refusal comes first.
use Rattle.std.proofs.Common.{◌≡◌, ℕ, ◌<◌, ◌≤◌, Some, None, ◌∙◌}
use Rattle.std.proofs.lemmas.Bool.{cond-true, cond-false, eq-eqb, ne_eqb, lt-ltb, le-ltb}
use Rattle.sheet.specs.Numbers.{refused_by}
use Rattle.sheet.specs.Model.{marking, undoing, Model, refusal}

module _ (m : Model) where
  pub refused_place : (p k : ℕ) → 1023 < p → refusal {Q = Unit {0}} m (marking p k) ≡ Some (refused_by 11)
  refused_place p k far = cond-true _ _ _ (lt-ltb _ _ far)

  pub taken_marking : (p k : ℕ) → p ≤ 1023 → k ≤ 2 → (m.h ≡ 256 → ⊥) → refusal {Q = Unit {0}} m (marking p k) ≡ None
  taken_marking p k near small room = cond-false _ _ _ (le-ltb _ _ near) ∙ cond-false _ _ _ (le-ltb _ _ small) ∙ cond-false _ _ _ (ne_eqb _ _ room)

  pub refused_empty : m.h ≡ 0 → refusal {Q = Unit {0}} m undoing ≡ Some (refused_by 14)
  refused_empty none = cond-true _ _ _ (eq-eqb _ _ none)

  pub taken_undoing : (m.h ≡ 0 → ⊥) → refusal {Q = Unit {0}} m undoing ≡ None
  taken_undoing some = cond-false _ _ _ (ne_eqb _ _ some)
