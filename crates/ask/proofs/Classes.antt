-- The answer by the class of the sum, from the kinds that were found.
use Rattle.std.proofs.Common.{◌≡◌, ℕ, Bool, List, ℤ, ap, ◌∙◌}
use mathlib.Core.Path.{fun_ext}
use Rattle.grid.specs.Rounding.{Mode}
use Rattle.batch.specs.Term.{Term}
use Rattle.batch.specs.declared.kind.Kind.{Kind}
use Rattle.sheet.specs.declared.mark.Mark.{Mark}
use Rattle.survey.specs.Kinds.{counted_kinds, has, class_found}
use Rattle.survey.specs.declared.class.SumClass.{SumClass}
use Rattle.answers.specs.Published.{answer, answer_of_class}

pub answer_by_class : (marks : ℕ → Mark) (ts : List Term) (found : Kind → Bool) → ((k : Kind) → found k ≡ has (counted_kinds marks ts) k)
    → (s : SumClass) (u : ℤ → ℤ) (m : Mode) (room : ℕ) → s ≡ class_found found → answer_of_class s marks ts u m room ≡ answer marks ts u m room
unfolding answer
answer_by_class marks ts found same s u m room e = ap (λ (t : SumClass). answer_of_class t marks ts u m room) (e ∙ ap class_found (fun_ext same))
