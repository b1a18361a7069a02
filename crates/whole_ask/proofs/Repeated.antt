-- Asks that get the same reply.
use Rattle.std.proofs.Common.{◌≡◌, ℕ, Bool, true, false, List, ℤ, is_err, Ok, Err, Result, sym, refl, ap, ◌∙◌}
use Rattle.batch.specs.Term.{Term}
use Rattle.sheet.specs.declared.mark.Mark.{Mark}
use Rattle.answers.specs.Asked.{Reply, done, refused, answered, question, asked}
use Rattle.ask.specs.Told.{told}
use Rattle.ask.specs.declared.answer.Answer.{Answer}
use Rattle.ask.specs.declared.fault.AskFault.{AskFault}

-- the question with as many limbs
pub with_room : (marks : ℕ → Mark) (ts : List Term) (u : ℤ → ℤ) (w m j k : ℕ) (a : Reply) → a ≡ asked marks (question ts u w m j) → j ≡ k → a ≡ asked marks (question ts u w m k)
with_room marks ts u w m j k a e same = e ∙ ap (λ (n : ℕ). asked marks (question ts u w m n)) same

-- ---- refusals
is_refused : Reply → Bool
is_refused done = false
is_refused (refused r) = true
is_refused (answered a) = false

told_error : (r : Result Answer AskFault) (ls : List ℕ) → is_err r ≡ is_refused (told r ls)
unfolding is_refused
told_error (Ok a) ls = refl
told_error (Err f) ls = refl

-- where a second ask gets the same reply and is refused, so was the first
pub refused_again : (a : Reply) (r s : Result Answer AskFault) (ls ms old : List ℕ) → told r ls ≡ a → told s ms ≡ a
    → (is_err r ≡ true → ls ≡ old) → (is_err s ≡ true → ms ≡ ls) → is_err s ≡ true → ms ≡ old
refused_again a r s ls ms old d e first second h = second h ∙ first (told_error r ls ∙ ap is_refused (d ∙ sym e) ∙ sym (told_error s ms) ∙ h)
