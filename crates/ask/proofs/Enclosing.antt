-- What follows for two asks at once, one downward and one upward, from what they get.
use Rattle.std.proofs.Common.{◌≡◌, ℕ, ◌⊎◌, List, [], ◌∷◌, ◌++◌, ℤ, IsErrAnd, IfOk, Ok, Err, Result, sym, refl, subst, append_assoc, inl, inr}
use Rattle.grid.specs.Spacing.{Lawful}
use Rattle.batch.specs.Term.{Term, Batchable}
use Rattle.sheet.specs.Model.{asking}
use Rattle.sheet.specs.Shown.{shown}
use Rattle.sheet.specs.declared.mark.Mark.{Mark}
use Rattle.sheet.specs.declared.sheet.SetSheet.{SetSheet}
use Rattle.answers.specs.Published.{Published}
use Rattle.answers.specs.Asked.{Question, question, Reply, refused, answered, asked}
use Rattle.answers.specs.Laws.{Proper, AnswerLaw, Twins, Enclosing}
use Rattle.answers.specs.Trace.{Event, event, TracedSet}
use Rattle.ask.specs.Told.{published, fault_refusal}
use Rattle.ask.specs.Both.{BothAsked, BothTraced}
use Rattle.ask.specs.declared.answer.Answer.{Answer}
use Rattle.ask.specs.declared.fault.AskFault.{AskFault}
use Rattle.answers.proofs.Right.{answers_right}
use Rattle.answers.proofs.Enclosing.{answers_enclose}
use Rattle.ask.proofs.Asking.{ask_reached}

-- a refusal that is handed on
pub both_refused : (marks : ℕ → Mark) (p q : Question) (f : AskFault) (r : Result (Answer × Answer) AskFault) (low high : List ℕ) → IsErrAnd r (λ y. y ≡ f)
    → (asked marks p ≡ refused (fault_refusal f)) ⊎ ((a : Published) × (asked marks p ≡ answered a) × (asked marks q ≡ refused (fault_refusal f))) → BothAsked marks p q r low high
both_refused marks p q f (Ok both) low high exit by = absurd exit
both_refused marks p q f (Err g) low high exit by =
    subst (λ (h : AskFault). (asked marks p ≡ refused (fault_refusal h)) ⊎ ((a : Published) × (asked marks p ≡ answered a) × (asked marks q ≡ refused (fault_refusal h)))) (sym exit) by

module _ (ts : List Term) (u : ℤ → ℤ) (w j k : ℕ) (batchable : Batchable ts) (lawful : Lawful u w) where
  abbrev down : Question
  down = question ts u w 1 j

  abbrev up : Question
  up = question ts u w 2 k

  down_proper : Proper down
  down_proper = record { batchable = batchable; lawful = lawful }

  up_proper : Proper up
  up_proper = record { batchable = batchable; lawful = lawful }

  twins : Twins down up
  twins = record { terms = refl; spacing = λ e. refl; width = refl; down = refl; up = refl }

  module _ (marks : ℕ → Mark) where
    pub both_right : (r : Result (Answer × Answer) AskFault) (low high : List ℕ) → BothAsked marks down up r low high
        → IfOk r (λ p. AnswerLaw marks down (published p.0 low) × AnswerLaw marks up (published p.1 high))
    both_right (Ok p) low high (d, e) = (answers_right marks down (published p.0 low) down_proper d, answers_right marks up (published p.1 high) up_proper e)
    both_right (Err f) low high by = tt

    pub both_enclose : (r : Result (Answer × Answer) AskFault) (low high : List ℕ) → BothAsked marks down up r low high
        → IfOk r (λ p. Enclosing marks down (published p.0 low) (published p.1 high))
    both_enclose (Ok p) low high (d, e) = answers_enclose marks down up (published p.0 low) (published p.1 high) up_proper twins d e
    both_enclose (Err f) low high by = tt

  -- both asks made, one after the other
  two_more : (s : SetSheet) (h : List Event) (a b : Reply) → TracedSet h s → asked (shown s.marks) down ≡ a → asked (shown s.marks) up ≡ b
      → TracedSet (h ++ event (asking down) a ∷ event (asking up) b ∷ []) s
  two_more s h a b traced d e =
      subst (λ (l : List Event). TracedSet l s) (append_assoc h (event (asking down) a ∷ []) (event (asking up) b ∷ []))
      (ask_reached (h ++ event (asking down) a ∷ []) s (ask_reached h s traced down a down_proper (sym d)) up b up_proper (sym e))

  pub both_reached : (s : SetSheet) (r : Result (Answer × Answer) AskFault) (low high : List ℕ) → BothAsked (shown s.marks) down up r low high
      → (h : List Event) → TracedSet h s → BothTraced h s down up r low high
  both_reached s (Ok p) low high (d, e) h traced = two_more s h _ _ traced d e
  both_reached s (Err f) low high (inl d) h traced = inl (ask_reached h s traced down _ down_proper (sym d))
  both_reached s (Err f) low high (inr (a, d, e)) h traced = inr (a, two_more s h _ _ traced d e)
