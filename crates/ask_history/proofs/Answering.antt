-- The law of an ask of a list, from what the ask itself promises, and asks whose batch and grid keep their laws.
use Rattle.std.proofs.Common.{◌≡◌, ℕ, zero, suc, List, [], ◌∷◌, ◌++◌, map, get_or, Result, sym, refl, ◌∙◌, subst}
use Rattle.batch.specs.Term.{Term, Batchable}
use Rattle.sheet.specs.declared.sheet.SetSheet.{SetSheet}
use Rattle.sheet.specs.Model.{asking}
use Rattle.answers.specs.Asked.{Question, Reply}
use Rattle.answers.specs.Trace.{Event, event, history_of, reply_after, TracedSet}
use Rattle.ask.specs.declared.answer.Answer.{Answer}
use Rattle.ask.specs.declared.fault.AskFault.{AskFault}
use Rattle.ask.specs.Told.{told}
use Rattle.history.specs.declared.any_sheet.Sheet.TheVariants.{Set}
use Rattle.ask_history.specs.Data.{Outcome, reply_told}
use Rattle.ask_history.specs.Law.{CallLaw}
use Rattle.ask_history.specs.NoTerms.{none_batchable}

-- an ask in n limbs, where the list lends m, which is the same
pub ask_law : (s : SetSheet) (q : ℕ → Question) (n m : ℕ) (o : Outcome) (r : Result Answer AskFault) (ls : List ℕ) → n ≡ m → reply_told o ≡ told r ls
    → ((h : List Event) → TracedSet h s → told r ls ≡ reply_after (history_of h) (asking (q n)))
    → ((h : List Event) → TracedSet h s → TracedSet (h ++ event (asking (q n)) (told r ls) ∷ []) s)
    → CallLaw (Set s) (asking (q m)) (Set s) o
ask_law s q n m o r ls same tells answers reached =
    subst (λ (k : ℕ). CallLaw (Set s) (asking (q k)) (Set s) o) same
    (record {
      answers = λ h a. tells ∙ answers h a;
      traced = λ h a. subst (λ (x : Reply). TracedSet (h ++ event (asking (q n)) x ∷ []) s) (sym tells) (reached h a);
      when_refused = λ _. refl;
      when_answered = λ _. refl;
    })

-- the terms that any number names can be a batch
pub named_batchable : {X : Type 0} (terms : X → List Term) (limited : (x : X) → Batchable (terms x)) (xs : List X) (i : ℕ) → Batchable (get_or (map terms xs) i [])
named_batchable terms limited [] i = none_batchable
named_batchable terms limited (x ∷ xs) zero = limited x
named_batchable terms limited (x ∷ xs) (suc i) = named_batchable terms limited xs i
