use Rattle.std.proofs.Common.{◌≡◌, false, [], ◌∷◌, ◌++◌, sym, refl, ap, ◌∙◌, subst, inl, inr}
use Rattle.sheet.specs.Model.{Call, reopening}
use Rattle.history.specs.declared.call.SheetCall.{SheetCall}
use Rattle.history.specs.declared.any_sheet.Sheet.TheVariants.{Open}
use Rattle.history.specs.Data.{call_of}
use Rattle.history.specs.Reaches.{Reaches}
use Rattle.history.specs.Turns.{fits, opens, fitting}
use Rattle.history.proofs.Reaching.{turns_open, stays_set}
use Rattle.history.proofs.Turning.{told_out_of_turn}
use Rattle.history.proofs.any_sheet.call_set.Goals as goal

pub returns-in-Reopen-clause-reaches : goal.returns-in-Reopen-clause-reaches
returns-in-Reopen-clause-reaches c = λ cs a.
    subst (λ (x : SheetCall). Reaches (cs ++ call_of x ∷ []) (Open c.reopen.result)) (sym c.in-Reopen.is)
    (turns_open cs reopening c.reopen.result refl (ap (λ b. fits {Q = Unit {0}} b reopening) a.0) (c.reopen.ensures.reached (fitting cs) a.1))

-- a call that is none of a set sheet's: it does not fit, and the sheet stays set
abbrev Foreign : Call (Unit {0}) → Type 0
Foreign d = (fits false d ≡ false) × (opens false d ≡ false)

foreign : (c : goal.In-Mark) → Foreign (call_of c.args.call)
foreign c = elim c.in-Mark.is [
  | inl (p, k, is) ↦ subst (λ (x : SheetCall). Foreign (call_of x)) (sym is) (refl, refl)
  | inr (inl is) ↦ subst (λ (x : SheetCall). Foreign (call_of x)) (sym is) (refl, refl)
  | inr (inr is) ↦ subst (λ (x : SheetCall). Foreign (call_of x)) (sym is) (refl, refl)
]

pub returns-in-Mark : goal.returns-in-Mark
returns-in-Mark c =
    let call = call_of c.args.call in
    record {
      answers = λ cs a. sym (told_out_of_turn cs call (ap (λ b. fits b call) a.0 ∙ (foreign c).0));
      reaches = λ cs a. stays_set cs call c.args.sheet (ap (λ b. opens b call) a.0 ∙ (foreign c).1) (ap (λ b. fits b call) a.0 ∙ (foreign c).0) a.1;
      refused = λ _. refl;
    }
