-- One call more, in turn or out of turn.
use Rattle.std.proofs.Common.{◌≡◌, Bool, true, false, cond, List, [], ◌∷◌, ◌++◌, is_some, is_err, Some, Ok, Err, fold, Result, sym, refl, ap, ◌∙◌, append-nil}
use Rattle.std.proofs.lemmas.List.Sums.{fold_push}
use Rattle.std.proofs.lemmas.Bool.{cond-true, cond-false}
use Rattle.sheet.specs.Model.{Call, refusal_after}
use Rattle.sheet.specs.declared.fault.SheetFault.{SheetFault}
use Rattle.sheet.specs.Numbers.{refused_by, told}
use Rattle.history.specs.Turns.{fits, opens, open_after, fitting_from, fitting, told_after}

pub open_after_push : {Q : Type 0} (cs : List (Call Q)) (c : Call Q) → open_after (cs ++ c ∷ []) ≡ opens (open_after cs) c
open_after_push cs c = fold_push opens true cs c

cond_append : {X : Type 0} (b : Bool) (x : X) (xs ys : List X) → cond b (x ∷ xs) xs ++ ys ≡ cond b (x ∷ (xs ++ ys)) (xs ++ ys)
cond_append true x xs ys = refl
cond_append false x xs ys = refl

fitting_from_push : {Q : Type 0} (b : Bool) (cs : List (Call Q)) (c : Call Q) → fitting_from b (cs ++ c ∷ []) ≡ fitting_from b cs ++ cond (fits (fold opens b cs) c) (c ∷ []) []
fitting_from_push b [] c = refl
fitting_from_push {Q} b (x ∷ cs) c =
    ap (λ (l : List (Call Q)). cond (fits b x) (x ∷ l) l) (fitting_from_push (opens b x) cs c)
    ∙ sym (cond_append (fits b x) x (fitting_from (opens b x) cs) (cond (fits (fold opens (opens b x) cs) c) (c ∷ []) []))

pub fitting_push : {Q : Type 0} (cs : List (Call Q)) (c : Call Q) → fits (open_after cs) c ≡ true → fitting (cs ++ c ∷ []) ≡ fitting cs ++ c ∷ []
fitting_push {Q} cs c fit = fitting_from_push true cs c ∙ ap (λ (l : List (Call Q)). fitting cs ++ l) (cond-true _ _ _ fit)

pub fitting_skip : {Q : Type 0} (cs : List (Call Q)) (c : Call Q) → fits (open_after cs) c ≡ false → fitting (cs ++ c ∷ []) ≡ fitting cs
fitting_skip {Q} cs c unfit = fitting_from_push true cs c ∙ ap (λ (l : List (Call Q)). fitting cs ++ l) (cond-false _ _ _ unfit) ∙ append-nil (fitting cs)

pub told_out_of_turn : {Q : Type 0} (cs : List (Call Q)) (c : Call Q) → fits (open_after cs) c ≡ false → told_after cs c ≡ Some (refused_by 20)
told_out_of_turn cs c unfit = cond-false _ _ _ unfit
