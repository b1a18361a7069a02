-- Notes and histories with one more at the end.
use Rattle.std.proofs.Common.{◌≡◌, ℕ, ◌-◌, cond, eqb, List, [], ◌∷◌, ◌++◌, length, is_some, Some, None, ap, ◌∙◌, arith}
use Rattle.std.proofs.lemmas.List.{length_push, take_at}
use Rattle.std.proofs.lemmas.List.Sums.{fold_push}
use Rattle.std.proofs.lemmas.Bool.{cond-true, cond-false}
use Rattle.sheet.specs.declared.mark.Mark.TheVariants.{Out}
use Rattle.sheet.specs.Numbers.{Refusal}
use Rattle.sheet.specs.Model.{Call, Note, last_mark, without_last, blank, done, after, model, refusal_after}

-- a last note gives its place its mark, and no other place one
pub last_mark_push : (ns : List Note) (n : Note) (p : ℕ) → last_mark (ns ++ n ∷ []) p ≡ cond (eqb n.place p) n.mark (last_mark ns p)
last_mark_push ns n p = fold_push _ Out ns n

pub without_last_push : (ns : List Note) (n : Note) → without_last (ns ++ n ∷ []) ≡ ns
without_last_push ns n = take_at ns (n ∷ []) (length (ns ++ n ∷ []) - 1) (omega (arith, length_push ns n))

pub after_done : {Q : Type 0} (cs : List (Call Q)) (c : Call Q) → refusal_after cs c ≡ None → model (cs ++ c ∷ []) ≡ done (model cs) c
after_done cs c taken = fold_push after blank cs c ∙ cond-false _ _ _ (ap is_some taken)

pub after_refused : {Q : Type 0} (cs : List (Call Q)) (c : Call Q) (r : Refusal) → refusal_after cs c ≡ Some r → model (cs ++ c ∷ []) ≡ model cs
after_refused cs c r refused = fold_push after blank cs c ∙ cond-true _ _ _ (ap is_some refused)
