-- What is read of a sign.
use Rattle.std.proofs.Common.{◌≡◌, ℕ, ◌≤◌, get_or, Bool, true, false, List, [], ◌∷◌, length, refl, sym, ap, ◌∙◌, subst, ⊎_elim, arith}
use Rattle.std.specs.Prelude.{◌==◌}
use Rattle.std.proofs.lemmas.Bool.{cases_Bool, cond-true, cond-false, eqb-true, eqb-false}
use Rattle.forms.specs.Parts.{sign_text}
use Rattle.forms.specs.Languages.{Begins}
use Rattle.fields.specs.Words.{IsSign}
use Rattle.fields.specs.Checking.{sign_of, alone}
use Rattle.fields.specs.Laws.{AnyWord, Checks}
use Rattle.fields.proofs.Refusals.{Reads, refused_at, refused_end, checks}

-- no bytes begin a sign
empty-begins : Begins (AnyWord IsSign) []
empty-begins = (sign_text false, (false, refl))

-- a sign, and nothing after it
reads-alone : (negative : Bool) (b : ℕ) (bs : List ℕ) → b ∷ [] ≡ sign_text negative → Reads IsSign (b ∷ bs) (alone negative bs)
reads-alone negative b [] e = e
reads-alone negative b (c ∷ cs) e =
    refused_at (AnyWord IsSign) (b ∷ []) cs c ([], (negative, e)) (λ more. let two : 2 ≤ length (sign_text more.1.0) = omega (arith, ap length more.1.1) in omega arith)

-- a sign is read or refused
pub reads-sign : (word : List ℕ) → Reads IsSign word (sign_of word)
reads-sign [] = refused_end (AnyWord IsSign) [] empty-begins (λ l. let none : 0 ≡ length (sign_text l.0) = ap length l.1 in omega arith)
reads-sign (b ∷ bs) =
    ⊎_elim
    (λ plus. subst (Reads IsSign (b ∷ bs)) (sym (cond-true (b == 43) _ _ plus)) (reads-alone false b bs (ap (λ c. c ∷ []) (eqb-true b 43 plus))))
    (λ other. subst (Reads IsSign (b ∷ bs)) (sym (cond-false (b == 43) _ _ other)) (⊎_elim
    (λ minus. subst (Reads IsSign (b ∷ bs)) (sym (cond-true (b == 45) _ _ minus)) (reads-alone true b bs (ap (λ c. c ∷ []) (eqb-true b 45 minus))))
    (λ neither. subst (Reads IsSign (b ∷ bs)) (sym (cond-false (b == 45) _ _ neither)) (refused_at (AnyWord IsSign) [] bs b empty-begins (λ more. no-sign more.1.0 more.0 (eqb-false b 43 other) (eqb-false b 45 neither) more.1.1)))
    (cases_Bool (b == 45))))
    (cases_Bool (b == 43))
  where
    no-sign : (negative : Bool) (rest : List ℕ) → ¬ (b ≡ 43) → ¬ (b ≡ 45) → ¬ (b ∷ rest ≡ sign_text negative)
    no-sign true rest plus minus e = minus (cc)
    no-sign false rest plus minus e = plus (cc)

-- a word spells one sign
pub one-sign : (a b : Bool) (word : List ℕ) → IsSign a word → IsSign b word → a ≡ b
one-sign true true word e f = refl
one-sign false false word e f = refl
one-sign true false word e f = absurd (omega (arith, ap (λ w. get_or w 0 0) (sym e ∙ f)))
one-sign false true word e f = absurd (omega (arith, ap (λ w. get_or w 0 0) (sym e ∙ f)))

-- signs are checked
pub signs_check : Checks IsSign sign_of
signs_check = checks IsSign sign_of reads-sign one-sign
