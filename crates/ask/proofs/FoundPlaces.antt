-- A marked place that is found is one of the sheet.
use Rattle.std.proofs.Common.{◌≡◌, ℕ, zero, suc, ◌+◌, ◌-◌, ◌<◌, true, false, Some, refl, ◌∙◌, ⊎_elim, arith}
use Rattle.std.proofs.lemmas.Bool.{cond-true, cond-false, cases_Bool}
use Rattle.sheet.specs.declared.mark.Mark.{Mark}
use Rattle.survey.specs.Places.{is_marked, first_marked, lowest_marked}

found_within : (marks : ℕ → Mark) (n i p : ℕ) → Some p ≡ first_marked marks i n → p < i + n
found_within marks zero i p e = let z : ◌≡◌ {A = ℕ} 0 1 = cc in absurd (omega arith)
found_within marks (suc n) i p e =
    ⊎_elim
    (λ (y : is_marked (marks i) ≡ true). let s : Some p ≡ Some i = e ∙ cond-true _ _ _ y in let h : p ≡ i = cc in omega arith)
    (λ (z : is_marked (marks i) ≡ false). let l = found_within marks n (i + 1) p (e ∙ cond-false _ _ _ z) in omega arith)
    (cases_Bool (is_marked (marks i)))

pub lowest_within : (marks : ℕ → Mark) (from p : ℕ) → Some p ≡ lowest_marked marks from → p < 1024
lowest_within marks from p e = by_room (1024 - from) refl e
  where
    by_room : (n : ℕ) → n ≡ 1024 - from → Some p ≡ first_marked marks from n → p < 1024
    by_room zero s f = let z : ◌≡◌ {A = ℕ} 0 1 = cc in absurd (omega arith)
    by_room (suc n) s f = let l = found_within marks (suc n) from p f in omega arith
