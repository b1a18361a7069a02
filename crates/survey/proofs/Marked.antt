-- A search for the lowest marked place among the marks from a number on.
use Rattle.std.proofs.Common.{◌≡◌, ℕ, suc, ◌+◌, ◌||◌, Bool, true, false, cond, List, [], ◌∷◌, length, get_or, ltb, Some, None, Option, sym, refl, ap, ◌∙◌, arith, fold}
use Rattle.std.specs.List.{position, position_or_len}
use Rattle.std.proofs.lemmas.Bool.{cond_below}
use Rattle.std.proofs.lemmas.Bool.Decides.{nat_tests}
use Rattle.std.proofs.lemmas.List.Folds.{fold_stays}
use Rattle.sheet.specs.declared.mark.Mark.{Mark}
use Rattle.sheet.specs.declared.mark.Mark.TheVariants.{Out, In, Turned}
use Rattle.survey.specs.Places.{is_marked, first_marked}

-- the place with this number among those from i on, if there is one
abbrev pub place_from : ℕ → Option ℕ → Option ℕ
place_from i None = None
place_from i (Some n) = Some (i + n)

one_more : (i n l : ℕ) → place_from (i + 1) (cond (ltb n l) (Some n) None) ≡ place_from i (cond (ltb (1 + n) (suc l)) (Some (1 + n)) None)
one_more i n l = grind (arith, nat_tests)

module _ (marks : ℕ → Mark) where
  abbrev pub Reads : ℕ → List Mark → Type 0
  Reads i xs = (p : ℕ) → get_or xs p Out ≡ marks (i + p)

  reads_first : (i : ℕ) (x : Mark) (xs : List Mark) → Reads i (x ∷ xs) → marks i ≡ x
  reads_first i x xs h = let e : i ≡ i + 0 = omega arith in ap marks e ∙ sym (h 0)

  reads_rest : (i : ℕ) (x : Mark) (xs : List Mark) → Reads i (x ∷ xs) → Reads (i + 1) xs
  reads_rest i x xs h = λ p. let e : i + suc p ≡ i + 1 + p = omega arith in h (suc p) ∙ ap marks e

  -- what a search finds at the place i, where the mark there is known
  found : (i n : ℕ) (m : Mark) → marks i ≡ m → cond (is_marked m) (Some i) (first_marked marks (i + 1) n) ≡ first_marked marks i (suc n)
  found i n m e = sym (ap (λ (k : Mark). cond (is_marked k) (Some i) (first_marked marks (i + 1) n)) e)

  here : (i n : ℕ) → place_from i (cond (ltb 0 (suc n)) (Some 0) None) ≡ Some i
  here i n = let e : i + 0 ≡ i = omega arith in sym (ap (place_from i) (cond_below 0 (suc n) (Some 0) None (omega arith))) ∙ ap Some e

  pub searched : (i : ℕ) (xs : List Mark) → Reads i xs → place_from i (position is_marked xs) ≡ first_marked marks i (length xs)
  searched i [] h = refl
  searched i (x ∷ xs) h = step x (reads_first i x xs h) (searched (i + 1) xs (reads_rest i x xs h))
    where
      step : (x : Mark) → marks i ≡ x → place_from (i + 1) (position is_marked xs) ≡ first_marked marks (i + 1) (length xs) → place_from i (position is_marked (x ∷ xs)) ≡ first_marked marks i (suc (length xs))
      step Out e rest = sym (one_more i (position_or_len is_marked xs) (length xs)) ∙ rest ∙ found i (length xs) Out e
      step In e rest = here i (length xs) ∙ found i (length xs) In e
      step Turned e rest = here i (length xs) ∙ found i (length xs) Turned e

  -- the marks are looked at with no early end
  abbrev pub any_marked : Bool → List Mark → Bool
  any_marked = fold (λ any m. any || is_marked m)

  pub none_marked : (i : ℕ) (xs : List Mark) → Reads i xs → any_marked false xs ≡ false → None ≡ first_marked marks i (length xs)
  none_marked i [] h n = refl
  none_marked i (x ∷ xs) h n = step x (reads_first i x xs h) n (none_marked (i + 1) xs (reads_rest i x xs h))
    where
      stays : any_marked true xs ≡ true
      stays = fold_stays (λ any m. any || is_marked m) true (λ m. refl) xs

      step : (x : Mark) → marks i ≡ x → any_marked (is_marked x) xs ≡ false → (any_marked false xs ≡ false → None ≡ first_marked marks (i + 1) (length xs)) → None ≡ first_marked marks i (suc (length xs))
      step Out e n rest = rest n ∙ found i (length xs) Out e
      step In e n rest = let z : true ≡ false = sym stays ∙ n in cc
      step Turned e n rest = let z : true ≡ false = sym stays ∙ n in cc
