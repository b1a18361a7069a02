-- The first record with a fault: the steps of the loop that looks for it, and what its outcome tells.
use Rattle.std.proofs.Common.{◌≡◌, ℕ, suc, ◌+◌, ◌<◌, ◌≤◌, Bool, true, false, cond, ltb, List, [], ◌∷◌, length, get_or, drop, Some, None, Option, Ok, Err, Result, sym, refl, ap, ◌∙◌, subst, arith, ltb-false, ltb-true, le-ltb}
use Rattle.std.specs.List.{AllByRecursion}
use Rattle.std.specs.Result.{result_err, MatchResult}
use Rattle.std.proofs.lemmas.List.{drop_more}
use Rattle.batch.specs.Term.{most_terms}
use Rattle.batch.specs.declared.fault.RecordFault.{RecordFault}
use Rattle.batch.specs.declared.fault.BatchFault.{BatchFault}
use Rattle.batch.specs.declared.fault.BatchFault.TheVariants.{TooManyTerms, AtRecord}
use Rattle.limb_batch.specs.declared.record.LimbRecord.{LimbRecord}
use Rattle.limb_batch.specs.Opening.{record_fault, fault_at, first_fault, opening_fault, FirstFault, Told}

module _ (pool : List ℕ) (rs : List LimbRecord) (i : ℕ) (d : LimbRecord) (inside : i < length rs) (left : first_fault pool 0 rs ≡ first_fault pool i (drop i rs)) where
  first_by_next : first_fault pool 0 rs ≡ fault_at i (record_fault pool (get_or rs i d)) (first_fault pool (i + 1) (drop (i + 1) rs))
  first_by_next = left ∙ ap (first_fault pool i) (drop_more rs i d inside)

  -- no fault here
  pub first_further : None ≡ record_fault pool (get_or rs i d) → first_fault pool 0 rs ≡ first_fault pool (i + 1) (drop (i + 1) rs)
  first_further e = first_by_next ∙ ap (λ f. fault_at i f (first_fault pool (i + 1) (drop (i + 1) rs))) (sym e)

  -- a fault here, which is passed on with the place of its record
  pub first_here : (checked : Result (Unit {0}) RecordFault) (passed : Result (Unit {0}) BatchFault) → length rs ≤ most_terms → result_err checked ≡ record_fault pool (get_or rs i d)
      → MatchResult checked (λ u. ⊥) (λ f. passed ≡ Err (AtRecord i f)) → result_err passed ≡ opening_fault pool rs
  first_here (Ok u) passed few e m = absurd m
  first_here (Err f) passed few e m =
      ap result_err m ∙ (rw (le-ltb most_terms (length rs) few) (sym (first_by_next ∙ ap (λ f. fault_at i f (first_fault pool (i + 1) (drop (i + 1) rs))) (sym e))))

-- ---- what the outcome tells, with records counted from k on
abbrev ToldFrom : List ℕ → List LimbRecord → ℕ → Option BatchFault → Type 0
ToldFrom pool rs k None = AllByRecursion (λ r. record_fault pool r ≡ None) rs
ToldFrom pool rs k (Some TooManyTerms) = ⊥
ToldFrom pool rs k (Some (AtRecord i f)) = (j : ℕ) × (i ≡ k + j) × FirstFault pool rs j f

told_later : (pool : List ℕ) (r : LimbRecord) (rs : List LimbRecord) (k : ℕ) (o : Option BatchFault) → record_fault pool r ≡ None → ToldFrom pool rs (k + 1) o → ToldFrom pool (r ∷ rs) k o
told_later pool r rs k None e t = (e, t)
told_later pool r rs k (Some TooManyTerms) e t = t
told_later pool r rs k (Some (AtRecord i f)) e (j, at, t) =
    (suc j, omega arith, record { there = let l = t.there in omega arith; faulty = λ d. t.faulty d; first = (e, t.first) })

told_from : (pool : List ℕ) (rs : List LimbRecord) (k : ℕ) → ToldFrom pool rs k (first_fault pool k rs)
told_from pool [] k = tt
told_from pool (r ∷ rs) k = by_fault (told_from pool rs (k + 1)) (record_fault pool r) refl
  where
    by_fault : ToldFrom pool rs (k + 1) (first_fault pool (k + 1) rs) → (o : Option RecordFault) → record_fault pool r ≡ o → ToldFrom pool (r ∷ rs) k (fault_at k o (first_fault pool (k + 1) rs))
    by_fault rest None e = told_later pool r rs k (first_fault pool (k + 1) rs) e rest
    by_fault rest (Some f) e = (0, omega arith, record { there = omega arith; faulty = λ d. e; first = tt })

told_whole : (pool : List ℕ) (rs : List LimbRecord) (o : Option BatchFault) → length rs ≤ most_terms → ToldFrom pool rs 0 o → Told pool rs o
told_whole pool rs None h t = (h, t)
told_whole pool rs (Some TooManyTerms) h t = absurd t
told_whole pool rs (Some (AtRecord i f)) h (j, at, t) = (h, subst (λ (n : ℕ). FirstFault pool rs n f) (let e : j ≡ i = omega arith in e) t)

pub opening_told : (pool : List ℕ) (rs : List LimbRecord) → Told pool rs (opening_fault pool rs)
opening_told pool rs = by_length (ltb most_terms (length rs)) refl
  where
    by_length : (b : Bool) → ltb most_terms (length rs) ≡ b → Told pool rs (cond b (Some TooManyTerms) (first_fault pool 0 rs))
    by_length true e = ltb-true most_terms (length rs) e
    by_length false e = told_whole pool rs (first_fault pool 0 rs) (ltb-false most_terms (length rs) e) (told_from pool rs 0)
