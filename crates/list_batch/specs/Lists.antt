-- A list of records, each of which means the same number of terms, as one list of terms.
use Rattle.std.specs.Prelude.{◌≡◌, ℕ, ◌/◌, ◌%◌, ◌<◌, ◌≤◌, cond, List, [], ◌∷◌, ◌++◌, length, take, Some, None, Option, nat_lt, slice_index_or}
use Rattle.std.specs.List.{AllByRecursion, slice_get}
use Rattle.batch.specs.Term.{Term, Limited, most_terms}
use Rattle.batch.specs.declared.fault.BatchFault.{BatchFault}
use Rattle.batch.specs.declared.fault.BatchFault.TheVariants.{TooManyTerms}

-- the laws of records that mean so many terms each
pub record LawfulRecord {X : Type 0} (width : ℕ) (parts : X → List Term) : Type 0 where
  pub some : 1 ≤ width
  pub few : width ≤ 2
  pub even : (x : X) → length (parts x) ≡ width
  pub each_limited : (x : X) → AllByRecursion Limited (parts x)

-- the terms of the records, one record after the other
abbrev pub flat : {X : Type 0} → (X → List Term) → List X → List Term
flat parts [] = []
flat parts (x ∷ xs) = parts x ++ flat parts xs

-- the first 1,024 terms of the records
abbrev pub list_terms : {X : Type 0} → (X → List Term) → List X → List Term
list_terms parts xs = take most_terms (flat parts xs)

-- so many terms are refused unless they are at most 1,024
abbrev pub list_fault : ℕ → Option BatchFault
list_fault n = cond (nat_lt most_terms n) (Some TooManyTerms) None

-- of terms ts: term i is part i % width of record i / width, and there is none where there is no such record
pub record PartsInOrder {X : Type 0} (width : ℕ) (parts : X → List Term) (xs : List X) (ts : List Term) : Type 0 where
  pub here : (i : ℕ) (d : X) → i / width < length xs → slice_get ts i ≡ slice_get (parts (slice_index_or xs (i / width) d)) (i % width)
  pub past : (i : ℕ) → length xs ≤ i / width → slice_get ts i ≡ None
