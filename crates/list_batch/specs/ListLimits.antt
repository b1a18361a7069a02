-- The terms of lawful records can be a batch.
use Rattle.std.specs.Prelude.{◌≡◌, ℕ, ◌*◌, ◌≤◌, List, [], ◌∷◌, length}
use Rattle.std.proofs.Common.{◌∙◌, arith, suc-mul, length-append}
use Rattle.std.specs.List.{AllByRecursion}
use Rattle.std.proofs.lemmas.List.{length-take}
use Rattle.std.proofs.ByRecursion.{All-append, All-take}
use Rattle.batch.specs.Term.{Term, Limited, Batchable, most_terms}
use Rattle.list_batch.specs.Lists.{LawfulRecord, flat, list_terms}

module _ {X : Type 0} {width : ℕ} {parts : X → List Term} (laws : LawfulRecord width parts) where
  pub length_flat : (xs : List X) → length (flat parts xs) ≡ length xs * width
  length_flat [] = omega arith
  length_flat (x ∷ xs) =
      length-append (parts x) (flat parts xs) ∙ (let a = laws.even x in let b = length_flat xs in let c = suc-mul (length xs) width in omega arith)

  limited_flat : (xs : List X) → AllByRecursion Limited (flat parts xs)
  limited_flat [] = tt
  limited_flat (x ∷ xs) = All-append Limited (parts x) (flat parts xs) (laws.each_limited x) (limited_flat xs)

  -- where they are few enough, all of them
  pub flat_batchable : (xs : List X) → length (flat parts xs) ≤ most_terms → Batchable (flat parts xs)
  flat_batchable xs few = record { few = few; each_limited = limited_flat xs }

  -- of any records, the first 1,024
  pub list_batchable : (xs : List X) → Batchable (list_terms parts xs)
  list_batchable xs = record { few = rw length-take (omega arith); each_limited = All-take Limited most_terms (flat parts xs) (limited_flat xs) }
