-- The next occupied column below a given one, and the first of all.
use Rattle.std.proofs.Common.{◌≡◌, ◌⊎◌, List, [], ◌∷◌, map, ℤ, ◌<ℤ◌, Some, None, Option, subst, arith}
use borrow.Author.Differences.{ints}
use Rattle.std.specs.Int.{int_max}
use Rattle.std.specs.List.{AllByRecursion, filter_map, cons_option, fold, reduce}
use Rattle.std.proofs.lemmas.Int.{clamps}
use Rattle.column.specs.Parts.{Part}
use Rattle.column.specs.Columns.{Occupies, Occupied, columns, Falling, Listed}
use Rattle.column.specs.Edges.{picked}
use Rattle.column.specs.Walk.{first_column, first_below, Highest, higher}
use Rattle.column.proofs.Listing.{columns_fall, columns_occupied, occupied_columns}
use Rattle.column.proofs.Chain.{in_below}

-- ---- the highest of two sorts of columns
module _ (b : ℤ) where
  pub highest_either : (P Q : ℤ → Type 0) (r s : Option ℤ) → Highest b P r → Highest b Q s → Highest b (λ k. P k ⊎ Q k) (higher r s)
  highest_either P Q r s h g = grind (arith, ints, clamps)

  -- there is but one highest
  pub highest_unique : (P : ℤ → Type 0) (r s : Option ℤ) → Highest b P r → Highest b P s → r ≡ s
  highest_unique P r s h g = grind (arith, ints)

  -- the first of a falling list below the limit
  pub highest_listed : (cs : List ℤ) → Falling cs → Highest b (Listed cs) (first_below b cs)
  highest_listed [] f = λ k i l. i
  highest_listed (c ∷ cs) (a, f) = grind (arith, ints, in_below c cs, highest_listed cs f)

  pub first_below_is : (ps : List Part) (r : Option ℤ) → Highest b (Occupied ps) r → r ≡ first_below b (columns ps)
  first_below_is ps r h = grind (arith, ints, highest_unique, columns_occupied, occupied_columns, highest_listed (columns ps) (columns_fall ps))

-- where all lie below the limit, the first below it is the first
pub first_is : (b : ℤ) (cs : List ℤ) → AllByRecursion (λ c. c <ℤ b) cs → first_below b cs ≡ first_column cs
first_is b cs h = grind (arith, ints)

-- ---- the greatest of the columns that some terms have, part after part
picked_is : (p z : ℤ) → int_max p z ≡ picked p z
picked_is p z = grind (arith, ints)

module _ {X : Type 0} (b : ℤ) (part_at : X → Part) (h : X → Option ℤ) where
  -- each has its own
  abbrev pub Each : List X → Type 0
  Each xs = AllByRecursion (λ x. Highest b (Occupies (part_at x)) (h x)) xs

  -- the greatest of a list of columns, from one on
  abbrev from : ℤ → List X → Option ℤ
  from a xs = Some (fold picked a (filter_map h xs))

  abbrev Or : (ℤ → Type 0) → List X → ℤ → Type 0
  Or P xs k = P k ⊎ Occupied (map part_at xs) k

  greatest_more : (P : ℤ → Type 0) (a : ℤ) (x : X) (xs : List X) → Highest b P (Some a) → ((Q : ℤ → Type 0) (c : ℤ) → Highest b Q (Some c) → Highest b (Or Q xs) (from c xs))
      → (r : Option ℤ) → Highest b (Occupies (part_at x)) r → Highest b (Or P (x ∷ xs)) (Some (fold picked a (cons_option r (filter_map h xs))))
  greatest_more P a x xs m further None n = grind (arith, ints, further P a m)
  greatest_more P a x xs m further (Some c) n =
      let both = λ (k : ℤ). P k ⊎ Occupies (part_at x) k in
      let two : Highest b both (Some (picked a c)) = subst (λ (z : ℤ). Highest b both (Some z)) (picked_is a c) (highest_either b P (Occupies (part_at x)) (Some a) (Some c) m n) in
      grind (arith, ints, further both (picked a c) two)

  greatest_from : (xs : List X) → Each xs → (P : ℤ → Type 0) (a : ℤ) → Highest b P (Some a) → Highest b (Or P xs) (from a xs)
  greatest_from [] each P a m = grind (arith, ints)
  greatest_from (x ∷ xs) (e, es) P a m = greatest_more P a x xs m (greatest_from xs es) (h x) e

  greatest_first : (x : X) (xs : List X) → Each xs → Highest b (Occupied (map part_at xs)) (reduce picked (filter_map h xs)) → (r : Option ℤ) → Highest b (Occupies (part_at x)) r
      → Highest b (Or (Occupies (part_at x)) xs) (reduce picked (cons_option r (filter_map h xs)))
  greatest_first x xs each rest None n = grind (arith, ints)
  greatest_first x xs each rest (Some c) n = greatest_from xs each (Occupies (part_at x)) c n

  pub greatest_of_all : (xs : List X) → Each xs → Highest b (Occupied (map part_at xs)) (reduce picked (filter_map h xs))
  greatest_of_all [] each = λ k o l. o
  greatest_of_all (x ∷ xs) (e, es) = greatest_first x xs es (greatest_of_all xs es) (h x) e
