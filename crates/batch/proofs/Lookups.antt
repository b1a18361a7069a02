-- What a batch answers of a term, by its kind.
use Rattle.std.proofs.Common.{◌≡◌, ℕ, ◌<◌, ◌≤◌, Bool, true, false, ◌⊎◌, List, map, length, get_or, ℤ, pos, sym, refl, ap, ◌∙◌, inl, inr}
use borrow.Author.Tests.{clash}
use Rattle.std.proofs.lemmas.List.{get_or-map, get_or_past, length-map}
use Rattle.std.proofs.lemmas.Bool.{cases_lt}
use Rattle.batch.specs.Term.{Term, not_a_number, infinite, signed_zero, regular, is_regular, low_weight, top_weight, digit_at}
use Rattle.batch.specs.TermKinds.{kind_of, kind_is_regular}
use Rattle.batch.specs.Lookup.{kind_of_term}
use Rattle.batch.specs.declared.kind.Kind.TheVariants.{Absent}
use Rattle.batch.proofs.Regulars.{regular_at}

-- past the end a lookup gives the default
pub past : {X Y : Type 0} (F : X → Y) (y : Y) (xs : List X) (i : ℕ) → length xs ≤ i → get_or (map F xs) i y ≡ y
past F y xs i h = get_or_past (map F xs) i y (rw length-map h)

-- a term of a regular kind is there
pub regular_inside : (ts : List Term) (i : ℕ) (b : Bool) → b ≡ kind_is_regular (kind_of_term ts i) → b ≡ true → i < length ts
regular_inside ts i b e r = by_place (cases_lt i (length ts))
  where
    by_place : (i < length ts) ⊎ (length ts ≤ i) → i < length ts
    by_place (inl h) = h
    by_place (inr h) = absurd (clash (sym (sym r ∙ e ∙ ap kind_is_regular (past kind_of Absent ts i h))))

-- a lookup that is y at each term that is not regular is y where the kind is not regular
pub irregular_lookup : {Y : Type 0} (F : Term → Y) (y : Y) → ((t : Term) → is_regular t ≡ false → F t ≡ y) → (ts : List Term) (i : ℕ) (b : Bool) → b ≡ kind_is_regular (kind_of_term ts i) → b ≡ false → y ≡ get_or (map F ts) i y
irregular_lookup F y none ts i b e r = by_place (cases_lt i (length ts))
  where
    by_place : (i < length ts) ⊎ (length ts ≤ i) → y ≡ get_or (map F ts) i y
    by_place (inl h) = sym (get_or-map F ts i not_a_number y h ∙ none (get_or ts i not_a_number) (regular_at ts i (kind_of_term ts i) b h refl e ∙ r))
    by_place (inr h) = sym (past F y ts i h)

pub top_none : (t : Term) → is_regular t ≡ false → top_weight t ≡ pos 0
top_none not_a_number h = refl
top_none (infinite s) h = refl
top_none (signed_zero s) h = refl
top_none (regular s m q) h = absurd (clash (sym h))

pub low_none : (t : Term) → is_regular t ≡ false → low_weight t ≡ pos 0
low_none not_a_number h = refl
low_none (infinite s) h = refl
low_none (signed_zero s) h = refl
low_none (regular s m q) h = absurd (clash (sym h))

pub digit_none : (k : ℤ) (t : Term) → is_regular t ≡ false → digit_at k t ≡ 0
digit_none k not_a_number h = refl
digit_none k (infinite s) h = refl
digit_none k (signed_zero s) h = refl
digit_none k (regular s m q) h = absurd (clash (sym h))
