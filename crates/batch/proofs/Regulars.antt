-- The regular terms, told and counted by their kinds.
use Rattle.std.proofs.Common.{◌≡◌, ℕ, ◌+◌, ◌<◌, Bool, true, false, cond, List, [], ◌∷◌, length, map, get_or, sym, refl, ap, ◌∙◌}
use Rattle.std.specs.List.{count_by, fold, range_with_len}
use Rattle.std.proofs.lemmas.List.{get_or-map, length-map}
use Rattle.std.proofs.lemmas.List.Folds.{fold-map}
use Rattle.std.proofs.lemmas.List.FromFn.{fill_by_all}
use Rattle.batch.specs.Term.{Term, not_a_number, infinite, signed_zero, regular, is_regular, regular_terms}
use Rattle.batch.specs.TermKinds.{kind_of, kind_is_regular}
use Rattle.batch.specs.Lookup.{kind_of_term}
use Rattle.batch.specs.declared.kind.Kind.{Kind}
use Rattle.batch.specs.declared.kind.Kind.TheVariants.{Absent}

pub regular_by_kind : (t : Term) → is_regular t ≡ kind_is_regular (kind_of t)
regular_by_kind not_a_number = refl
regular_by_kind (infinite true) = refl
regular_by_kind (infinite false) = refl
regular_by_kind (signed_zero true) = refl
regular_by_kind (signed_zero false) = refl
regular_by_kind (regular true m q) = refl
regular_by_kind (regular false m q) = refl

-- whether term i is regular is told by its kind
pub regular_at : (ts : List Term) (i : ℕ) (k : Kind) (b : Bool) → i < length ts → k ≡ kind_of_term ts i → b ≡ kind_is_regular k → is_regular (get_or ts i not_a_number) ≡ b
regular_at ts i k b h e f =
    regular_by_kind (get_or ts i not_a_number) ∙ ap kind_is_regular (sym (get_or-map kind_of ts i not_a_number Absent h)) ∙ ap kind_is_regular (sym e) ∙ sym f

-- a count of the kinds is a count of the terms
counted_by_kind : (n : ℕ) (ts : List Term) → fold (λ a k. a + cond (kind_is_regular k) 1 0) n (map kind_of ts) ≡ fold (λ a t. a + cond (is_regular t) 1 0) n ts
counted_by_kind n [] = refl
counted_by_kind n (t ∷ ts) = ap (λ b. fold (λ a k. a + cond (kind_is_regular k) 1 0) (n + cond b 1 0) (map kind_of ts)) (sym (regular_by_kind t)) ∙ counted_by_kind (n + cond (is_regular t) 1 0) ts

-- the kinds of all the terms, asked one by one
kinds_asked : (ts : List Term) → map kind_of ts ≡ map (kind_of_term ts) (range_with_len 0 (length ts))
kinds_asked ts = fill_by_all (kind_of_term ts) (map kind_of ts) (length ts) Absent (length-map ts kind_of) (λ k h. refl)

pub regulars_asked : (ts : List Term) → count_by (λ i. kind_is_regular (kind_of_term ts i)) (range_with_len 0 (length ts)) ≡ regular_terms ts
regulars_asked ts = sym (fold-map (λ a k. a + cond (kind_is_regular k) 1 0) (kind_of_term ts) 0 (range_with_len 0 (length ts))) ∙ ap (count_by kind_is_regular) (sym (kinds_asked ts)) ∙ counted_by_kind 0 ts
