-- A run of the digits of one term: no term reaches down to a column that no i32 names, and one place more is known.
use Rattle.std.proofs.Common.{◌≡◌, ℕ, ◌+◌, ◌*◌, ◌/◌, ◌%◌, ◌^◌, ◌<◌, ◌≤◌, ◌⊎◌, List, length, get_or, set, ℤ, pos, neg_ℤ, ◌<ℤ◌, sym, refl, ap, ◌∙◌, inl, inr, div-one, arith}
use borrow.Author.Differences.{ints}
use Rattle.std.proofs.lemmas.List.{get_or-map, get_or-set_other}
use Rattle.std.proofs.lemmas.Grind.{get_or-set_at}
use Rattle.std.proofs.lemmas.Bool.{cases_lt}
use Rattle.std.proofs.ByRecursion.{All-get_or}
use Rattle.exact.specs.Integers.{gap}
use Rattle.exact.proofs.LowDigits.{raised_away}
use Rattle.batch.specs.Term.{Term, not_a_number, infinite, signed_zero, regular, Limited, Batchable, digit_at, column_weight}
use Rattle.batch.specs.Lookup.{digit_of_term}
use Rattle.batch.proofs.Lookups.{past}

none_at : (k : ℤ) (t : Term) → k <ℤ neg_ℤ (pos 2147483648) → Limited t → 0 ≡ digit_at k t
none_at k not_a_number h l = refl
none_at k (infinite s) h l = refl
none_at k (signed_zero s) h l = refl
none_at k (regular s m q) h l =
    let w = column_weight k in
    let none : gap w q ≡ 0 = omega (arith, ints, l.few_digits, l.not_below) in
    raised_away m (gap q w) (omega (arith, ints, l.few_digits, l.not_below))
    ∙ ap (λ (x : ℕ). x % 2 ^ 32) (sym (div-one (m * 2 ^ gap q w)))
    ∙ ap (λ (x : ℕ). m * 2 ^ gap q w / 2 ^ x % 2 ^ 32) (sym none)

pub none_far_below : (ts : List Term) → Batchable ts → (i : ℕ) (k : ℤ) → k <ℤ neg_ℤ (pos 2147483648) → 0 ≡ digit_of_term ts i k
none_far_below ts b i k h = by_place (cases_lt i (length ts))
  where
    by_place : (i < length ts) ⊎ (length ts ≤ i) → 0 ≡ digit_of_term ts i k
    by_place (inl l) = none_at k (get_or ts i not_a_number) h (All-get_or Limited ts i not_a_number l b.each_limited) ∙ sym (get_or-map (digit_at k) ts i not_a_number 0 l)
    by_place (inr l) = sym (past (digit_at k) 0 ts i l)

-- a list of which each place is known: one place more
pub known_more : (at : ℕ → ℕ) (xs : List ℕ) (j v : ℕ) → j < length xs → v ≡ at j → ((k : ℕ) → k < j → get_or xs k 0 ≡ at k) → (k : ℕ) → k < j + 1 → get_or (set xs j v) k 0 ≡ at k
known_more at xs j v h e known k l = by_place (cases_lt k j)
  where
    by_place : (k < j) ⊎ (j ≤ k) → get_or (set xs j v) k 0 ≡ at k
    by_place (inl m) = get_or-set_other xs j k v 0 (λ s. absurd (omega arith)) ∙ known k m
    by_place (inr m) = let same : k ≡ j = omega arith in get_or-set_at xs j k v 0 same h ∙ e ∙ ap at (sym same)
