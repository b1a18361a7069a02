-- A run of the bits of a number, 32 at each place.
use Rattle.std.proofs.Common.{◌≡◌, ℕ, ◌+◌, ◌-◌, ◌*◌, ◌/◌, ◌%◌, ◌^◌, ◌<◌, ◌≤◌, ◌⊎◌, List, ◌++◌, length, get_or, set, ℤ, pos, ◌-ℤ◌, ◌≤ℤ◌, sym, ap, ap₂, ◌∙◌, inl, inr, lt_of_lt_of_le, div-one, arith, pow_mono}
use native.Mathlib.Nat.{div-eq_of_lt}
use borrow.Author.Differences.{ints}
use Rattle.std.proofs.lemmas.List.{get_or-set_other, get_or_append_left, get_or-append-add}
use Rattle.std.proofs.lemmas.Grind.{get_or-set_at}
use Rattle.std.proofs.lemmas.Bool.{cases_lt}
use Rattle.exact.specs.Integers.{gap}
use Rattle.exact.specs.Limbs.{limbs_value}
use Rattle.exact.proofs.LimbBits.{SmallLimbs, bits_in_two_limbs}
use Rattle.exact.proofs.LowDigits.{raised_away}
use Rattle.limbs.specs.Bits.{bits_at_weight}
use Rattle.limbs.proofs.WrittenBits.{limbs_below}

-- ---- the bits from a weight on
pub from_bit : (n k : ℕ) (w : ℤ) → w ≡ pos k → n / 2 ^ k % 2 ^ 32 ≡ bits_at_weight n w
from_bit n k w e =
    let up : 0 ≡ gap (pos 0) w = omega (arith, ints) in
    let down : k ≡ gap w (pos 0) = omega (arith, ints) in
    let whole : n ≡ n * 2 ^ 0 = omega arith in
    ap (λ (x : ℕ). x / 2 ^ k % 2 ^ 32) whole ∙ ap₂ (λ (x y : ℕ). n * 2 ^ x / 2 ^ y % 2 ^ 32) up down

pub none_below : (n : ℕ) (w : ℤ) → w ≤ℤ (pos 0 -ℤ pos 32) → 0 ≡ bits_at_weight n w
none_below n w h =
    let none : gap w (pos 0) ≡ 0 = omega (arith, ints) in
    raised_away n (gap (pos 0) w) (omega (arith, ints)) ∙ ap (λ (x : ℕ). x % 2 ^ 32) (sym (div-one (n * 2 ^ gap (pos 0) w))) ∙ ap (λ (x : ℕ). n * 2 ^ gap (pos 0) w / 2 ^ x % 2 ^ 32) (sym none)

pub none_above : (xs : List ℕ) (k : ℕ) (w : ℤ) → SmallLimbs xs → 32 * length xs ≤ k → w ≡ pos k → 0 ≡ bits_at_weight (limbs_value xs) w
none_above xs k w f h e =
    sym (ap (λ (x : ℕ). x % 2 ^ 32) (div-eq_of_lt (lt_of_lt_of_le (limbs_below xs f) (pow_mono h)))) ∙ from_bit (limbs_value xs) k w e

-- they lie in two limbs
pub in_two_limbs : (xs : List ℕ) (p s high : ℕ) → SmallLimbs xs → s < 32 → high ≡ get_or xs (p + 1) 0
    → (high * 2 ^ 32 + get_or xs p 0) / 2 ^ s % 2 ^ 32 ≡ limbs_value xs / 2 ^ (32 * p + s) % 2 ^ 32
in_two_limbs xs p s high f h e =
    let place : p ≡ (32 * p + s) / 32 = omega arith in
    let shift : s ≡ (32 * p + s) % 32 = omega arith in
    ap (λ (x : ℕ). (x * 2 ^ 32 + get_or xs p 0) / 2 ^ s % 2 ^ 32) e
    ∙ ap₂ (λ (x y : ℕ). (get_or xs (x + 1) 0 * 2 ^ 32 + get_or xs x 0) / 2 ^ y % 2 ^ 32) place shift
    ∙ sym (bits_in_two_limbs xs (32 * p + s) f)

-- ---- a list of which each place is known: one place more, and two parts
module _ (at : ℕ → ℕ) where
  pub known_more : (run : List ℕ) (j v : ℕ) → j < length run → v ≡ at j → ((k : ℕ) → k < j → get_or run k 0 ≡ at k) → (k : ℕ) → k < j + 1 → get_or (set run j v) k 0 ≡ at k
  known_more run j v h e known k l = by_place (cases_lt k j)
    where
      by_place : (k < j) ⊎ (j ≤ k) → get_or (set run j v) k 0 ≡ at k
      by_place (inl m) = get_or-set_other run j k v 0 (λ s. absurd (omega arith)) ∙ known k m
      by_place (inr m) = let same : k ≡ j = omega arith in get_or-set_at run j k v 0 same h ∙ e ∙ ap at (sym same)

  pub known_parts : (xs ys : List ℕ) → ((k : ℕ) → k < length xs → get_or xs k 0 ≡ at k) → ((k : ℕ) → k < length ys → get_or ys k 0 ≡ at (length xs + k)) → (k : ℕ) → k < length xs + length ys → get_or (xs ++ ys) k 0 ≡ at k
  known_parts xs ys front back k l = by_place (cases_lt k (length xs))
    where
      by_place : (k < length xs) ⊎ (length xs ≤ k) → get_or (xs ++ ys) k 0 ≡ at k
      by_place (inl h) = get_or_append_left xs ys 0 k h ∙ front k h
      by_place (inr h) =
          let same : length xs + (k - length xs) ≡ k = omega arith in
          ap (λ i. get_or (xs ++ ys) i 0) (sym same) ∙ get_or-append-add xs ys (k - length xs) 0 ∙ back (k - length xs) (omega arith) ∙ ap at same
