-- 5/2 has no digit above column 0, and none below column -1.
use Rattle.std.proofs.Common.{◌≡◌, ℕ, zero, suc, ◌*◌, ◌/◌, ◌%◌, ◌^◌, ◌<◌, ◌≤◌, false, ℤ, pos, negsuc, sym, refl, ap, ◌∙◌, lt_of_lt_of_le, div-one, arith, pow_mono}
use native.Mathlib.Nat.{div-eq_of_lt}
use borrow.Author.Differences.{ints}
use Rattle.exact.specs.Integers.{gap}
use Rattle.exact.proofs.LowDigits.{raised_away}
use Rattle.batch.specs.Term.{regular, digit_at, column_weight}

above : (n : ℕ) → 0 ≡ digit_at (pos (suc n)) (regular false 5 (negsuc 0))
above n =
    let w = column_weight (pos (suc n)) in
    let none : gap (negsuc 0) w ≡ 0 = omega (arith, ints) in
    let few : 5 < 2 ^ 3 = omega arith in
    let far : 3 ≤ gap w (negsuc 0) = omega (arith, ints) in
    let small : 5 < 2 ^ gap w (negsuc 0) = lt_of_lt_of_le few (pow_mono far) in
    sym (ap (λ (x : ℕ). x % 2 ^ 32) (div-eq_of_lt small)) ∙ ap (λ (x : ℕ). 5 * 2 ^ x / 2 ^ gap w (negsuc 0) % 2 ^ 32) (sym none)

below : (n : ℕ) → 0 ≡ digit_at (negsuc (suc n)) (regular false 5 (negsuc 0))
below n =
    let w = column_weight (negsuc (suc n)) in
    let none : gap w (negsuc 0) ≡ 0 = omega (arith, ints) in
    raised_away 5 (gap (negsuc 0) w) (omega (arith, ints))
    ∙ ap (λ (x : ℕ). x % 2 ^ 32) (sym (div-one (5 * 2 ^ gap (negsuc 0) w)))
    ∙ ap (λ (x : ℕ). 5 * 2 ^ gap (negsuc 0) w / 2 ^ x % 2 ^ 32) (sym none)

pub no_other_digit : (k : ℤ) → (k ≡ pos 0 → ⊥) → (k ≡ negsuc 0 → ⊥) → 0 ≡ digit_at k (regular false 5 (negsuc 0))
no_other_digit (pos zero) h g = absurd (h refl)
no_other_digit (pos (suc n)) h g = above n
no_other_digit (negsuc zero) h g = absurd (g refl)
no_other_digit (negsuc (suc n)) h g = below n
