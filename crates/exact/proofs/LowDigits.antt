-- The lowest 32 digits of a number times or divided by a power of two, and its length then.
use Rattle.std.proofs.Common.{◌≡◌, ℕ, suc, ◌+◌, ◌-◌, ◌*◌, ◌/◌, ◌%◌, ◌^◌, ◌<◌, ◌≤◌, sym, ap, ◌∙◌, lt_of_lt_of_le, mul_assoc, arith, pow_pos, pow_mono, pow-add}
use native.Mathlib.Nat.{div-eq_of_lt}
use lib.Ieee.{size}
use lib.Ieee.Digits.{size-lt, size_reaches}
use Rattle.std.proofs.lemmas.Nat.{le-div, shr_below}
use Rattle.exact.proofs.BitLength.{size_is}

pub raised_away : (n u : ℕ) → 32 ≤ u → 0 ≡ n * 2 ^ u % 2 ^ 32
raised_away n u h =
    let d : u ≡ (u - 32) + 32 = omega arith in
    let e : n * 2 ^ u ≡ n * 2 ^ (u - 32) * 2 ^ 32 = ap (λ x. n * 2 ^ x) d ∙ ap (λ x. n * x) (pow-add 2 (u - 32) 32) ∙ sym (mul_assoc n (2 ^ (u - 32)) (2 ^ 32)) in
    omega arith

pub lowered_away : (n o : ℕ) → n < 2 ^ 64 → 64 ≤ o → 0 ≡ n / 2 ^ o % 2 ^ 32
lowered_away n o h k = sym (ap (λ x. x % 2 ^ 32) (div-eq_of_lt (lt_of_lt_of_le h (pow_mono k))))

-- without its lowest s digits a number is as much shorter
pub size_lowered : (n s p : ℕ) → size n ≡ p + s → 0 < p → size (n / 2 ^ s) ≡ p
size_lowered n s p e h =
    let f : suc (p - 1) ≡ p = omega arith in
    let lo : 2 ^ (p - 1) * 2 ^ s ≤ n = rw (← pow-add 2 (p - 1) s) (size_reaches n ((p - 1) + s) (omega arith)) in
    let hi : n < 2 ^ (p + s) = rw (← e) (size-lt n) in
    size_is (n / 2 ^ s) (p - 1) (le-div (2 ^ (p - 1)) n (2 ^ s) (pow_pos s) lo) (rw f (shr_below n p s hi)) ∙ f
