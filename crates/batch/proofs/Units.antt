-- How many whole units of a weight a number has, when it is written with other digits or moved with the weight.
use Rattle.std.proofs.Common.{◌≡◌, ℕ, ◌+◌, ◌-◌, ◌*◌, ◌/◌, ◌^◌, ℤ, pos, ◌-ℤ◌, ◌≤ℤ◌, sym, ap, ◌∙◌, ap₂, mul_assoc, arith, pow_pos, pow-add}
use native.Mathlib.Nat.{mul-div-mul_right}
use borrow.Author.Differences.{ints}
use Rattle.exact.specs.Integers.{gap, lesser}
use Rattle.batch.specs.Term.{whole_units}

-- at any weight below both
pub units_at : (m : ℕ) (q w z : ℤ) → z ≤ℤ q → z ≤ℤ w → whole_units m q w ≡ m * 2 ^ gap q z / 2 ^ gap w z
units_at m q w z h g =
    let j = gap q z - gap q w in
    let a : gap q z ≡ gap q w + j = omega (arith, ints) in
    let b : gap w z ≡ gap w q + j = omega (arith, ints) in
    rw (a, b, pow-add 2 (gap q w) j, pow-add 2 (gap w q) j, ← mul_assoc m (2 ^ gap q w) (2 ^ j)) (sym (mul-div-mul_right (m * 2 ^ gap q w) (2 ^ gap w q) (pow_pos j)))

-- with d more digits 0
pub units_finer : (m d : ℕ) (q w : ℤ) → whole_units (m * 2 ^ d) (q -ℤ pos d) w ≡ whole_units m q w
units_finer m d q w =
    let z = lesser (q -ℤ pos d) w in
    let e : gap q z ≡ d + gap (q -ℤ pos d) z = omega (arith, ints) in
    let p : m * 2 ^ d * 2 ^ gap (q -ℤ pos d) z ≡ m * 2 ^ gap q z = mul_assoc m (2 ^ d) (2 ^ gap (q -ℤ pos d) z) ∙ ap (λ n. m * n) (sym (pow-add 2 d (gap (q -ℤ pos d) z)) ∙ ap (λ n. 2 ^ n) (sym e)) in
    units_at (m * 2 ^ d) (q -ℤ pos d) w z (omega (arith, ints)) (omega (arith, ints))
    ∙ ap (λ n. n / 2 ^ gap w z) p
    ∙ sym (units_at m q w z (omega (arith, ints)) (omega (arith, ints)))

-- counted from the weight of the last digit
pub units_moved : (m : ℕ) (q w o : ℤ) → o ≡ w -ℤ q → whole_units m (pos 0) o ≡ whole_units m q w
units_moved m q w o e =
    let a : gap (pos 0) o ≡ gap q w = omega (arith, ints) in
    let b : gap o (pos 0) ≡ gap w q = omega (arith, ints) in
    ap₂ (λ (x y : ℕ). m * 2 ^ x / 2 ^ y) a b
