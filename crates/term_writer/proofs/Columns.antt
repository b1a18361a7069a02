-- The bits of a number from a weight on, found in two columns.
use Rattle.std.proofs.Common.{◌≡◌, ℕ, ◌+◌, ◌-◌, ◌*◌, ◌/◌, ◌%◌, ◌^◌, ◌<◌, ℤ, pos, negsuc, ◌+ℤ◌, sym, refl, ap, ◌∙◌, arith}
use Rattle.std.proofs.lemmas.Int.{ints}
use Rattle.std.specs.Int.{int_div_euclid, int_rem_euclid}
use lib.Pow.{shr-shr}
use Rattle.exact.specs.Integers.{gap, lesser}
use Rattle.exact.proofs.Shifts.{bits_of_low}
use Rattle.batch.specs.Term.{whole_units, column_weight}
use Rattle.batch.proofs.Units.{units_at}

-- from a weight d higher
pub units_higher : (m d : ℕ) (q w : ℤ) → whole_units m q (w +ℤ pos d) ≡ whole_units m q w / 2 ^ d
units_higher m d q w =
    let z = lesser q w in
    let e : gap (w +ℤ pos d) z ≡ gap w z + d = omega (arith, ints) in
    units_at m q (w +ℤ pos d) z (omega (arith, ints)) (omega (arith, ints))
    ∙ ap (λ k. m * 2 ^ gap q z / 2 ^ k) e
    ∙ sym (shr-shr (m * 2 ^ gap q z) (gap w z) d)
    ∙ ap (λ n. n / 2 ^ d) (sym (units_at m q w z (omega (arith, ints)) (omega (arith, ints))))

-- a weight lies s bits above the lowest of its column
pub weight_in_column : (w : ℤ) → (s : ℕ) × (int_rem_euclid w (pos 32) ≡ pos s) × (s < 32) × (w ≡ column_weight (int_div_euclid w (pos 32)) +ℤ pos s)
weight_in_column (pos a) = (a % 32, refl, omega arith, omega (arith, ints))
weight_in_column (negsuc a) = (32 - 1 - a % 32, refl, omega arith, omega (arith, ints))

-- the 32 bits from s bits above the lowest of column k
pub bits_in_columns : (m s : ℕ) (q k w : ℤ) → s < 32 → w ≡ column_weight k +ℤ pos s
    → whole_units m q w % 4294967296 ≡ (whole_units m q (column_weight (k +ℤ pos 1)) % 4294967296 * 4294967296 + whole_units m q (column_weight k) % 4294967296) / 2 ^ s % 4294967296
bits_in_columns m s q k w h e =
    let u = whole_units m q (column_weight k) in
    let next : column_weight (k +ℤ pos 1) ≡ column_weight k +ℤ pos 32 = omega (arith, ints) in
    let above = ap (whole_units m q) next ∙ units_higher m 32 q (column_weight k) in
    let low = whole_units m q (column_weight (k +ℤ pos 1)) % 4294967296 * 4294967296 + u % 4294967296 in
    let split : u ≡ low + u / 4294967296 / 4294967296 * 18446744073709551616 = omega (arith, above) in
    ap (λ y. whole_units m q y % 4294967296) e
    ∙ ap (λ n. n % 4294967296) (units_higher m s q (column_weight k))
    ∙ ap (λ n. n / 2 ^ s % 4294967296) split
    ∙ bits_of_low low (u / 4294967296 / 4294967296) s h
