-- The bits kept of a number, the bit below them and whether anything else is below decide what the kept bits round to.
use Rattle.std.proofs.Common.{◌≡◌, ℕ, zero, suc, ◌+◌, ◌*◌, ◌/◌, ◌%◌, ◌^◌, ◌<◌, Bool, true, false, cond, eqb, ltb, ap, ◌∙◌, mod-lt, mul_comm, pow-suc, arith, pow_pos, pow-add}
use borrow.Author.Differences.{ints}
use Prim.Native.Nat.{compare}
use native.Mathlib.Nat.{div-eq_of_lt-le}
use lib.Ieee.{nearest}
use Rattle.std.proofs.lemmas.Nat.{div-mul-add, mod-mul-add}
use Rattle.std.proofs.lemmas.Bool.{lt-ltb}
use Rattle.exact.proofs.Parts.{parts_below, parts_some, split_below_bit}
use Rattle.grid.specs.Rounding.{Way, near, cut, away, whole}
use Rattle.limbs.specs.Bits.{bit, bit_of, any_below}
use Rattle.ends.specs.Ends.{raised}

-- of Q * 2E + b * E + R with R below E
nearest_by_parts : (Q R E : ℕ) (b : Bool) → R < E → nearest Q (compare ((bit b * E + R) * 2) (2 * E)) ≡ Q + bit (raised near (eqb (Q % 2) 1) b (ltb 0 R))
nearest_by_parts Q R E b h = grind (arith, ints)

whole_by_parts : (w : Way) (Q R E : ℕ) (b : Bool) → R < E → whole w (Q * (2 * E) + (bit b * E + R)) (2 * E) ≡ Q + bit (raised w (eqb (Q % 2) 1) b (ltb 0 R))
whole_by_parts near Q R E b h = grind (arith, div-mul-add Q (2 * E) (bit b * E + R), mod-mul-add Q (2 * E) (bit b * E + R), nearest_by_parts Q R E b)
whole_by_parts cut Q R E b h = grind (arith, div-mul-add Q (2 * E) (bit b * E + R))
whole_by_parts away Q R E true h = div-eq_of_lt-le {k = Q + 1} (2 * E) (omega arith) (omega arith)
whole_by_parts away Q zero E false h = div-eq_of_lt-le {k = Q + 0} (2 * E) (omega arith) (omega arith)
whole_by_parts away Q (suc R) E false h = rw (lt-ltb 0 (suc R) (omega arith)) (div-eq_of_lt-le {k = Q + 1} (2 * E) (omega arith) (omega arith))

-- a bit is what it was read from
bit_back : (m : ℕ) → bit (eqb (m % 2) 1) ≡ m % 2
bit_back m = grind arith

-- n with j more bits r below: the kept bits, the bit below them, and what is below that
pub kept_and_rest : (n i j r : ℕ) → n * 2 ^ j + r ≡ n / 2 ^ suc i * (2 * 2 ^ (i + j)) + (bit (bit_of n i) * 2 ^ (i + j) + (n % 2 ^ i * 2 ^ j + r))
kept_and_rest n i j r = rw (bit_back (n / 2 ^ i)) (split_below_bit n i j r)

-- what is below that bit
pub rest_small : (n i j r : ℕ) → r < 2 ^ j → n % 2 ^ i * 2 ^ j + r < 2 ^ (i + j)
rest_small n i j r h = rw (pow-add 2 i j) (parts_below (n % 2 ^ i) (2 ^ i) (2 ^ j) r (mod-lt n (pow_pos i)) h)

pub rest_some : (n i j r : ℕ) → ltb 0 (n % 2 ^ i * 2 ^ j + r) ≡ cond (any_below n i) true (ltb 0 r)
rest_some n i j r = parts_some (n % 2 ^ i) (2 ^ j) r (pow_pos j)

pub pow_above : (i j : ℕ) → 2 ^ (suc i + j) ≡ 2 * 2 ^ (i + j)
pow_above i j = ap (λ (y : ℕ). 2 ^ y) (let e : suc i + j ≡ suc (i + j) = omega arith in e) ∙ pow-suc 2 (i + j) ∙ mul_comm (2 ^ (i + j)) 2

pub whole_of_kept : (w : Way) (n i j r : ℕ) → r < 2 ^ j
    → whole w (n * 2 ^ j + r) (2 ^ (suc i + j)) ≡ n / 2 ^ suc i + bit (raised w (bit_of n (suc i)) (bit_of n i) (cond (any_below n i) true (ltb 0 r)))
whole_of_kept w n i j r h =
    rw (kept_and_rest n i j r, pow_above i j, ← rest_some n i j r) (whole_by_parts w (n / 2 ^ suc i) (n % 2 ^ i * 2 ^ j + r) (2 ^ (i + j)) (bit_of n i) (rest_small n i j r h))
