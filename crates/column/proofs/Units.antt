-- One part, cut at two weights.
use Rattle.std.proofs.Common.{◌≡◌, ◌+◌, ◌*◌, ◌/◌, ◌%◌, ◌^◌, ◌<◌, ◌⊎◌, ℤ, ◌≤ℤ◌, sym, ap, inl, inr, lt_of_lt_of_le, mod-eq_of_lt, arith, pow_mono, shl_lt, shr-shr, shr_lt}
use native.Mathlib.Nat.{mul-mod_left}
use lib.Pow.{split}
use lib.Ieee.{size}
use lib.Ieee.Digits.{size-lt}
use borrow.Author.Differences.{ints}
use Rattle.exact.specs.Integers.{gap}
use Rattle.exact.proofs.Multiples.{multiple_coarser}
use Rattle.batch.proofs.Units.{units_at}
use Rattle.column.specs.Parts.{Part, top, units}

-- a cut of a cut
pub units_coarser : (p : Part) (w v : ℤ) → v ≤ℤ w → units p w ≡ units p v / 2 ^ gap w v
units_coarser p w v h = grind (arith, ints, shr-shr, units_at)

pub units_split : (p : Part) (w v : ℤ) → v ≤ℤ w → units p v ≡ units p w * 2 ^ gap w v + units p v % 2 ^ gap w v
units_split p w v h = rw (units_coarser p w v h) (sym (split (units p v) (gap w v)))

-- below the part's lowest weight nothing is cut off
pub units_whole : (p : Part) (z : ℤ) → z ≤ℤ p.weight → units p z ≡ p.significand * 2 ^ gap p.weight z
units_whole p z h = grind (arith, ints)

-- a part from w up has nothing between z and w
pub units_none : (p : Part) (w z : ℤ) → z ≤ℤ w → w ≤ℤ p.weight → units p z % 2 ^ gap w z ≡ 0
units_none p w z h g = rw (units_whole p z (omega (arith, ints))) (multiple_coarser (p.significand * 2 ^ gap p.weight z) (gap p.weight z) (gap w z) (omega (arith, ints)) (mul-mod_left p.significand (2 ^ gap p.weight z)))

-- a part below v is less than 2 ^ v
pub units_small : (p : Part) (v z : ℤ) → z ≤ℤ v → top p ≤ℤ v → units p z < 2 ^ gap v z
units_small p v z h g =
    let a = shl_lt (size p.significand) (gap p.weight z) (size-lt p.significand) in
    shr_lt (gap v z) (gap z p.weight) (lt_of_lt_of_le a (pow_mono (omega (arith, ints))))

-- nothing of the part lies from v up to w
abbrev pub Clear : ℤ → ℤ → Part → Type 0
Clear w v p = (w ≡ v) ⊎ ((top p ≤ℤ v) ⊎ (w ≤ℤ p.weight))

pub clear_mod : (p : Part) (w v z : ℤ) → z ≤ℤ v → v ≤ℤ w → Clear w v p → units p z % 2 ^ gap w z ≡ units p z % 2 ^ gap v z
clear_mod p w v z h g (inl e) = ap (λ (x : ℤ). units p z % 2 ^ gap x z) e
clear_mod p w v z h g (inr (inl t)) = grind (arith, ints, lt_of_lt_of_le, mod-eq_of_lt, pow_mono, units_small)
clear_mod p w v z h g (inr (inr t)) = grind (arith, ints, units_none)
