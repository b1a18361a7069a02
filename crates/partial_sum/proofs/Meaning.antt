-- What the sign and the magnitude of an end stand for.
use Rattle.std.proofs.Common.{◌≡◌, ℕ, ◌+◌, ◌^◌, ◌<◌, Bool, true, false, ℤ, pos, ◌+ℤ◌, neg_ℤ, nat_abs, sym, ap, subst, arith}
use lib.Ieee.{size}
use lib.Ieee.Digits.{size-lt}
use borrow.Author.Differences.{ints}
use Rattle.exact.specs.Integers.{is_negative}
use Rattle.exact.specs.Dyadic.{Dyadic, dyadic}
use Rattle.grid.specs.Rounding.{OnGrid}
use Rattle.ends.specs.Ends.{StandsFor, Bordered}
use Rattle.partial_sum.specs.Lying.{Lies}
use Rattle.partial_sum.specs.Ends.{Meant}

pub meant_part : (v : ℤ) → is_negative v ≡ true → Meant true true (nat_abs (v +ℤ pos 1)) v
meant_part v h = grind (arith, ints)

-- each number that lies there is one that the end stands for
pub stands : (s partial : Bool) (n : ℕ) (v w : ℤ) (x : Dyadic) → Meant s partial n v → Lies partial v w x → StandsFor s partial n w x
stands s partial n v w x h g = grind (arith, ints)

-- the units on both sides of it
pub borders : (u : ℤ → ℤ) (s : Bool) (n : ℕ) (v w : ℤ) → Meant s true n v → Bordered u s n w → OnGrid u (dyadic v w) × OnGrid u (dyadic (v +ℤ pos 1) w)
borders u false n v w e (low, high) = (subst (λ (z : ℤ). OnGrid u (dyadic z w)) (sym e) low, subst (λ (z : ℤ). OnGrid u (dyadic z w)) (let f : pos (n + 1) ≡ v +ℤ pos 1 = omega (arith, ints) in f) high)
borders u true n v w e (high, low) = (subst (λ (z : ℤ). OnGrid u (dyadic z w)) (sym e) low, subst (λ (z : ℤ). OnGrid u (dyadic z w)) (let f : neg_ℤ (pos n) ≡ v +ℤ pos 1 = omega (arith, ints) in f) high)

-- ---- the length of a magnitude
pub no_bits : (n : ℕ) → size n ≡ 0 → n ≡ 0
no_bits n e = let h : n < 2 ^ size n = size-lt n in omega (arith, ap (λ (k : ℕ). 2 ^ k) e)

pub some_bits : (n : ℕ) → ¬ (size n ≡ 0) → 0 < n
unfolding size
some_bits n h = grind (arith, ints)
