-- The bit pattern of a binary64 number stands for a term that is worth the number.
use Rattle.std.proofs.Common.{◌≡◌, ℕ, zero, suc, ◌+◌, ◌*◌, ◌/◌, ◌%◌, ◌^◌, ◌<◌, Bool, true, false, cond, T as Holds, eqb, leb, pos, negsuc, ◌-ℤ◌, sym, refl, ap, ◌∙◌, subst, mul_right_comm, arith, pow_pos}
use native.Mathlib.Nat.{eq_of_mul-eq-mul_right}
use lib.Dec.{eqb-suc-zero}
use borrow.Author.Tests.{clash}
use lib.Ieee as ieee
use lib.Ieee.{Float, fin, up, down, minus, odd, of_fields, of_bits, to_bits, fits, binary64}
use lib.Ieee.Bits.{of_bits-to_bits}
use lib.Ieee.Digits.{minus_val}
use lib.Ieee.Exact.{HasValue, odd_sign}
use Rattle.std.proofs.lemmas.Int.{ints}
use Rattle.batch.specs.Term.{Term, not_a_number, infinite, signed_zero, regular}
use Rattle.list_batch.specs.BitPatterns.{fields_term, bits_term}
use Rattle.list_batch.specs.FloatValues.{IsWorth}

exponent : (x : ℕ) → pos (suc x) -ℤ pos 1075 ≡ minus x 1074
exponent x = grind (arith, ints)

-- from one fraction to another of the same size
rescale : (x : Float) (s : Bool) (w l num den : ℕ) → 0 < l → num * l ≡ w * den → HasValue x s w l → HasValue x s num den
rescale ieee.nan s w l num den p h v = v
rescale (ieee.inf t) s w l num den p h v = v
rescale (fin t m e) s w l num den p h v = (
  v.0,
  eq_of_mul-eq-mul_right l p (m * up e * den) (num * down e)
      (mul_right_comm (m * up e) den l
      ∙ ap (λ (x : ℕ). x * den) v.1
      ∙ mul_right_comm w (down e) den
      ∙ ap (λ (x : ℕ). x * down e) (sym h)
      ∙ mul_right_comm num l (down e)),
)

-- what `odd` makes, at an exponent
odd_is : (d : ℕ) (s : Bool) (m a l : ℕ) → HasValue (odd d s m a l) s (m * up (minus a l)) (down (minus a l))
odd_is d s m a l = rescale (odd d s m a l) s (m * 2 ^ a) (2 ^ l) (m * up (minus a l)) (down (minus a l)) (pow_pos l) (minus_val m a l) (odd_sign d s m a l)

odd_zero : (d : ℕ) (s : Bool) (k l : ℕ) → odd d s 0 k l ≡ fin s 0 (pos 0)
unfolding odd
odd_zero d s k l = refl

-- the fields 0 and t
subnormal : (s : Bool) (t : ℕ) → IsWorth (odd 53 s t 0 1074) (cond (eqb t 0) (signed_zero s) (regular s t (negsuc 1073)))
subnormal s zero = odd_zero 53 s 0 1074
subnormal s (suc t) = rw (eqb-suc-zero t) (odd_is 53 s (suc t) 0 1074)

by_cond : (b : Bool) (x y : Float) (t u : Term) → IsWorth x t → IsWorth y u → IsWorth (cond b x y) (cond b t u)
by_cond true x y t u p q = p
by_cond false x y t u p q = q

normal : (s : Bool) (x t : ℕ) → IsWorth (of_fields binary64 s (suc x) t) (fields_term s (suc x) t)
unfolding of_fields
normal s x t =
    rw (eqb-suc-zero x, exponent x)
    (by_cond (eqb (suc x) 2047) _ _ _ _ (by_cond (eqb t 0) _ _ (infinite s) not_a_number refl refl) (odd_is 53 s (2 ^ 52 + t) x 1074))

low : (s : Bool) (t : ℕ) → IsWorth (of_fields binary64 s 0 t) (fields_term s 0 t)
unfolding of_fields
low s t = subnormal s t

fields : (s : Bool) (x t : ℕ) → IsWorth (of_fields binary64 s x t) (fields_term s x t)
fields s zero t = low s t
fields s (suc x) t = normal s x t

pub of_bits_lem : (b : ℕ) → IsWorth (of_bits binary64 b) (bits_term b)
unfolding of_bits
of_bits_lem b = fields (leb (2 ^ 63) b) (b % 2 ^ 63 / 2 ^ 52) (b % 2 ^ 52)

pub to_bits_lem : (x : Float) → Holds (fits binary64 x) → IsWorth x (bits_term (to_bits binary64 x))
to_bits_lem x h = subst (λ (y : Float). IsWorth y (bits_term (to_bits binary64 x))) (of_bits-to_bits binary64 x h) (of_bits_lem (to_bits binary64 x))

-- ---- the one value that is not a number
pub is_nan_lem : (x : Float) → true ≡ ieee.is_nan x → x ≡ ieee.nan
unfolding ieee.is_nan
is_nan_lem ieee.nan h = refl
is_nan_lem (ieee.inf s) h = absurd (clash (sym h))
is_nan_lem (fin s m e) h = absurd (clash (sym h))

pub nan_bits : to_bits binary64 ieee.nan ≡ 9221120237041090560
unfolding to_bits
nan_bits = refl

pub nan_fits : Holds (fits binary64 ieee.nan)
unfolding fits
nan_fits = tt
