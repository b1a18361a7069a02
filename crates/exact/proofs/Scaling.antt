-- Integers times powers of two, and the gap between two integers.
use Rattle.std.proofs.Common.{◌≡◌, ℕ, zero, suc, ◌+◌, ◌*◌, ◌^◌, ◌<◌, ◌≤◌, Bool, true, ℤ, pos, negsuc, ◌+ℤ◌, ◌-ℤ◌, neg_ℤ, nat_abs, ◌≤ℤ◌, ◌<ℤ◌, refl, ap, ◌∙◌, mul-le-mul_right, zero-lt-suc, mul-lt-mul_of_pos_right, mul-pos, zero-mul, le_of_mul-le-mul_right, arith, pow_pos, pow-add}
use borrow.Author.Differences.{ints, at_most_in, le_out, lt_out, sum_is_lem, product_is}
use Rattle.std.proofs.lemmas.Int.{by_lt_z}
use Rattle.exact.specs.Integers.{sign, is_negative, signed, gap, lesser, scale}
use Rattle.exact.proofs.Integers.{≤ℤ_antisymm}

pub scale_plus : (x y : ℤ) (k : ℕ) → scale (x +ℤ y) k ≡ scale x k +ℤ scale y k
scale_plus x y k = omega (arith, ints, ap (λ (n : ℕ). n * 2 ^ k) (sum_is_lem x y))

pub scale_neg : (x : ℤ) (k : ℕ) → scale (neg_ℤ x) k ≡ neg_ℤ (scale x k)
scale_neg x k = grind (arith, ints)

pub scale_minus : (x y : ℤ) (k : ℕ) → scale (x -ℤ y) k ≡ scale x k -ℤ scale y k
scale_minus x y k = scale_plus x (neg_ℤ y) k ∙ ap (λ (z : ℤ). scale x k +ℤ z) (scale_neg y k)

pub scale_none : (x : ℤ) → scale x 0 ≡ x
scale_none x = omega (arith, ints)

pub zero_scale : (k : ℕ) → scale (pos 0) k ≡ pos 0
zero_scale k = ap pos (zero-mul (2 ^ k))

pub scale_scale : (x : ℤ) (j k : ℕ) → scale (scale x j) k ≡ scale x (j + k)
scale_scale x j k = let e = product_is x (pos (2 ^ j)) in rw (pow-add 2 j k) (omega (arith, ints, ap (λ (n : ℕ). n * 2 ^ k) e.0, ap (λ (n : ℕ). n * 2 ^ k) e.1))

pub scale_abs : (x : ℤ) (k : ℕ) → nat_abs (scale x k) ≡ nat_abs x * 2 ^ k
scale_abs x k = grind (arith, ints)

pub scale_signed : (s : Bool) (n k : ℕ) → scale (signed s n) k ≡ signed s (n * 2 ^ k)
scale_signed s n k = grind (arith, ints)

pub scale_mono : (x y : ℤ) (k : ℕ) → x ≤ℤ y → scale x k ≤ℤ scale y k
scale_mono x y k h = omega (arith, ints, mul-le-mul_right (2 ^ k) (le_out x y h))

pub scale_lt : (x y : ℤ) (k : ℕ) → x <ℤ y → scale x k <ℤ scale y k
scale_lt x y k h = omega (arith, ints, mul-lt-mul_of_pos_right (lt_out x y h) (pow_pos k))

pub le_scale : (x y : ℤ) (k : ℕ) → scale x k ≤ℤ scale y k → x ≤ℤ y
le_scale x y k h = at_most_in x y (le_of_mul-le-mul_right {k = 2 ^ k} (omega (arith, ints)) (pow_pos k))

pub lt_scale : (x y : ℤ) (k : ℕ) → scale x k <ℤ scale y k → x <ℤ y
lt_scale x y k h = by_lt_z x y (λ l. l) (λ l. let g = scale_mono y x k l in absurd (omega (arith, ints)))

pub scale_inj : (x y : ℤ) (k : ℕ) → scale x k ≡ scale y k → x ≡ y
scale_inj x y k e = ≤ℤ_antisymm x y (le_scale x y k (omega (arith, ints))) (le_scale y x k (omega (arith, ints)))

pub sign_scale : (n : ℤ) (k : ℕ) → sign (scale n k) ≡ sign n
sign_scale (pos zero) k = ap (λ (x : ℕ). sign (pos x)) (zero-mul (2 ^ k))
sign_scale (pos (suc n)) k = sign_of_pos (suc n * 2 ^ k) (mul-pos (zero-lt-suc n) (pow_pos k))
  where
    sign_of_pos : (x : ℕ) → 0 < x → sign (pos x) ≡ pos 1
    sign_of_pos zero h = absurd (omega arith)
    sign_of_pos (suc x) h = refl
sign_scale (negsuc n) k = sign_of_neg (suc n * 2 ^ k) (mul-pos (zero-lt-suc n) (pow_pos k))
  where
    sign_of_neg : (x : ℕ) → 0 < x → sign (neg_ℤ (pos x)) ≡ negsuc 0
    sign_of_neg zero h = absurd (omega arith)
    sign_of_neg (suc x) h = refl

pub negative_scale : (n : ℤ) (k : ℕ) → is_negative (scale n k) ≡ is_negative n
negative_scale (pos n) k = refl
negative_scale (negsuc n) k = negative_of_neg (suc n * 2 ^ k) (mul-pos (zero-lt-suc n) (pow_pos k))
  where
    negative_of_neg : (x : ℕ) → 0 < x → is_negative (neg_ℤ (pos x)) ≡ true
    negative_of_neg zero h = absurd (omega arith)
    negative_of_neg (suc x) h = refl

-- ---- the gap between two integers
pub gap_add : (z : ℤ) (d : ℕ) → gap (z +ℤ pos d) z ≡ d
gap_add z d = omega (arith, ints)

pub gap_split : (a w z : ℤ) → z ≤ℤ w → w ≤ℤ a → gap a z ≡ gap a w + gap w z
gap_split a w z h g = omega (arith, ints)

pub gap_none : (a w : ℤ) → a ≤ℤ w → gap a w ≡ 0
gap_none a w h = omega (arith, ints)

pub gap_mono : (a b z : ℤ) → a ≤ℤ b → gap a z ≤ gap b z
gap_mono a b z h = omega (arith, ints)

pub lesser_low : (v w : ℤ) → (lesser v w ≤ℤ v) × (lesser v w ≤ℤ w)
lesser_low v w = omega (arith, ints)

-- an integer below three others
pub below_three : (a b c : ℤ) → (z : ℤ) × (z ≤ℤ a) × (z ≤ℤ b) × (z ≤ℤ c)
below_three a b c = (lesser (lesser a b) c, omega (arith, ints), omega (arith, ints), omega (arith, ints))
