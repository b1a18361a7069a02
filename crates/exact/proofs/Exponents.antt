-- The exponent of a dyadic number, and the powers of two on both sides of it.
use Rattle.std.proofs.Common.{◌≡◌, ℕ, suc, ◌+◌, ◌*◌, ◌^◌, ◌<◌, ◌≤◌, ℤ, pos, ◌+ℤ◌, ◌-ℤ◌, nat_abs, ◌≤ℤ◌, sym, ap, ◌∙◌, subst, mul-le-mul_right, arith, pow_pos, pow-add}
use lib.Ieee.{size}
use lib.Ieee.Digits.{size-lt, size-le}
use borrow.Author.Differences.{ints}
use Rattle.exact.specs.Integers.{gap, scale, lesser}
use Rattle.exact.specs.Dyadic.{Dyadic, dyadic, at, ◌≤ᴰ◌, ◌<ᴰ◌, ◌≈ᴰ◌, Nonzero, magnitude, exponent}
use Rattle.exact.proofs.Integers.{abs_pos}
use Rattle.exact.proofs.Scaling.{scale_abs, scale_inj, zero_scale, lesser_low}
use Rattle.exact.proofs.BitLength.{size_top, size_scale}
use Rattle.exact.proofs.Order.{at_same, le_at, lt_at}

pub at_own : (x : Dyadic) → at x.weight x ≡ x.count
at_own x = grind (arith, ints)

-- 2 ^ v in units of 2 ^ z
pub at_power : (z : ℤ) (k : ℕ) → at z (dyadic (pos 1) (z +ℤ pos k)) ≡ pos (2 ^ k)
at_power z k = grind (arith, ints)

-- the exponent is the same at every weight below
pub exponent_at : (z : ℤ) (x : Dyadic) → z ≤ℤ x.weight → Nonzero x → z +ℤ pos (size (nat_abs (at z x))) ≡ exponent x
exponent_at z x h p =
    let n = nat_abs x.count in
    let d = gap x.weight z in
    let e : size (nat_abs (at z x)) ≡ size n + d = ap size (scale_abs x.count d) ∙ size_scale n d (abs_pos x.count p) in
    omega (arith, ints)

-- no count of 0 at a weight below, unless the number is 0
pub nonzero_at : (z : ℤ) (x : Dyadic) → Nonzero x → ¬ (at z x ≡ pos 0)
nonzero_at z x p e = let d = gap x.weight z in p (scale_inj x.count (pos 0) d (e ∙ sym (zero_scale d)))

pub nonzero_≈ : (x y : Dyadic) → Nonzero x → x ≈ᴰ y → Nonzero y
nonzero_≈ x y p e q = nonzero_at y.weight x p (e ∙ ap (λ (n : ℤ). scale n (gap y.weight x.weight)) q ∙ zero_scale (gap y.weight x.weight))

pub exponent_≈ : (x y : Dyadic) → Nonzero x → x ≈ᴰ y → exponent x ≡ exponent y
exponent_≈ x y p e =
    let z = lesser x.weight y.weight in
    let (h, g) = lesser_low x.weight y.weight in
    sym (exponent_at z x h p) ∙ ap (λ (n : ℤ). z +ℤ pos (size (nat_abs n))) (at_same z x y h g e) ∙ exponent_at z y g (nonzero_≈ x y p e)

pub exponent_above : (x : Dyadic) → magnitude x <ᴰ dyadic (pos 1) (exponent x)
exponent_above x =
    let w = x.weight in
    let n = nat_abs x.count in
    lt_at w (magnitude x) (dyadic (pos 1) (exponent x)) (omega (arith, ints)) (omega (arith, ints))
    (rw (at_own (magnitude x), at_power w (size n)) (omega (arith, ints, size-lt n)))

pub exponent_reached : (x : Dyadic) → Nonzero x → dyadic (pos 1) (exponent x -ℤ pos 1) ≤ᴰ magnitude x
exponent_reached x p = from_top (size_top (nat_abs x.count) (abs_pos x.count p))
  where
    from_top : ((e : ℕ) × (size (nat_abs x.count) ≡ suc e) × (2 ^ e ≤ nat_abs x.count) × (nat_abs x.count < 2 ^ suc e)) → dyadic (pos 1) (exponent x -ℤ pos 1) ≤ᴰ magnitude x
    from_top (e, s, lo, hi) =
        let w = x.weight in
        let q : exponent x -ℤ pos 1 ≡ w +ℤ pos e = omega (arith, ints) in
        subst (λ (v : ℤ). dyadic (pos 1) v ≤ᴰ magnitude x) (sym q)
        (le_at w (dyadic (pos 1) (w +ℤ pos e)) (magnitude x) (omega (arith, ints)) (omega (arith, ints)) (rw (at_power w e, at_own (magnitude x)) (omega (arith, ints))))

-- a count of at most 1,024 times 2 ^ t
pub exponent_upto : (x : Dyadic) (t : ℤ) (n : ℕ) → x.weight ≤ℤ t → n ≤ 1024 → nat_abs x.count ≤ n * 2 ^ gap t x.weight → exponent x ≤ℤ (t +ℤ pos 11)
exponent_upto x t n h l a =
    let g = gap t x.weight in
    let m : n * 2 ^ g ≤ 1024 * 2 ^ g = mul-le-mul_right (2 ^ g) l in
    let p = pow_pos g in
    let e : 2 ^ (11 + g) ≡ 2048 * 2 ^ g = pow-add 2 11 g in
    let b : nat_abs x.count < 2 ^ (11 + g) = rw e (omega arith) in
    let s = size-le (nat_abs x.count) (11 + g) b in
    omega (arith, ints)
