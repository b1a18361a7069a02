-- Rounding of dyadic numbers: at any weight below a number it is the rounding of its count, on the grid as it is there.
use Rattle.std.proofs.Common.{◌≡◌, ℕ, suc, ◌+◌, ◌*◌, ◌%◌, ◌^◌, ◌<◌, ◌≤◌, true, false, ℤ, pos, negsuc, ◌+ℤ◌, ◌-ℤ◌, neg_ℤ, nat_abs, ◌≤ℤ◌, sym, refl, ap, ◌∙◌, inl, inr, zero-lt-suc, eq-zero-or-pos, mul-pos, zero-mul, arith, pow_pos}
use native.Mathlib.Nat.{eq_of_mul-eq-mul_right, zero-mod, mod-one, mul-mod_left}
use native.Mathlib.Decide.{dec_le}
use lib.Ieee.{size}
use borrow.Author.Differences.{ints}
use Rattle.std.proofs.lemmas.Int.{by_lt_z}
use Rattle.exact.specs.Integers.{sign, is_negative, gap, scale}
use Rattle.exact.specs.Dyadic.{Dyadic, at}
use Rattle.exact.proofs.Scaling.{scale_minus, scale_neg, scale_abs, sign_scale, negative_scale, gap_split, gap_none, gap_mono}
use Rattle.exact.proofs.BitLength.{size_scale}
use Rattle.exact.proofs.Multiples.{multiple_coarser}
use Rattle.grid.specs.Rounding.{Mode, Way, cut, way_of, multiple, dropped, rounded}
use Rattle.grid.proofs.Everywhere.{LawsEverywhere}
use Rattle.grid.proofs.Magnitudes.{MagnitudeLaws, On, to}
use Rattle.grid.proofs.Finer.{multiple_exact, multiple_scale}
use Rattle.grid.proofs.Integers.{round}

-- the spacing at each number of digits, in units of 2 ^ z
abbrev pub spacing_at : (ℤ → ℤ) → ℤ → ℕ → ℕ
spacing_at u z e = gap (u (z +ℤ pos e)) z

next : (z : ℤ) (e : ℕ) → z +ℤ pos (suc e) ≡ (z +ℤ pos e) +ℤ pos 1
next z e = omega (arith, ints)

pub laws_at : (u : ℤ → ℤ) → LawsEverywhere u → (z : ℤ) → MagnitudeLaws (spacing_at u z)
laws_at u S z = record { rises = rises'; inside = inside'; flat = flat' }
  where
    rises' : (e : ℕ) → spacing_at u z e ≤ spacing_at u z (suc e)
    rises' e = rw (next z e) (gap_mono (u (z +ℤ pos e)) (u ((z +ℤ pos e) +ℤ pos 1)) z (S.rises (z +ℤ pos e)))

    inside' : (e : ℕ) → spacing_at u z e < e → spacing_at u z (suc e) ≤ e
    inside' e h =
        let i = S.inside (z +ℤ pos e) (omega (arith, ints)) in
        rw (next z e) (omega (arith, ints))

    flat' : (e f : ℕ) → e ≤ spacing_at u z e → f ≤ suc (spacing_at u z e) → spacing_at u z f ≡ spacing_at u z e
    flat' e f h g =
        by_lt_z (u (z +ℤ pos e)) (z +ℤ pos e)
        (λ l.
        let i = S.inside (z +ℤ pos e) l in
        let a : spacing_at u z (suc e) ≡ spacing_at u z e = rw (next z e) (omega (arith, ints)) in
        elim (dec_le f e) [
          | yes c ↦ ap (spacing_at u z) (let q : f ≡ e = omega (arith, ints) in q)
          | no c ↦ ap (spacing_at u z) (let q : f ≡ suc e = omega (arith, ints) in q) ∙ a
        ])
        (λ l. ap (λ (x : ℤ). gap x z) (S.flat (z +ℤ pos e) (z +ℤ pos f) l (omega (arith, ints))))

-- ---- a finer weight
-- 0 rounds to 0
pub to_zero : (w : Way) (k : ℕ → ℕ) → to w k 0 ≡ 0
to_zero w k = multiple_exact w (k (size 0)) 0 (zero-mod (2 ^ k (size 0)))

-- the magnitude
pub to_finer : (u : ℤ → ℤ) (w : Way) (z v : ℤ) (n : ℕ) → z ≤ℤ v → to w (spacing_at u z) (n * 2 ^ gap v z) ≡ to w (spacing_at u v) n * 2 ^ gap v z
to_finer u w z v n h = elim (eq-zero-or-pos n) [
  | inl e ↦
      let d = 2 ^ gap v z in
      rw e (ap (to w (spacing_at u z)) (zero-mul d) ∙ to_zero w (spacing_at u z) ∙ sym (zero-mul d) ∙ ap (λ (x : ℕ). x * d) (sym (to_zero w (spacing_at u v))))
  | inr p ↦
      let d = gap v z in
      let a = u (v +ℤ pos (size n)) in
      let e : z +ℤ pos (size n + d) ≡ v +ℤ pos (size n) = omega (arith, ints) in
      let s : spacing_at u z (size (n * 2 ^ d)) ≡ gap a z = ap (spacing_at u z) (size_scale n d p) ∙ ap (λ (x : ℤ). gap (u x) z) e in
      ap (λ (x : ℕ). multiple w x (n * 2 ^ d)) s
      ∙ by_lt_z a v
      (λ l.
      let o : multiple w (gap a v) n ≡ n = rw (gap_none a v (omega (arith, ints))) (multiple_exact w 0 n (mod-one n)) in
      multiple_exact w (gap a z) (n * 2 ^ d) (multiple_coarser (n * 2 ^ d) d (gap a z) (omega (arith, ints)) (mul-mod_left n (2 ^ d))) ∙ sym (ap (λ (x : ℕ). x * 2 ^ d) o))
      (λ l. ap (λ (x : ℕ). multiple w x (n * 2 ^ d)) (gap_split a v z h l) ∙ multiple_scale w (gap a v) n d)
]

-- the integer
round_neg : (m : Mode) (k : ℕ → ℕ) (n : ℕ) → 0 < n → round m k (neg_ℤ (pos n)) ≡ neg_ℤ (pos (to (way_of m true) k n))
round_neg m k n h = grind (arith, ints)

pub round_finer : (u : ℤ → ℤ) (m : Mode) (z v : ℤ) (n : ℤ) → z ≤ℤ v → round m (spacing_at u z) (scale n (gap v z)) ≡ scale (round m (spacing_at u v) n) (gap v z)
round_finer u m z v (pos n) h = ap pos (to_finer u (way_of m false) z v n h)
round_finer u m z v (negsuc n) h =
    let d = gap v z in
    round_neg m (spacing_at u z) (suc n * 2 ^ d) (mul-pos (zero-lt-suc n) (pow_pos d))
    ∙ ap (λ (x : ℕ). neg_ℤ (pos x)) (to_finer u (way_of m true) z v (suc n) h)
    ∙ sym (scale_neg (pos (to (way_of m true) (spacing_at u v) (suc n))) d)

-- ---- the rounded number at any weight below
pub at_rounded : (u : ℤ → ℤ) (m : Mode) (z : ℤ) (x : Dyadic) → z ≤ℤ x.weight → at z (rounded u m x).value ≡ round m (spacing_at u z) (at z x)
unfolding rounded
at_rounded u m z x h = sym (round_finer u m z x.weight x.count h)

pub weight_rounded : (u : ℤ → ℤ) (m : Mode) (x : Dyadic) → (rounded u m x).value.weight ≡ x.weight
unfolding rounded
weight_rounded u m x = refl

-- ---- being on the grid does not depend on the weight
-- no digit of x lies below the spacing at its exponent
abbrev pub Divided : (ℤ → ℤ) → Dyadic → Type 0
Divided u x = nat_abs x.count % 2 ^ dropped u x ≡ 0

on_cut : (k : ℕ → ℕ) (n : ℕ) → to cut k n ≡ n → On k n
on_cut k n e = omega (arith, ints)

pub on_at : (u : ℤ → ℤ) (z : ℤ) (x : Dyadic) → z ≤ℤ x.weight → Divided u x → On (spacing_at u z) (nat_abs (at z x))
on_at u z x h o =
    let n = nat_abs x.count in
    let d = gap x.weight z in
    rw (scale_abs x.count d)
    (on_cut (spacing_at u z) (n * 2 ^ d) (to_finer u cut z x.weight n h ∙ ap (λ (k : ℕ). k * 2 ^ d) (multiple_exact cut (spacing_at u x.weight (size n)) n o)))

pub at_on : (u : ℤ → ℤ) (z : ℤ) (x : Dyadic) → z ≤ℤ x.weight → On (spacing_at u z) (nat_abs (at z x)) → Divided u x
at_on u z x h o =
    let n = nat_abs x.count in
    let d = gap x.weight z in
    let q : On (spacing_at u z) (n * 2 ^ d) = rw (scale_abs x.count d) at o in
    let e : to cut (spacing_at u x.weight) n * 2 ^ d ≡ n * 2 ^ d = sym (to_finer u cut z x.weight n h) ∙ multiple_exact cut (spacing_at u z (size (n * 2 ^ d))) (n * 2 ^ d) q in
    on_cut (spacing_at u x.weight) n (eq_of_mul-eq-mul_right (2 ^ d) (pow_pos d) (to cut (spacing_at u x.weight) n) n e)

-- ---- sign and direction
pub at_direction : (u : ℤ → ℤ) (m : Mode) (z : ℤ) (x : Dyadic) → z ≤ℤ x.weight → (rounded u m x).direction ≡ sign (at z (rounded u m x).value -ℤ at z x)
unfolding rounded
at_direction u m z x h =
    let d = gap x.weight z in
    let c = round m (spacing_at u x.weight) x.count in
    sym (ap sign (sym (scale_minus c x.count d)) ∙ sign_scale (c -ℤ x.count) d)

pub at_negative : (u : ℤ → ℤ) (m : Mode) (z : ℤ) (x : Dyadic) → (rounded u m x).negative ≡ is_negative (at z x)
unfolding rounded
at_negative u m z x = sym (negative_scale x.count (gap x.weight z))
