-- The order of dyadic numbers: it is the order of their counts at any weight below both.
use Rattle.std.proofs.Common.{◌≡◌, ℕ, ◌+◌, ◌-◌, ◌⊎◌, ℤ, ◌≤ℤ◌, ◌<ℤ◌, sym, refl, ap, ◌∙◌, arith}
use lib.Signed.{≤ℤ_refl}
use borrow.Author.Differences.{ints}
use Rattle.exact.specs.Integers.{gap, scale}
use Rattle.exact.specs.Dyadic.{Dyadic, at, ◌≤ᴰ◌, ◌<ᴰ◌, ◌≈ᴰ◌}
use Rattle.exact.proofs.Scaling.{scale_scale, scale_mono, scale_lt, le_scale, lt_scale, scale_inj, gap_split, below_three}

-- ---- at any weight below both
common_gap : (v w z : ℤ) → z ≤ℤ v → z ≤ℤ w → (j : ℕ) × (gap v z ≡ gap v w + j) × (gap w z ≡ gap w v + j)
common_gap v w z h g = (gap v z - gap v w, omega (arith, ints), omega (arith, ints))

-- both counts at z are what the order compares, times one power
compared_at : (z : ℤ) (x y : Dyadic) → z ≤ℤ x.weight → z ≤ℤ y.weight → (j : ℕ) × (at z x ≡ scale (at y.weight x) j) × (at z y ≡ scale (at x.weight y) j)
compared_at z x y h g =
    let s = common_gap x.weight y.weight z h g in (
      s.0,
      ap (scale x.count) s.1 ∙ sym (scale_scale x.count (gap x.weight y.weight) s.0),
      ap (scale y.count) s.2 ∙ sym (scale_scale y.count (gap y.weight x.weight) s.0),
    )

module _ (z : ℤ) (x y : Dyadic) (h : z ≤ℤ x.weight) (g : z ≤ℤ y.weight) where
  pub at_le : x ≤ᴰ y → at z x ≤ℤ at z y
  at_le l = let s = compared_at z x y h g in rw (s.1, s.2) (scale_mono (at y.weight x) (at x.weight y) s.0 l)

  pub le_at : at z x ≤ℤ at z y → x ≤ᴰ y
  le_at l = let s = compared_at z x y h g in le_scale (at y.weight x) (at x.weight y) s.0 (rw (s.1, s.2) at l)

  pub at_lt : x <ᴰ y → at z x <ℤ at z y
  at_lt l = let s = compared_at z x y h g in rw (s.1, s.2) (scale_lt (at y.weight x) (at x.weight y) s.0 l)

  pub lt_at : at z x <ℤ at z y → x <ᴰ y
  lt_at l = let s = compared_at z x y h g in lt_scale (at y.weight x) (at x.weight y) s.0 (rw (s.1, s.2) at l)

  pub at_same : x ≈ᴰ y → at z x ≡ at z y
  at_same l = let s = compared_at z x y h g in s.1 ∙ ap (λ (n : ℤ). scale n s.0) l ∙ sym s.2

  pub same_at : at z x ≡ at z y → x ≈ᴰ y
  same_at l = let s = compared_at z x y h g in scale_inj (at y.weight x) (at x.weight y) s.0 (sym s.1 ∙ l ∙ s.2)

-- a count at a weight below, by way of a weight between
pub at_at : (z v : ℤ) (x : Dyadic) → z ≤ℤ v → v ≤ℤ x.weight → scale (at v x) (gap v z) ≡ at z x
at_at z v x h g = scale_scale x.count (gap x.weight v) (gap v z) ∙ ap (scale x.count) (sym (gap_split x.weight v z h g))

-- ---- a total order, up to equality
pub ≤ᴰ_refl : (x : Dyadic) → x ≤ᴰ x
≤ᴰ_refl x = ≤ℤ_refl (at x.weight x)

pub ≤ᴰ_trans : (x y w : Dyadic) → x ≤ᴰ y → y ≤ᴰ w → x ≤ᴰ w
≤ᴰ_trans x y w h g =
    let (z, a, b, c) = below_three x.weight y.weight w.weight in
    let p = at_le z x y a b h in
    let q = at_le z y w b c g in
    le_at z x w a c (omega (arith, ints))

pub <ᴰ_≤ᴰ_trans : (x y w : Dyadic) → x <ᴰ y → y ≤ᴰ w → x <ᴰ w
<ᴰ_≤ᴰ_trans x y w h g =
    let (z, a, b, c) = below_three x.weight y.weight w.weight in
    let p = at_lt z x y a b h in
    let q = at_le z y w b c g in
    lt_at z x w a c (omega (arith, ints))

pub ≤ᴰ_antisymm : (x y : Dyadic) → x ≤ᴰ y → y ≤ᴰ x → x ≈ᴰ y
≤ᴰ_antisymm x y h g = omega (arith, ints)

pub ≤ᴰ_total : (x y : Dyadic) → (x ≤ᴰ y) ⊎ (y ≤ᴰ x)
≤ᴰ_total x y = grind (arith, ints)

pub <ᴰ_not_≥ : (x y : Dyadic) → x <ᴰ y → ¬ (y ≤ᴰ x)
<ᴰ_not_≥ x y h g = omega (arith, ints)

pub <ᴰ_of_not_≥ : (x y : Dyadic) → ¬ (y ≤ᴰ x) → x <ᴰ y
<ᴰ_of_not_≥ x y n = grind (arith, ints)

-- ---- equality
pub ≤ᴰ_of_≈ : (x y : Dyadic) → x ≈ᴰ y → x ≤ᴰ y
≤ᴰ_of_≈ x y h = omega (arith, ints)

pub ≈ᴰ_refl : (x : Dyadic) → x ≈ᴰ x
≈ᴰ_refl x = refl

pub ≈ᴰ_sym : (x y : Dyadic) → x ≈ᴰ y → y ≈ᴰ x
≈ᴰ_sym x y e = sym e

pub ≈ᴰ_trans : (x y w : Dyadic) → x ≈ᴰ y → y ≈ᴰ w → x ≈ᴰ w
≈ᴰ_trans x y w h g = ≤ᴰ_antisymm x w (≤ᴰ_trans x y w (≤ᴰ_of_≈ x y h) (≤ᴰ_of_≈ y w g)) (≤ᴰ_trans w y x (≤ᴰ_of_≈ w y (sym g)) (≤ᴰ_of_≈ y x (sym h)))
