-- Dyadic numbers, count * 2 ^ weight with any two integers: their order, sums, signs and exponents.
use Rattle.std.specs.Prelude.{◌≡◌, List, [], ◌∷◌, ℤ, pos, ◌+ℤ◌, neg_ℤ, ◌≤ℤ◌, ◌<ℤ◌, unsigned_abs}
use Rattle.std.specs.Float.Ieee.{size}
use Rattle.exact.specs.Integers.{sign, gap, lesser, scale}

-- the number count * 2 ^ weight
pub record Dyadic : Type 0 where
  pub count : ℤ
  pub weight : ℤ

-- n * 2 ^ w
abbrev pub dyadic : ℤ → ℤ → Dyadic
dyadic n w = record { count = n; weight = w }

-- how many units of 2 ^ z the number is, for a z that is no more than its weight
abbrev pub at : ℤ → Dyadic → ℤ
at z x = scale x.count (gap x.weight z)

-- order and equality of the numbers: both sides in units of the smaller weight
infix 50 ◌≤ᴰ◌ ◌<ᴰ◌ ◌≈ᴰ◌
abbrev pub ◌≤ᴰ◌ : Dyadic → Dyadic → Type 0
x ≤ᴰ y = at y.weight x ≤ℤ at x.weight y

abbrev pub ◌<ᴰ◌ : Dyadic → Dyadic → Type 0
x <ᴰ y = at y.weight x <ℤ at x.weight y

abbrev pub ◌≈ᴰ◌ : Dyadic → Dyadic → Type 0
x ≈ᴰ y = at y.weight x ≡ at x.weight y

-- the number is not 0
abbrev pub Nonzero : Dyadic → Type 0
Nonzero x = ¬ (x.count ≡ pos 0)

-- its sign: -1, 0 or 1
abbrev pub sign_of : Dyadic → ℤ
sign_of x = sign x.count

-- x + y, in units of the smaller weight
abbrev pub plus : Dyadic → Dyadic → Dyadic
plus x y = let z = lesser x.weight y.weight in dyadic (at z x +ℤ at z y) z

-- -x
abbrev pub negation : Dyadic → Dyadic
negation x = dyadic (neg_ℤ x.count) x.weight

-- |x|
abbrev pub magnitude : Dyadic → Dyadic
magnitude x = dyadic (pos (unsigned_abs x.count)) x.weight

-- |x - y|
abbrev pub distance : Dyadic → Dyadic → Dyadic
distance x y = magnitude (plus x (negation y))

-- the exact sum of a list
unfoldable pub total : List Dyadic → Dyadic
total [] = dyadic (pos 0) (pos 0)
total (x ∷ xs) = plus x (total xs)

-- the e with 2 ^ (e - 1) <= |x| < 2 ^ e, for an x that is not 0
abbrev pub exponent : Dyadic → ℤ
exponent x = x.weight +ℤ pos (size (unsigned_abs x.count))
