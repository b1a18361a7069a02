-- What is proved of dyadic numbers and limbs.
use Rattle.std.specs.Prelude.{◌≡◌, ℕ, ◌-◌, ◌*◌, ◌^◌, ◌<◌, ◌⊎◌, List, [], ◌∷◌, length, pos, ◌-ℤ◌, neg_ℤ}
use Rattle.exact.specs.Dyadic.{Dyadic, dyadic, ◌≤ᴰ◌, ◌<ᴰ◌, ◌≈ᴰ◌, Nonzero, sign_of, plus, negation, magnitude, total, exponent}
use Rattle.exact.specs.Limbs.{Limbs, limbs_value}

-- ---- the order
-- a number is at most itself
abbrev pub OrderReflexive : Type 0
OrderReflexive = (x : Dyadic) → x ≤ᴰ x

-- what is at most a number that is at most a third is at most that
abbrev pub OrderTransitive : Type 0
OrderTransitive = (x y z : Dyadic) → x ≤ᴰ y → y ≤ᴰ z → x ≤ᴰ z

-- two numbers that are at most each other are equal
abbrev pub OrderAntisymmetric : Type 0
OrderAntisymmetric = (x y : Dyadic) → x ≤ᴰ y → y ≤ᴰ x → x ≈ᴰ y

-- of two numbers one is at most the other
abbrev pub OrderTotal : Type 0
OrderTotal = (x y : Dyadic) → (x ≤ᴰ y) ⊎ (y ≤ᴰ x)

-- one number is below another exactly if the other is not at most it
abbrev pub OrderStrict : Type 0
OrderStrict = (x y : Dyadic) → (x <ᴰ y → ¬ (y ≤ᴰ x)) × (¬ (y ≤ᴰ x) → x <ᴰ y)

-- ---- equality
-- equality is an equivalence
pub record Equivalence : Type 0 where
  pub reflexive : (x : Dyadic) → x ≈ᴰ x
  pub symmetric : (x y : Dyadic) → x ≈ᴰ y → y ≈ᴰ x
  pub transitive : (x y z : Dyadic) → x ≈ᴰ y → y ≈ᴰ z → x ≈ᴰ z

-- equal numbers are at most each other
abbrev pub EqualBothWays : Type 0
EqualBothWays = (x y : Dyadic) → x ≈ᴰ y → (x ≤ᴰ y) × (y ≤ᴰ x)

-- ---- sums
-- the order of two terms does not matter
abbrev pub SumCommutative : Type 0
SumCommutative = (x y : Dyadic) → plus x y ≈ᴰ plus y x

-- nor which two of three are summed first
abbrev pub SumAssociative : Type 0
SumAssociative = (x y z : Dyadic) → plus (plus x y) z ≈ᴰ plus x (plus y z)

-- larger terms have no smaller sum
abbrev pub SumMonotone : Type 0
SumMonotone = (x y a b : Dyadic) → x ≤ᴰ a → y ≤ᴰ b → plus x y ≤ᴰ plus a b

-- a number and its negation sum to 0
abbrev pub SumInverse : Type 0
SumInverse = (x : Dyadic) → plus x (negation x) ≈ᴰ dyadic (pos 0) (pos 0)

-- ---- exponents
-- 2 ^ (e - 1) <= |x|
abbrev pub ExponentReached : Type 0
ExponentReached = (x : Dyadic) → Nonzero x → dyadic (pos 1) (exponent x -ℤ pos 1) ≤ᴰ magnitude x

-- |x| < 2 ^ e
abbrev pub ExponentAbove : Type 0
ExponentAbove = (x : Dyadic) → magnitude x <ᴰ dyadic (pos 1) (exponent x)

-- equal numbers have equal exponents
abbrev pub ExponentOfEquals : Type 0
ExponentOfEquals = (x y : Dyadic) → Nonzero x → x ≈ᴰ y → exponent x ≡ exponent y

-- ---- limbs
-- so many limbs stand for a number of at most 32 times as many bits
abbrev pub LimbsBounded : Type 0
LimbsBounded = (xs : List ℕ) → Limbs xs → limbs_value xs < 2 ^ (32 * length xs)

-- ---- the definitions compute, here on counts of 4,000 bits
-- (2 ^ 4000 - 1) - 2 ^ 4000 + 2 ^ -4000, just above -1
abbrev pub long_terms : List Dyadic
long_terms = dyadic (pos (2 ^ 4000 - 1)) (pos 0) ∷ dyadic (neg_ℤ (pos (2 ^ 4000))) (pos 0) ∷ dyadic (pos 1) (neg_ℤ (pos 4000)) ∷ []

-- its sign and exponent; with 1 - 2 ^ -4000 it is 0; and a count's own length
pub record Computes : Type 0 where
  pub sign : sign_of (total long_terms) ≡ neg_ℤ (pos 1)
  pub top : exponent (total long_terms) ≡ pos 0
  pub none : sign_of (total (dyadic (pos (2 ^ 4000 - 1)) (neg_ℤ (pos 4000)) ∷ long_terms)) ≡ pos 0
  pub long : exponent (dyadic (pos (2 ^ 4000 - 1)) (neg_ℤ (pos 1999))) ≡ pos 2001
