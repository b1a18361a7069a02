-- The theorems of rounding, of each spacing that is lawful.
use Rattle.std.proofs.Common.{◌≡◌, ℕ, true, false, ℤ, subst}
use Rattle.exact.specs.Integers.{is_negative}
use Rattle.exact.specs.Dyadic.{Dyadic}
use Rattle.grid.specs.Spacing.{Lawful}
use Rattle.grid.specs.Rounding.{Mode, nearest, downward, upward, toward_zero, away_from_zero, rounded}
use Rattle.grid.specs.Neighbours.{Lower, Upper, Wanted}
use Rattle.grid.specs.Claims as Claims
use Rattle.grid.proofs.Everywhere.{LawsEverywhere, laws_everywhere}
use Rattle.grid.proofs.Neighbours.{lower, upper, neighbouring, enclosed}
use Rattle.grid.proofs.Ties.{nearest_of}
use Rattle.grid.proofs.Distances.{close}
use Rattle.grid.proofs.Monotone as Monotone
use Rattle.grid.proofs.Outcomes as Outcomes
use Rattle.grid.proofs.Apart as Apart

-- the modes toward 0 and away from 0 are downward or upward, by the sign
down_toward : (u : ℤ → ℤ) (x : Dyadic) → is_negative x.count ≡ false → (rounded u downward x).value ≡ (rounded u toward_zero x).value
unfolding rounded
down_toward u x e = simp e

up_toward : (u : ℤ → ℤ) (x : Dyadic) → is_negative x.count ≡ true → (rounded u upward x).value ≡ (rounded u toward_zero x).value
unfolding rounded
up_toward u x e = simp e

up_away : (u : ℤ → ℤ) (x : Dyadic) → is_negative x.count ≡ false → (rounded u upward x).value ≡ (rounded u away_from_zero x).value
unfolding rounded
up_away u x e = simp e

down_away : (u : ℤ → ℤ) (x : Dyadic) → is_negative x.count ≡ true → (rounded u downward x).value ≡ (rounded u away_from_zero x).value
unfolding rounded
down_away u x e = simp e

wanted : (u : ℤ → ℤ) → LawsEverywhere u → (m : Mode) (x : Dyadic) → Wanted u m x (rounded u m x).value
wanted u S nearest x = nearest_of u S x
wanted u S downward x = lower u S x
wanted u S upward x = upper u S x
wanted u S toward_zero x = (λ e. subst (Lower u x) (down_toward u x e) (lower u S x), λ e. subst (Upper u x) (up_toward u x e) (upper u S x))
wanted u S away_from_zero x = (λ e. subst (Upper u x) (up_away u x e) (upper u S x), λ e. subst (Lower u x) (down_away u x e) (lower u S x))

module _ (u : ℤ → ℤ) (W : ℕ) (L : Lawful u W) where
  pub neighbours : Claims.Neighbours u
  neighbours x = let S = laws_everywhere u W L in neighbouring u x (rounded u downward x).value (rounded u upward x).value (lower u S x) (upper u S x)

  pub right : Claims.Right u
  right m x = wanted u (laws_everywhere u W L) m x

  pub distance : Claims.Distance u
  distance x n = close u x

  pub monotone : Claims.Monotone u
  monotone = Monotone.monotone u (laws_everywhere u W L)

  pub between : Claims.Between u
  between = Monotone.between u (laws_everywhere u W L)

  pub apart : Claims.Apart u
  apart = Apart.apart u (laws_everywhere u W L)

  pub exact : Claims.Exact u
  exact = Outcomes.exact u

  pub enclosure : Claims.Enclosure u
  enclosure x = let S = laws_everywhere u W L in enclosed u x (rounded u downward x).value (rounded u upward x).value (lower u S x) (upper u S x)

  pub direction : Claims.Direction u
  direction = Outcomes.direction u

  pub sign : Claims.Sign u
  sign = Outcomes.sign_kept u

  pub congruent : Claims.Congruent u
  congruent = Monotone.congruent u (laws_everywhere u W L)
