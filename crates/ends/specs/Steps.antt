-- What the steps of rounding an end promise each other.
use Rattle.std.specs.Prelude.{◌≡◌, ℕ, suc, ◌-◌, ◌*◌, ◌/◌, ◌^◌, ◌<◌, Bool, true, false, ◌⊎◌, ℤ, pos, ◌+ℤ◌, ◌≤ℤ◌, Some, None, Option}
use Rattle.grid.specs.Rounding.{Mode}
use Rattle.limbs.specs.Bits.{limbs_for}
use Rattle.ends.specs.Ends.{raises, left_out}
use Rattle.ends.specs.declared.rounded_end.Extent.{Extent}

-- what is decided of n units of 2 ^ w at the spacing v: is the quotient raised, is it inexact
pub record Decided (m : Mode) (s partial : Bool) (n : ℕ) (w v : ℤ) (raise inexact : Bool) : Type 0 where
  pub fine : v ≤ℤ w → (raise ≡ false) × (inexact ≡ false)
  pub coarse : (i : ℕ) → v ≡ w +ℤ pos (suc i) → (raise ≡ raises m s partial n i) × (inexact ≡ left_out partial n i)

-- no bit is kept: 0, or one unit of 2 ^ v
abbrev pub NoneKept : ℤ → Bool → Option Extent → ℕ → Type 0
NoneKept v true x a = (x ≡ Some (record { exponent = v +ℤ pos 1; precision = 1 })) × (a ≡ 2147483648)
NoneKept v false x a = (x ≡ None) × (a ≡ 0)

-- M units in p bits at the exponent e, or carried: 2 ^ e in q bits at the next exponent
abbrev pub SomeKept : ℕ → ℤ → ℕ → ℕ → Extent → ℕ → Type 0
SomeKept M e p q x a =
    ((x.exponent ≡ e) × (x.precision ≡ p) × (a ≡ M * 2 ^ (32 * limbs_for p - p)) × (M < 2 ^ p))
    ⊎ ((x.exponent ≡ e +ℤ pos 1) × (x.precision ≡ q) × (a ≡ 2 ^ (32 * limbs_for q) / 2) × (M ≡ 2 ^ p))
