-- What rounding an end must tell, and leave in the answer's limbs.
use Rattle.std.specs.Prelude.{◌≡◌, ℕ, ◌-◌, ◌*◌, ◌^◌, ◌<◌, ◌≤◌, Bool, true, false, List, ℤ, pos, ◌+ℤ◌, ◌-ℤ◌, ◌≤ℤ◌, ◌<ℤ◌, Some, None, Option, is_none, slice_index}
use Rattle.std.specs.Option.{option_map_or}
use Rattle.exact.specs.Integers.{signed}
use Rattle.exact.specs.Dyadic.{Dyadic, dyadic}
use Rattle.grid.specs.Rounding.{Mode, Answer, rounded, Alike}
use Rattle.limbs.specs.Bits.{limbs_for}
use Rattle.ends.specs.Directions.{direction_sign}
use Rattle.ends.specs.Ends.{StandsFor, Bordered, spacing_there}
use Rattle.ends.specs.declared.rounded_end.Extent.{Extent}
use Rattle.ends.specs.declared.rounded_end.PlacedEnd.{PlacedEnd}
use Rattle.ends.specs.declared.rounded_end.RoundedEnd.{RoundedEnd}

-- the answer of M units of 2 ^ v with the sign s, on the side d of the number
abbrev pub in_units : Bool → ℕ → ℤ → ℤ → Answer
in_units s M v d = record { value = dyadic (signed s M) v; negative = s; direction = d }

-- x rounds to that answer
abbrev pub RoundsTo : (ℤ → ℤ) → Mode → Dyadic → Bool → ℕ → ℤ → ℤ → Type 0
RoundsTo u m x s M v d = Alike (rounded u m x) (in_units s M v d)

-- a is a significand of exactly p bits, at the top of the limbs that hold p bits; and p is how many a number of exponent e has on the grid
pub record Placed (u : ℤ → ℤ) (e : ℤ) (p a : ℕ) : Type 0 where
  pub significand : ℕ
  pub below : significand < 2 ^ p
  pub above : 2 ^ p ≤ 2 * significand
  pub is : a ≡ significand * 2 ^ (32 * limbs_for p - p)
  pub precise : e ≡ u e +ℤ pos p

-- the limbs a of an answer: 0 of a zero, else exactly the digits that the grid has at the answer's exponent
abbrev pub Written : (ℤ → ℤ) → Option Extent → ℕ → Type 0
Written u None a = a ≡ 0
Written u (Some x) a = Placed u x.exponent x.precision a

-- the number that an answer with the sign s and the limbs a is: a fraction of the extent's bits, or 0 without an extent
abbrev pub number_told : Bool → Option Extent → ℕ → Dyadic
number_told s None a = dyadic (pos 0) (pos 0)
number_told s (Some x) a = dyadic (signed s a) (x.exponent -ℤ pos (32 * limbs_for x.precision))

-- x rounds to that number with the sign s, on the side d of x
abbrev pub RoundsAs : (ℤ → ℤ) → Mode → Dyadic → Bool → Option Extent → ℕ → ℤ → Type 0
RoundsAs u m x s extent a d = Alike (rounded u m x) (record { value = number_told s extent a; negative = s; direction = d })

-- how many limbs an answer takes
abbrev pub limbs_taken : Option Extent → ℕ
limbs_taken None = 0
limbs_taken (Some x) = limbs_for x.precision

-- each number that the end stands for rounds to the limbs a of that extent
pub record Answered (u : ℤ → ℤ) (m : Mode) (s partial : Bool) (n : ℕ) (w : ℤ) (extent : Option Extent) (d : ℤ) (a : ℕ) : Type 0 where
  pub limbs : Written u extent a
  pub rounds : (x : Dyadic) → StandsFor s partial n w x → RoundsAs u m x s extent a d

-- the same of what the code tells
abbrev pub Right : (ℤ → ℤ) → Mode → Bool → Bool → ℕ → ℤ → RoundedEnd → ℕ → Type 0
Right u m s partial n w r a = (r.negative ≡ s) × Answered u m s partial n w r.extent (direction_sign r.direction) a

-- nothing is told exactly if a part is left over and the spacing is no more than a unit
abbrev pub Outcome : (ℤ → ℤ) → Mode → Bool → Bool → ℕ → ℤ → Option RoundedEnd → ℕ → Type 0
Outcome u m s partial n w None a = (partial ≡ true) × (spacing_there u n w ≤ℤ w)
Outcome u m s partial n w (Some r) a = (partial ≡ true → w <ℤ spacing_there u n w) × Right u m s partial n w r a

-- and so exactly if the part left over lies between two numbers of the grid, each of which rounds to itself
abbrev pub Undetermined : (ℤ → ℤ) → Bool → Bool → ℕ → ℤ → Option RoundedEnd → Type 0
Undetermined u s partial n w None = Bordered u s n w
Undetermined u s partial n w (Some r) = partial ≡ true → ¬ Bordered u s n w

-- the limbs past those that the answer takes are 0; and where nothing is told, the limbs are as they were
abbrev pub Unused : Option RoundedEnd → List ℕ → List ℕ → Type 0
Unused None before after = after ≡ before
Unused (Some r) before after = (k : ℕ) → limbs_taken r.extent ≤ k → slice_index after k ≡ 0

-- the exponent and the precision of an answer: a zero, which has no extent, has the spacing there and no bits
abbrev pub exponent_told : PlacedEnd → ℤ
exponent_told r = option_map_or (λ x. x.exponent) r.rounded.extent r.spacing

abbrev pub precision_told : PlacedEnd → ℕ
precision_told r = option_map_or (λ x. x.precision) r.rounded.extent 0

-- each number that the end stands for rounds to the limbs a at the exponent e, a fraction of p bits
pub record AnsweredAt (u : ℤ → ℤ) (m : Mode) (s partial : Bool) (n : ℕ) (w : ℤ) (zero : Bool) (e : ℤ) (p : ℕ) (d : ℤ) (a : ℕ) : Type 0 where
  pub none : zero ≡ true → (a ≡ 0) × (p ≡ 0) × (e ≡ spacing_there u n w)
  pub placed : zero ≡ false → Placed u e p a
  pub rounds : (x : Dyadic) → StandsFor s partial n w x → RoundsTo u m x s a (e -ℤ pos (32 * limbs_for p)) d

-- the same of what the code tells
abbrev pub RightAt : (ℤ → ℤ) → Mode → Bool → Bool → ℕ → ℤ → PlacedEnd → ℕ → Type 0
RightAt u m s partial n w r a =
    (r.rounded.negative ≡ s)
    × AnsweredAt u m s partial n w (is_none r.rounded.extent) (exponent_told r) (precision_told r) (direction_sign r.rounded.direction) a
