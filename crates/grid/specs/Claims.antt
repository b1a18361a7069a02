-- The theorems of rounding. Each is said of a spacing u, and proved of each that is lawful.
use Rattle.std.specs.Prelude.{◌≡◌, ℕ, ◌^◌, ◌≤◌, ℤ, pos, negsuc, ◌-ℤ◌, unsigned_abs}
use Rattle.exact.specs.Integers.{is_negative, signed}
use Rattle.exact.specs.Dyadic.{Dyadic, dyadic, ◌≤ᴰ◌, ◌<ᴰ◌, ◌≈ᴰ◌, Nonzero, distance, exponent}
use Rattle.grid.specs.Spacing.{InRange, Lawful}
use Rattle.grid.specs.Rounding.{Mode, nearest, downward, upward, Answer, rounded, OnGrid, Alike}
use Rattle.grid.specs.Neighbours.{Lower, Upper, Wanted}

-- a statement holds of each grid that keeps the laws
abbrev pub OnEachGrid : ((ℤ → ℤ) → Type 0) → Type 0
OnEachGrid P = (u : ℤ → ℤ) (W : ℕ) → Lawful u W → P u

-- lo and hi are numbers of the grid on both sides of x, with none strictly between them
pub record Neighbouring (u : ℤ → ℤ) (lo x hi : Dyadic) : Type 0 where
  pub lower_on : OnGrid u lo
  pub upper_on : OnGrid u hi
  pub lower : lo ≤ᴰ x
  pub upper : x ≤ᴰ hi
  pub none_between : (g : Dyadic) → OnGrid u g → lo <ᴰ g → ¬ (g <ᴰ hi)

-- downward and upward give the neighbours of x
abbrev pub Neighbours : (ℤ → ℤ) → Type 0
Neighbours u = (x : Dyadic) → Neighbouring u (rounded u downward x).value x (rounded u upward x).value

-- each mode gives the number that it asks for
abbrev pub Right : (ℤ → ℤ) → Type 0
Right u = (m : Mode) (x : Dyadic) → Wanted u m x (rounded u m x).value

-- the answer is less than one spacing away from x, and at nearest half a spacing at most
pub record Close (u : ℤ → ℤ) (x : Dyadic) : Type 0 where
  pub spacing : (m : Mode) → distance (rounded u m x).value x <ᴰ dyadic (pos 1) (u (exponent x))
  pub half : distance (rounded u nearest x).value x ≤ᴰ dyadic (pos 1) (u (exponent x) -ℤ pos 1)

-- no answer is far off: 0 has no exponent, and rounds to itself
abbrev pub Distance : (ℤ → ℤ) → Type 0
Distance u = (x : Dyadic) → Nonzero x → Close u x

-- a larger number rounds to one that is no smaller
abbrev pub Monotone : (ℤ → ℤ) → Type 0
Monotone u = (m : Mode) (x y : Dyadic) → x ≤ᴰ y → (rounded u m x).value ≤ᴰ (rounded u m y).value

-- whatever lies between two numbers that round alike rounds as they do
abbrev pub Between : (ℤ → ℤ) → Type 0
Between u = (m : Mode) (a x b : Dyadic) → a ≤ᴰ x → x ≤ᴰ b → Alike (rounded u m a) (rounded u m b) → Alike (rounded u m x) (rounded u m a)

-- two numbers on both sides of a grid number do not round alike
abbrev pub Apart : (ℤ → ℤ) → Type 0
Apart u = (m : Mode) (a p b : Dyadic) → OnGrid u p → a <ᴰ p → p <ᴰ b → ¬ Alike (rounded u m a) (rounded u m b)

-- a number of the grid rounds to itself
abbrev pub Exact : (ℤ → ℤ) → Type 0
Exact u = (m : Mode) (x : Dyadic) → OnGrid u x → ((rounded u m x).value ≡ x) × ((rounded u m x).direction ≡ pos 0)

-- downward and upward agree exactly at the numbers of the grid, and elsewhere give the neighbours, x strictly between them
pub record Enclosed (u : ℤ → ℤ) (x lo hi : Dyadic) : Type 0 where
  pub agree : OnGrid u x → lo ≈ᴰ hi
  pub agreed : lo ≈ᴰ hi → OnGrid u x
  pub lower : ¬ OnGrid u x → Lower u x lo × (lo <ᴰ x)
  pub upper : ¬ OnGrid u x → Upper u x hi × (x <ᴰ hi)

-- so the two answers enclose x, and say whether it is on the grid
abbrev pub Enclosure : (ℤ → ℤ) → Type 0
Enclosure u = (x : Dyadic) → Enclosed u x (rounded u downward x).value (rounded u upward x).value

-- d is -1, 0 or 1 exactly as v is below x, equal to it, or above it
pub record Toward (d : ℤ) (v x : Dyadic) : Type 0 where
  pub minus : d ≡ negsuc 0 → v <ᴰ x
  pub below : v <ᴰ x → d ≡ negsuc 0
  pub none : d ≡ pos 0 → v ≈ᴰ x
  pub equal : v ≈ᴰ x → d ≡ pos 0
  pub one : d ≡ pos 1 → x <ᴰ v
  pub above : x <ᴰ v → d ≡ pos 1

-- the direction of an answer says on which side of x it lies
abbrev pub Direction : (ℤ → ℤ) → Type 0
Direction u = (m : Mode) (x : Dyadic) → Toward (rounded u m x).direction (rounded u m x).value x

-- the answer has the sign of x, also where it is 0
pub record SignOf (x : Dyadic) (a : Answer) : Type 0 where
  pub negative : a.negative ≡ is_negative x.count
  pub magnitude : ℕ
  pub count : a.value.count ≡ signed (is_negative x.count) magnitude

abbrev pub Sign : (ℤ → ℤ) → Type 0
Sign u = (m : Mode) (x : Dyadic) → SignOf x (rounded u m x)

-- equal numbers round alike
abbrev pub Congruent : (ℤ → ℤ) → Type 0
Congruent u = (m : Mode) (x y : Dyadic) → x ≈ᴰ y → Alike (rounded u m x) (rounded u m y)

-- at the exponents in question an answer is a whole multiple of the spacing, of W digits at most (or the power 2 ^ W itself)
abbrev pub Digits : (ℤ → ℤ) → ℕ → Type 0
Digits u W = (m : Mode) (x : Dyadic) → InRange (exponent x) → (q : ℤ) × ((rounded u m x).value ≈ᴰ dyadic q (u (exponent x))) × (unsigned_abs q ≤ 2 ^ W)

-- the same of each grid that keeps the laws
abbrev pub DigitsOnEachGrid : Type 0
DigitsOnEachGrid = (u : ℤ → ℤ) (W : ℕ) → Lawful u W → Digits u W
