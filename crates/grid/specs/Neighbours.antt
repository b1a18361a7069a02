-- Which number of the grid each mode asks for, said by the order and by distances alone.
use Rattle.std.specs.Prelude.{◌≡◌, true, false, ℤ, ◌+ℤ◌}
use Rattle.exact.specs.Integers.{is_negative}
use Rattle.exact.specs.Dyadic.{Dyadic, dyadic, ◌≤ᴰ◌, ◌≈ᴰ◌, distance, exponent}
use Rattle.grid.specs.Rounding.{Mode, nearest, downward, upward, toward_zero, away_from_zero, OnGrid}

-- v is the greatest number of the grid that is at most x
pub record Lower (u : ℤ → ℤ) (x v : Dyadic) : Type 0 where
  pub on : OnGrid u v
  pub at_most : v ≤ᴰ x
  pub greatest : (g : Dyadic) → OnGrid u g → g ≤ᴰ x → g ≤ᴰ v

-- v is the least number of the grid that is at least x
pub record Upper (u : ℤ → ℤ) (x v : Dyadic) : Type 0 where
  pub on : OnGrid u v
  pub at_least : x ≤ᴰ v
  pub least : (g : Dyadic) → OnGrid u g → x ≤ᴰ g → v ≤ᴰ g

-- no number of the grid is nearer to x than v; and if another is as near, v is an even multiple of the spacing at x
pub record Nearest (u : ℤ → ℤ) (x v : Dyadic) : Type 0 where
  pub on : OnGrid u v
  pub none_nearer : (g : Dyadic) → OnGrid u g → distance v x ≤ᴰ distance g x
  pub tie_even : (g : Dyadic) → OnGrid u g → ¬ (g ≈ᴰ v) → distance g x ≈ᴰ distance v x → (q : ℤ) × (v ≈ᴰ dyadic (q +ℤ q) (u (exponent x)))

-- the number v that a mode asks for at x
abbrev pub Wanted : (ℤ → ℤ) → Mode → Dyadic → Dyadic → Type 0
Wanted u nearest x v = Nearest u x v
Wanted u downward x v = Lower u x v
Wanted u upward x v = Upper u x v
Wanted u toward_zero x v = (is_negative x.count ≡ false → Lower u x v) × (is_negative x.count ≡ true → Upper u x v)
Wanted u away_from_zero x v = (is_negative x.count ≡ false → Upper u x v) × (is_negative x.count ≡ true → Lower u x v)
