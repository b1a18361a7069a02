-- The named grids, each with the digits of its numbers and the weight of its last digit.
use Rattle.std.specs.Prelude.{◌≡◌, ℕ, List, [], ◌∷◌, ℤ, pos, neg_ℤ, Some, None, Option}
use Rattle.std.specs.List.{slice_get}
use Rattle.grid.specs.Spacing.{floored}

-- a floored grid: its width and its floor
pub record Row : Type 0 where
  pub width : ℕ
  pub floor : ℤ

-- a row of the table
abbrev pub row : ℕ → ℤ → Row
row p f = record { width = p; floor = f }

-- binary16, bfloat16, binary32, binary64, extended80, binary128, binary256
abbrev pub formats : List Row
formats =
    row 11 (neg_ℤ (pos 24))
    ∷ row 8 (neg_ℤ (pos 133))
    ∷ row 24 (neg_ℤ (pos 149))
    ∷ row 53 (neg_ℤ (pos 1074))
    ∷ row 64 (neg_ℤ (pos 16445))
    ∷ row 113 (neg_ℤ (pos 16494))
    ∷ row 237 (neg_ℤ (pos 262378))
    ∷ []

-- the formats by number, from 0
abbrev pub format_numbered : ℕ → Option Row
format_numbered n = slice_get formats n

-- a spacing and a width are those of a format
abbrev pub OfFormat : Option Row → (ℤ → ℤ) → ℕ → Type 0
OfFormat (Some r) u W = (u ≡ floored r.width r.floor) × (W ≡ r.width)
OfFormat None u W = ⊥
