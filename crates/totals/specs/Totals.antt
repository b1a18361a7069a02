-- Signed totals of columns of 32 bits, the least significant first.
use Rattle.std.specs.Prelude.{ℕ, ◌^◌, ◌<◌, Bool, true, false, List, [], ◌∷◌, length, ℤ, pos, ◌+ℤ◌, ◌*ℤ◌, neg_ℤ, slice_index_or, unsigned_abs}

-- the number that the totals stand for
abbrev pub totals_value : List ℤ → ℤ
totals_value [] = pos 0
totals_value (t ∷ ts) = t +ℤ (pos (2 ^ 32) *ℤ totals_value ts)

-- each total is below 2 ^ 53 in magnitude, so that none wraps with a carry
abbrev pub SmallTotals : List ℤ → Type 0
SmallTotals ts = (k : ℕ) → k < length ts → unsigned_abs (slice_index_or ts k (pos 0)) < 2 ^ 53

-- a number or its opposite
abbrev pub flipped : Bool → ℤ → ℤ
flipped true z = neg_ℤ z
flipped false z = z
