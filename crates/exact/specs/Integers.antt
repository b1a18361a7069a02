-- Integers: sign, magnitude, the distance from a smaller one, and powers of two as factors.
use Rattle.std.specs.Prelude.{ℕ, zero, suc, ◌+◌, ◌-◌, ◌^◌, Bool, true, false, ℤ, pos, negsuc, ◌-ℤ◌, ◌*ℤ◌, neg_ℤ}
use borrow.Author.Differences.{up, down}

-- -1, 0 or 1
abbrev pub sign : ℤ → ℤ
sign (pos zero) = pos 0
sign (pos (suc n)) = pos 1
sign (negsuc n) = negsuc 0

-- is it below 0?
abbrev pub is_negative : ℤ → Bool
is_negative (pos n) = false
is_negative (negsuc n) = true

-- n, or -n where the sign is that of a negative number
abbrev pub signed : Bool → ℕ → ℤ
signed false n = pos n
signed true n = neg_ℤ (pos n)

-- a - b where that is not negative, and 0 otherwise (an integer a is up a - down a)
abbrev pub gap : ℤ → ℤ → ℕ
gap a b = (up a + down b) - (up b + down a)

-- the smaller of two
abbrev pub lesser : ℤ → ℤ → ℤ
lesser a b = a -ℤ pos (gap a b)

-- a * 2 ^ k
abbrev pub scale : ℤ → ℕ → ℤ
scale a k = a *ℤ pos (2 ^ k)
