-- The bits of a natural number, and how many limbs hold so many of them.
use Rattle.std.specs.Prelude.{ℕ, ◌+◌, ◌*◌, ◌/◌, ◌%◌, ◌^◌, Bool, true, false, ℤ, pos, ◌==◌, nat_lt}
use Rattle.exact.specs.Integers.{gap}

-- 1 or 0
abbrev pub bit : Bool → ℕ
bit true = 1
bit false = 0

-- the bit of n at i
abbrev pub bit_of : ℕ → ℕ → Bool
bit_of n i = n / 2 ^ i % 2 == 1

-- the 32 bits of n from the weight w on, where n is a whole number of units of weight 0
abbrev pub bits_at_weight : ℕ → ℤ → ℕ
bits_at_weight n w = n * 2 ^ gap (pos 0) w / 2 ^ gap w (pos 0) % 2 ^ 32

-- is any bit of n below i set
abbrev pub any_below : ℕ → ℕ → Bool
any_below n i = nat_lt 0 (n % 2 ^ i)

-- how many limbs of 32 bits hold p bits
abbrev pub limbs_for : ℕ → ℕ
limbs_for p = (p + 31) / 32

-- how many limbs a number has at most: far more than any sum needs, and few enough that no count of bits wraps
abbrev pub most_limbs : ℕ
most_limbs = 1048576
