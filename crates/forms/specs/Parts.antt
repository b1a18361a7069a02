-- How the parts of a line are spelled, in bytes.
use Rattle.std.specs.Prelude.{◌≡◌, ℕ, zero, suc, ◌+◌, ◌/◌, ◌%◌, ◌^◌, ◌<◌, Bool, true, cond, ◌||◌, List, [], ◌∷◌, ◌++◌, length, map, codes, nat_lt, ℤ, unsigned_abs, Some, None, Option}
use Rattle.std.specs.Char.{is_ascii_digit, is_ascii_alphabetic}
use Rattle.std.specs.List.{AllByRecursion, join_with_byte}
use Rattle.std.specs.Fmt.{decimal, signed_decimal}

-- texts in round brackets, one space between two of them
abbrev pub bracketed : List (List ℕ) → List ℕ
bracketed texts = 40 ∷ (join_with_byte 32 texts ++ (41 ∷ []))

-- a sign: + or -
abbrev pub sign_text : Bool → List ℕ
sign_text negative = cond negative 45 43 ∷ []

-- a digit below 16: 0 to 9, a to f
abbrev pub hex_digit : ℕ → ℕ
hex_digit d = cond (nat_lt d 10) (48 + d) (87 + d)

-- the last k hexadecimal digits of n, the most significant first
unfoldable pub hex_digits : ℕ → ℕ → List ℕ
hex_digits zero n = []
hex_digits (suc k) n = hex_digits k (n / 16) ++ (hex_digit (n % 16) ∷ [])

-- a limb of 32 bits: eight hexadecimal digits
abbrev pub limb_text : ℕ → List ℕ
limb_text limb = hex_digits 8 limb

-- limbs, the least significant first
abbrev pub limbs_text : List ℕ → List ℕ
limbs_text limbs = bracketed (map limb_text limbs)

-- the floor of a grid, or that it has none
abbrev pub floor_text : Option ℤ → List ℕ
floor_text None = codes "free"
floor_text (Some floor) = signed_decimal floor

-- ---- which numbers, runs and limbs have a spelling
-- a number of at most ten decimal digits
abbrev pub TenDigits : ℕ → Type 0
TenDigits n = n < 10 ^ 10

-- an integer of at most ten
abbrev pub TenSigned : ℤ → Type 0
TenSigned z = TenDigits (unsigned_abs z)

-- a floor of at most ten, or none
abbrev pub TenFloor : Option ℤ → Type 0
TenFloor None = Unit {0}
TenFloor (Some floor) = TenSigned floor

-- a letter or a digit
abbrev pub is_alphanumeric : ℕ → Bool
is_alphanumeric b = is_ascii_alphabetic b || is_ascii_digit b

-- one letter or digit or more
pub record IsRun (word : List ℕ) : Type 0 where
  pub some : 0 < length word
  pub each : AllByRecursion (λ b. is_alphanumeric b ≡ true) word

-- one limb of 32 bits or more
pub record AreLimbs (limbs : List ℕ) : Type 0 where
  pub some : 0 < length limbs
  pub each : AllByRecursion (λ x. x < 2 ^ 32) limbs
