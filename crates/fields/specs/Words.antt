-- The words of the fields: of which value a word is the spelling, if that value has one.
use Rattle.std.specs.Prelude.{◌≡◌, ℕ, ◌<◌, ◌==◌, ◌||◌, Bool, true, List, length, map, ℤ, Option}
use Rattle.std.specs.Fmt.{decimal, signed_decimal}
use Rattle.std.specs.Int.{is_in_range}
use Rattle.std.specs.List.{AllByRecursion, join_with_byte}
use Rattle.forms.specs.Parts.{sign_text, limb_text, floor_text, TenDigits, TenSigned, TenFloor, is_alphanumeric, IsRun, AreLimbs}

-- the word is this sign: true for -
abbrev pub IsSign : Bool → List ℕ → Type 0
IsSign negative word = word ≡ sign_text negative

-- the word is this number, of at most ten digits
abbrev pub IsNatural : ℕ → List ℕ → Type 0
IsNatural n word = TenDigits n × (word ≡ decimal n)

-- the word is this integer, of at most ten digits
abbrev pub IsInteger : ℤ → List ℕ → Type 0
IsInteger z word = TenSigned z × (word ≡ signed_decimal z)

-- the word is this floor, or `free` where it is none
abbrev pub IsFloor : Option ℤ → List ℕ → Type 0
IsFloor floor word = TenFloor floor × (word ≡ floor_text floor)

-- the word is a run, which is its own value
abbrev pub IsRunWord : List ℕ → List ℕ → Type 0
IsRunWord run word = IsRun run × (word ≡ run)

-- limbs as they stand between their brackets
abbrev pub limbs_between : List ℕ → List ℕ
limbs_between limbs = join_with_byte 32 (map limb_text limbs)

-- the text is these limbs
abbrev pub IsLimbsText : List ℕ → List ℕ → Type 0
IsLimbsText limbs text = AreLimbs limbs × (text ≡ limbs_between limbs)

-- the word is this keyword
abbrev pub IsKeyword : List ℕ → Unit {0} → List ℕ → Type 0
IsKeyword keyword _ word = word ≡ keyword

-- ---- the bytes of which words consist
-- a letter, a digit, + or -
abbrev pub is_word_byte : ℕ → Bool
is_word_byte b = is_alphanumeric b || (b == 43) || (b == 45)

-- 0 to 9, a to f
abbrev pub is_lowercase_hex : ℕ → Bool
is_lowercase_hex b = is_in_range 48 57 b || is_in_range 97 102 b

-- one letter, digit, + or - or more
pub record IsWord (word : List ℕ) : Type 0 where
  pub some : 0 < length word
  pub each : AllByRecursion (λ b. is_word_byte b ≡ true) word

-- lowercase hexadecimal digits and spaces
abbrev pub HasLimbBytes : List ℕ → Type 0
HasLimbBytes text = AllByRecursion (λ b. (is_lowercase_hex b || (b == 32)) ≡ true) text
