-- The words of a line, parted by single spaces, and what a word is worth.
use Rattle.std.specs.Prelude.{ℕ, ◌^◌, Bool, ◌&&◌, List, [], ◌∷◌, length, ◌==◌, nat_lt, if◌then◌else◌, ℤ, pos, negsuc, Some, None, Option}
use Rattle.std.specs.Char.{digit_value}
use Rattle.std.specs.List.{before_first, after_first, onto_first, list_all}
use Rattle.std.specs.Str.Parse.{digits_value, signed_digits_value, without_leading_plus, without_leading_sign}

-- what stands before the first space, or all where there is none
abbrev pub first_word : List ℕ → List ℕ
first_word bs = before_first (λ b. b == 32) bs

-- what stands behind it, or nothing
abbrev pub other_words : List ℕ → List ℕ
other_words bs = after_first (λ b. b == 32) bs

-- all the words, in order: a space ends each but the last, and may end that one
unfoldable pub words_of : List ℕ → List (List ℕ)
words_of [] = []
words_of (b ∷ bs) = if b == 32 then [] ∷ words_of bs else onto_first b (words_of bs)

-- one digit or more in the radix, and nothing else
abbrev pub is_numeral : ℕ → List ℕ → Bool
is_numeral radix ds = nat_lt 0 (length ds) && list_all (λ c. nat_lt (digit_value c) radix) ds

-- the number below 2 ^ 32 that a word spells in the radix; a plus may stand first
unfoldable pub number_of : ℕ → List ℕ → Option ℕ
number_of radix word = let ds = without_leading_plus word in
    if is_numeral radix ds && nat_lt (digits_value radix ds) (2 ^ 32) then Some (digits_value radix ds) else None

-- whether an integer has 64 bits
abbrev pub has_64_bits : ℤ → Bool
has_64_bits (pos n) = nat_lt n (2 ^ 63)
has_64_bits (negsuc n) = nat_lt n (2 ^ 63)

-- the integer of 64 bits that a word spells in decimal; a plus or a minus may stand first
unfoldable pub integer_of : List ℕ → Option ℤ
integer_of word = let z = signed_digits_value 10 word in
    if is_numeral 10 (without_leading_sign word) && has_64_bits z then Some z else None
