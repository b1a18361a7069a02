-- What each field reads of a word: the value that it spells, or the first place, counted from 0, at which no word of the field can go on.
-- A word that ends too soon is refused at its length.
use Rattle.std.specs.Prelude.{ℕ, zero, suc, ◌+◌, ◌*◌, ◌/◌, ◌%◌, max, Bool, true, false, cond, ◌==◌, ◌&&◌, ◌||◌, nat_lt, List, [], ◌∷◌, length, take, drop, codes, slice_index, ℤ, pos, neg_ℤ, Option, Some, None, Result, Ok, Err}
use Rattle.std.specs.Char.{digit_value, is_digit}
use Rattle.std.specs.Str.Parse.{digits_value}
use Rattle.std.specs.Result.{result_map_both}
use Rattle.forms.specs.Parts.{is_alphanumeric}
use Rattle.fields.specs.Words.{is_lowercase_hex}

-- ---- bytes that are told by their places
-- of bytes from this place on, the place of the first that may not stand there
abbrev pub break_from : (ℕ → ℕ → Bool) → ℕ → List ℕ → Option ℕ
break_from may_stand place [] = None
break_from may_stand place (b ∷ bs) = cond (may_stand place b) (break_from may_stand (place + 1) bs) (Some place)

-- the value of a word that does not break, and may end where it does
abbrev pub unbroken : {A : Type 0} → Option ℕ → Bool → ℕ → A → Result A ℕ
unbroken (Some place) may_end end value = Err place
unbroken None may_end end value = cond may_end (Ok value) (Err end)

-- byte `place` of the keyword
abbrev pub in_keyword : List ℕ → ℕ → ℕ → Bool
in_keyword keyword place b = nat_lt place (length keyword) && (slice_index keyword place == b)

-- a keyword: all its bytes, and no more
abbrev pub keyword_of : List ℕ → List ℕ → Result (Unit {0}) ℕ
keyword_of keyword word = unbroken (break_from (in_keyword keyword) 0 word) (length word == length keyword) (length word) tt

-- a run: one letter or digit or more
abbrev pub run_of : List ℕ → Result (List ℕ) ℕ
run_of word = unbroken (break_from (λ place b. is_alphanumeric b) 0 word) (nat_lt 0 (length word)) (length word) word

-- each ninth byte of limbs is a space, and the others are digits
abbrev pub in_limbs : ℕ → ℕ → Bool
in_limbs place b = cond (place % 9 == 8) (b == 32) (is_lowercase_hex b)

-- so many limbs: eight digits each, and a byte between two
abbrev pub first_limbs : ℕ → List ℕ → List ℕ
first_limbs zero text = []
first_limbs (suc n) text = digits_value 16 (take 8 text) ∷ first_limbs n (drop 9 text)

-- all limbs of a text
abbrev pub limbs_in : List ℕ → List ℕ
limbs_in text = first_limbs ((length text + 1) / 9) text

-- limbs: one or more, of eight digits each
abbrev pub limbs_of : List ℕ → Result (List ℕ) ℕ
limbs_of text = unbroken (break_from in_limbs 0 text) (length text % 9 == 8) (length text) (limbs_in text)

-- ---- signs and numbers
-- a sign, and nothing after it
abbrev pub alone : Bool → List ℕ → Result Bool ℕ
alone negative [] = Ok negative
alone negative (b ∷ bs) = Err 1

-- a sign
abbrev pub sign_of : List ℕ → Result Bool ℕ
sign_of [] = Err 0
sign_of (b ∷ bs) = cond (b == 43) (alone false bs) (cond (b == 45) (alone true bs) (Err 0))

-- whether a digit may follow those before this place, which are of this value: none follows a leading zero, and none a tenth digit
abbrev pub has_room : ℕ → ℕ → Bool
has_room value place = (place == 0) || (nat_lt 0 value && nat_lt place 10)

-- a number, when the digits before this place have been read and are of this value
abbrev pub natural_from : ℕ → ℕ → List ℕ → Result ℕ ℕ
natural_from value place [] = cond (place == 0) (Err 0) (Ok value)
natural_from value place (b ∷ bs) =
    cond (has_room value place && is_digit b 10) (natural_from (value * 10 + digit_value b) (place + 1) bs) (Err place)

-- a number: at most ten digits
abbrev pub natural_of : List ℕ → Result ℕ ℕ
natural_of word = natural_from 0 0 word

-- whether the first byte is this one
abbrev pub begins_with : ℕ → List ℕ → Bool
begins_with byte [] = false
begins_with byte (b ∷ bs) = b == byte

-- the digits after a minus sign: not 0
abbrev pub negative_of : List ℕ → Result ℤ ℕ
negative_of digits =
    cond (begins_with 48 digits) (Err 1) (result_map_both (λ n. neg_ℤ (pos n)) (λ place. place + 1) (natural_of digits))

-- an integer: perhaps a minus sign, and digits
abbrev pub integer_of : List ℕ → Result ℤ ℕ
integer_of word = cond (begins_with 45 word) (negative_of (drop 1 word)) (result_map_both pos (λ place. place) (natural_of word))

-- none, or else an integer; what is neither is refused at the further of the two places
abbrev pub none_or : Result (Unit {0}) ℕ → Result ℤ ℕ → Result (Option ℤ) ℕ
none_or (Ok _) integer = Ok None
none_or (Err place) (Ok floor) = Ok (Some floor)
none_or (Err place) (Err other) = Err (max place other)

-- a floor, or `free`
abbrev pub floor_of : List ℕ → Result (Option ℤ) ℕ
floor_of word = none_or (keyword_of (codes "free") word) (integer_of word)
