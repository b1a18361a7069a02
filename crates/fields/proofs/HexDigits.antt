-- Lowercase hexadecimal digits, and the numbers that they write.
use Rattle.std.proofs.Common.{◌≡◌, ℕ, zero, suc, ◌+◌, ◌*◌, ◌/◌, ◌%◌, ◌^◌, ◌<◌, ◌≤◌, true, List, [], ◌∷◌, ◌++◌, length, get_or, take, refl, sym, ap, ◌∙◌, arith, append_assoc, append-nil, add-zero, add-one, pow-suc}
use native.Mathlib.Nat.{pow-le-pow_right}
use Rattle.std.specs.Char.{digit_value}
use Rattle.std.specs.List.{AllByRecursion}
use Rattle.std.specs.Str.Parse.{digits_value, digits_value_after, AllDigits}
use Rattle.std.proofs.lemmas.Bool.Decides.{nat_tests}
use Rattle.std.proofs.lemmas.Int.Digits.{digits_value_push, digits_value_more, digits_value-lt}
use Rattle.std.proofs.lemmas.List.{length_push, length-take-le}
use Rattle.std.proofs.lemmas.Nat.{div-mul-add, mod-mul-add, mod_below, div_below, div-add-mod'}
use Rattle.std.proofs.lemmas.Str.{digit_value-digit_char}
use Rattle.forms.specs.Parts.{hex_digit, hex_digits}
use Rattle.fields.specs.Words.{is_lowercase_hex}

-- all bytes are digits
abbrev pub AreHex : List ℕ → Type 0
AreHex bytes = AllByRecursion (λ b. is_lowercase_hex b ≡ true) bytes

-- the byte of a digit is one of the digits
digit-is-hex : (d : ℕ) → d < 16 → is_lowercase_hex (hex_digit d) ≡ true
digit-is-hex d h = grind (arith, nat_tests)

-- such a byte is that of its value
hex-digit-value : (b : ℕ) → is_lowercase_hex b ≡ true → (digit_value b < 16) × (hex_digit (digit_value b) ≡ b)
hex-digit-value b h = grind (arith, nat_tests)

-- the last of one digit more
hex_digits-step : (k n : ℕ) → hex_digits (k + 1) n ≡ hex_digits k (n / 16) ++ (hex_digit (n % 16) ∷ [])
unfolding hex_digits
hex_digits-step k n = ap (λ j. hex_digits j n) (add-one k)

-- a digit after those of n
hex_digits-more : (k n d : ℕ) → d < 16 → hex_digits (k + 1) (n * 16 + d) ≡ hex_digits k n ++ (hex_digit d ∷ [])
hex_digits-more k n d h = hex_digits-step k (n * 16 + d) ∙ (λ i. hex_digits k (div-mul-add n 16 d h i) ++ (hex_digit (mod-mul-add n 16 d h i) ∷ []))

-- k digits are k bytes
pub length-hex_digits : (k n : ℕ) → length (hex_digits k n) ≡ k
unfolding hex_digits
length-hex_digits zero n = refl
length-hex_digits (suc k) n = length_push (hex_digits k (n / 16)) (hex_digit (n % 16)) ∙ ap (λ i. i + 1) (length-hex_digits k (n / 16)) ∙ add-one k

-- digits, and one more
AreHex-push : (bytes : List ℕ) (b : ℕ) → AreHex bytes → is_lowercase_hex b ≡ true → AreHex (bytes ++ (b ∷ []))
AreHex-push [] b h e = (e, tt)
AreHex-push (c ∷ cs) b h e = (h.0, AreHex-push cs b h.1 e)

-- digits of a number are digits
pub AreHex-hex_digits : (k n : ℕ) → AreHex (hex_digits k n)
unfolding hex_digits
AreHex-hex_digits zero n = tt
AreHex-hex_digits (suc k) n = AreHex-push (hex_digits k (n / 16)) (hex_digit (n % 16)) (AreHex-hex_digits k (n / 16)) (digit-is-hex (n % 16) (mod_below n 16 (omega arith)))

-- what k digits of a number write is the number
pub digits_value-hex_digits : (k n : ℕ) → n < 16 ^ k → digits_value 16 (hex_digits k n) ≡ n
unfolding hex_digits
digits_value-hex_digits zero n h = omega arith
digits_value-hex_digits (suc k) n h =
    let b : 16 ^ suc k ≡ 16 ^ k * 16 = pow-suc 16 k in
    let high = digits_value-hex_digits k (n / 16) (div_below n 16 (16 ^ k) (omega arith) (omega arith)) in
    let low = digit_value-digit_char (n % 16) (omega (arith, mod_below n 16 (omega arith))) in
    digits_value_push 16 (hex_digits k (n / 16)) (hex_digit (n % 16)) ∙ (λ i. high i * 16 + low i) ∙ div-add-mod' n 16

-- digits after those of n are digits of what all of them write
digits-after : (k n : ℕ) (bytes : List ℕ) → AreHex bytes → hex_digits (k + length bytes) (digits_value_after 16 n bytes) ≡ hex_digits k n ++ bytes
digits-after k n [] h = ap (λ j. hex_digits j n) (add-zero k) ∙ sym (append-nil (hex_digits k n))
digits-after k n (b ∷ bs) h =
    let d = hex-digit-value b h.0 in
    let j : k + length (b ∷ bs) ≡ k + 1 + length bs = omega arith in
    ap (λ i. hex_digits i (digits_value_after 16 n (b ∷ bs))) j
    ∙ digits-after (k + 1) (n * 16 + digit_value b) bs h.1
    ∙ ap (λ l. l ++ bs) (hex_digits-more k n (digit_value b) d.0)
    ∙ append_assoc (hex_digits k n) (hex_digit (digit_value b) ∷ []) bs
    ∙ ap (λ c. hex_digits k n ++ (c ∷ bs)) d.1

-- digits are those of the number that they write
pub hex_digits-digits_value : (bytes : List ℕ) → AreHex bytes → hex_digits (length bytes) (digits_value 16 bytes) ≡ bytes
unfolding hex_digits
hex_digits-digits_value bytes h =
    let long : length bytes ≡ 0 + length bytes = omega arith in
    ap (λ j. hex_digits j (digits_value 16 bytes)) long ∙ digits-after 0 0 bytes h

-- they are digits in std's sense too
pub AllDigits-hex : (bytes : List ℕ) → AreHex bytes → AllDigits 16 bytes
AllDigits-hex [] h = tt
AllDigits-hex (b ∷ bs) h = ((hex-digit-value b h.0).0, AllDigits-hex bs h.1)

-- ---- reading the digits of a limb
digit-below : (digits : List ℕ) (i : ℕ) → AllDigits 16 digits → i < length digits → digit_value (get_or digits i 0) < 16
digit-below [] i h l = absurd (omega arith)
digit-below (b ∷ bs) zero h l = h.0
digit-below (b ∷ bs) (suc i) h l = digit-below bs i h.1 (omega arith)

-- and so are the first i of such
AllDigits-take : (digits : List ℕ) (i : ℕ) → AllDigits 16 digits → AllDigits 16 (take i digits)
AllDigits-take [] zero h = tt
AllDigits-take [] (suc i) h = tt
AllDigits-take (b ∷ bs) zero h = tt
AllDigits-take (b ∷ bs) (suc i) h = (h.0, AllDigits-take bs i h.1)

-- one more digit of a limb
pub record MoreDigits (digits : List ℕ) (i limb : ℕ) : Type 0 where
  pub digit : digit_value (get_or digits i 0) < 16
  pub value : limb * 16 + digit_value (get_or digits i 0) ≡ digits_value 16 (take (i + 1) digits)
  pub fits : limb * 16 + digit_value (get_or digits i 0) < 2 ^ 32

-- a limb keeps what it is and fits, digit by digit
pub more-digits : (digits : List ℕ) (i limb : ℕ) → AllDigits 16 digits → length digits ≤ 8 → i < length digits → limb ≡ digits_value 16 (take i digits) → MoreDigits digits i limb
more-digits digits i limb h few l e =
    let value : limb * 16 + digit_value (get_or digits i 0) ≡ digits_value 16 (take (i + 1) digits) = omega (arith, digits_value_more 16 digits i l, e) in
    let below = digits_value-lt 16 (take (i + 1) digits) (AllDigits-take digits (i + 1) h) in
    let long : length (take (i + 1) digits) ≤ 8 = omega (arith, length-take-le (i + 1) digits (omega arith)) in
    let most : 16 ^ length (take (i + 1) digits) ≤ 16 ^ 8 = pow-le-pow_right {n = 16} (omega arith) long in
    record { digit = digit-below digits i h l; value = value; fits = omega arith }
