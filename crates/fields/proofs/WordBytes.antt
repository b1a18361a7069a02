-- The bytes of which words consist.
use Rattle.std.proofs.Common.{◌≡◌, ℕ, suc, true, false, List, [], ◌∷◌, ◌++◌, Some, None, pos, negsuc, decimal, refl, sym, subst, arith, append-nil}
use Rattle.std.specs.Int.{IsInRange}
use Rattle.std.specs.List.{AllByRecursion}
use Rattle.std.specs.Prelude.{◌==◌, ◌||◌}
use Rattle.std.specs.Str.Parse.{AllDigits}
use Rattle.std.proofs.lemmas.Bool.{or_left}
use Rattle.std.proofs.lemmas.Bool.Decides.{nat_tests}
use Rattle.std.proofs.lemmas.Fmt.{decimal_nonempty, digits_decimal}
use Rattle.std.proofs.lemmas.Str.Parse.{digit_from_value}
use Rattle.forms.specs.Parts.{is_alphanumeric, limb_text, TenDigits}
use Rattle.fields.specs.Words.{IsSign, IsNatural, IsInteger, IsFloor, IsRunWord, IsLimbsText, limbs_between, is_word_byte, is_lowercase_hex, IsWord, HasLimbBytes}
use Rattle.fields.specs.Laws.{AreWords}
use Rattle.fields.proofs.HexDigits.{AreHex, AreHex-hex_digits}
use Rattle.fields.proofs.Naturals.{numerals}

-- a digit may stand in a word
digit-in-word : (b : ℕ) → IsInRange 48 57 b → is_word_byte b ≡ true
digit-in-word b h = grind (arith, nat_tests)

-- and so may digits
digits-in-word : (bytes : List ℕ) → AllDigits 10 bytes → AllByRecursion (λ b. is_word_byte b ≡ true) bytes
digits-in-word [] h = tt
digits-in-word (b ∷ bs) h = (digit-in-word b (digit_from_value b h.0), digits-in-word bs h.1)

-- a number is a word
decimal-is-word : (n : ℕ) → TenDigits n → IsWord (decimal n)
decimal-is-word n h = record { some = decimal_nonempty n (omega arith); each = digits-in-word (decimal n) (digits_decimal numerals n (omega arith)) }

-- signs are words
pub signs_are_words : AreWords IsSign
signs_are_words true word e = subst IsWord (sym e) (record { some = omega arith; each = (refl, tt) })
signs_are_words false word e = subst IsWord (sym e) (record { some = omega arith; each = (refl, tt) })

-- numbers are words
pub naturals_are_words : AreWords IsNatural
naturals_are_words n word h = subst IsWord (sym h.1) (decimal-is-word n h.0)

-- integers are words
pub integers_are_words : AreWords IsInteger
integers_are_words (pos n) word h = naturals_are_words n word h
integers_are_words (negsuc n) word h =
    subst IsWord (sym h.1) (record { some = omega arith; each = (refl, (decimal-is-word (suc n) h.0).each) })

-- floors are words
pub floors_are_words : AreWords IsFloor
floors_are_words None word h = subst IsWord (sym h.1) (record { some = omega arith; each = (refl, (refl, (refl, (refl, tt)))) })
floors_are_words (Some z) word h = integers_are_words z word h

-- letters and digits may stand in a word
run-in-word : (bytes : List ℕ) → AllByRecursion (λ b. is_alphanumeric b ≡ true) bytes → AllByRecursion (λ b. is_word_byte b ≡ true) bytes
run-in-word [] h = tt
run-in-word (b ∷ bs) h = (or_left (is_alphanumeric b || (b == 43)) (b == 45) (or_left (is_alphanumeric b) (b == 43) h.0), run-in-word bs h.1)

-- runs are words
pub runs_are_words : AreWords IsRunWord
runs_are_words run word h = subst IsWord (sym h.1) (record { some = h.0.some; each = run-in-word run h.0.each })

-- digits, and then bytes of limbs
limb-bytes-after : (digits rest : List ℕ) → AreHex digits → HasLimbBytes rest → HasLimbBytes (digits ++ rest)
limb-bytes-after [] rest h r = r
limb-bytes-after (b ∷ bs) rest h r = (or_left (is_lowercase_hex b) (b == 32) h.0, limb-bytes-after bs rest h.1 r)

-- limbs are of the bytes of limbs
limbs-between-bytes : (limbs : List ℕ) → HasLimbBytes (limbs_between limbs)
limbs-between-bytes [] = tt
limbs-between-bytes (x ∷ []) = subst HasLimbBytes (append-nil (limb_text x)) (limb-bytes-after (limb_text x) [] (AreHex-hex_digits 8 x) tt)
limbs-between-bytes (x ∷ y ∷ ys) = limb-bytes-after (limb_text x) (32 ∷ limbs_between (y ∷ ys)) (AreHex-hex_digits 8 x) (refl, limbs-between-bytes (y ∷ ys))

-- and so is each text that spells some
pub limb_texts_have_limb_bytes : (limbs text : List ℕ) → IsLimbsText limbs text → HasLimbBytes text
limb_texts_have_limb_bytes limbs text h = subst HasLimbBytes (sym h.1) (limbs-between-bytes limbs)
