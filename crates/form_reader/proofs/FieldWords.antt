-- The fields, with the bytes of which their words consist.
use Rattle.std.proofs.Common.{ℕ, true, List, [], ◌∷◌, codes, None, pos, refl, sym, subst, arith}
use Rattle.std.specs.Fmt.{decimal}
use Rattle.forms.specs.Parts.{TenDigits}
use Rattle.fields.specs.Words.{is_word_byte, IsSign, IsNatural, IsInteger, IsFloor, IsRunWord, IsLimbsText, IsKeyword, limbs_between}
use Rattle.fields.specs.Checking.{keyword_of, sign_of, natural_of, integer_of, floor_of, run_of, limbs_of}
use Rattle.fields.proofs.Signs.{signs_check}
use Rattle.fields.proofs.Naturals.{naturals_check}
use Rattle.fields.proofs.Integers.{integers_check}
use Rattle.fields.proofs.Floors.{floors_check}
use Rattle.fields.proofs.Runs.{runs_check}
use Rattle.fields.proofs.LimbTexts.{limb_texts_check}
use Rattle.fields.proofs.Keywords.{keywords_check}
use Rattle.fields.proofs.WordBytes.{signs_are_words, naturals_are_words, integers_are_words, floors_are_words, runs_are_words, limb_texts_have_limb_bytes}
use Rattle.form_reader.specs.Reading.{is_limb_byte}
use Rattle.form_reader.proofs.FrontWords.{Pass}
use Rattle.form_reader.proofs.StepLaws.{Field}

-- 0 has a spelling
zero-digits : TenDigits 0
zero-digits = omega arith

-- a sign
pub sign-field : Field is_word_byte IsSign sign_of
sign-field = record { checks = signs_check; passes = λ a w h. (signs_are_words a w h).each; some = (true, codes "-", refl) }

-- a number
pub natural-field : Field is_word_byte IsNatural natural_of
natural-field = record { checks = naturals_check; passes = λ a w h. (naturals_are_words a w h).each; some = (0, decimal 0, (zero-digits, refl)) }

-- an integer
pub integer-field : Field is_word_byte IsInteger integer_of
integer-field = record { checks = integers_check; passes = λ a w h. (integers_are_words a w h).each; some = (pos 0, decimal 0, (zero-digits, refl)) }

-- a floor
pub floor-field : Field is_word_byte IsFloor floor_of
floor-field = record { checks = floors_check; passes = λ a w h. (floors_are_words a w h).each; some = (None, codes "free", (tt, refl)) }

-- a run
pub run-field : Field is_word_byte IsRunWord run_of
run-field = record { checks = runs_check; passes = λ a w h. (runs_are_words a w h).each; some = (codes "A", codes "A", (record { some = omega arith; each = (refl, tt) }, refl)) }

-- limbs, between their brackets
pub limbs-field : Field is_limb_byte IsLimbsText limbs_of
limbs-field = record { checks = limb_texts_check; passes = limb_texts_have_limb_bytes; some = (0 ∷ [], limbs_between (0 ∷ []), (record { some = omega arith; each = (omega arith, tt) }, refl)) }

-- a keyword
pub keyword-field : (keyword : List ℕ) → Pass is_word_byte keyword → Field is_word_byte (IsKeyword keyword) (keyword_of keyword)
keyword-field keyword pass = record { checks = keywords_check keyword; passes = λ a w e. subst (Pass is_word_byte) (sym e) pass; some = (tt, keyword, refl) }
