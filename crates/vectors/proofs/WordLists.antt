-- The words of a line as a list, and the numbers that they are.
use Rattle.std.proofs.Common.{◌≡◌, ℕ, suc, ◌+◌, ◌^◌, Bool, true, false, List, [], ◌∷◌, length, eqb, ltb, cond, ℤ, pos, negsuc, Some, None, Ok, Err, Result, Decides, refl, sym, ap, ◌∙◌, arith}
use Rattle.std.specs.Option.{option_map}
use Rattle.std.specs.Result.{result_ok, OkIff}
use Rattle.std.specs.Char.{digit_value}
use Rattle.std.specs.List.{list_all, position_or_len}
use Rattle.std.specs.Str.Parse.{AllDigits, IsNumeral, ParsesUnsigned, ParsesSigned, digits_value, signed_digits_value, without_leading_plus, without_leading_sign}
use Rattle.std.specs.Int.RustNames.{FitsSigned}
use Rattle.std.proofs.lemmas.Bool.Decides.{Decides-and, Decides-ltb, Decides-like}
use mir.Syntax.{w64}
use Rattle.vectors.specs.Words.{first_word, other_words, words_of, is_numeral, number_of, has_64_bits, integer_of}
use Rattle.vectors.specs.Cases.{number_first, integer_first}

bool_cases : {P : Type 0} (t : Bool) → (t ≡ true → P) → (t ≡ false → P) → P
bool_cases true yes_case no_case = yes_case refl
bool_cases false yes_case no_case = no_case refl

-- a word, and those behind it
at_space : (b : ℕ) (bs : List ℕ) → eqb b 32 ≡ true → words_of (b ∷ bs) ≡ first_word (b ∷ bs) ∷ words_of (other_words (b ∷ bs))
unfolding words_of
at_space b bs space = rw space

at_other : (b : ℕ) (bs : List ℕ) → eqb b 32 ≡ false → words_of bs ≡ first_word bs ∷ words_of (other_words bs) → words_of (b ∷ bs) ≡ first_word (b ∷ bs) ∷ words_of (other_words (b ∷ bs))
unfolding words_of
at_other b bs other rest =
    let n = position_or_len (λ x. eqb x 32) bs in
    let one : 1 + n ≡ suc n = omega arith in
    let two : suc n + 1 ≡ suc (n + 1) = omega arith in
    rw (other, one, two, rest)

pub words_of-cons : (b : ℕ) (bs : List ℕ) → words_of (b ∷ bs) ≡ first_word (b ∷ bs) ∷ words_of (other_words (b ∷ bs))
unfolding words_of
words_of-cons b [] = grind arith
words_of-cons b (c ∷ bs) = bool_cases (eqb b 32) (at_space b (c ∷ bs)) (λ other. at_other b (c ∷ bs) other (words_of-cons c bs))

-- ---- numerals
AllDigits-decides : (radix : ℕ) (ds : List ℕ) → Decides (list_all (λ c. ltb (digit_value c) radix) ds) (AllDigits radix ds)
AllDigits-decides radix [] = (λ _. tt, λ _. refl)
AllDigits-decides radix (c ∷ cs) = Decides-and _ _ (Decides-ltb (digit_value c) radix) (AllDigits-decides radix cs)

is_numeral-decides : (radix : ℕ) (ds : List ℕ) → Decides (is_numeral radix ds) (IsNumeral radix ds)
is_numeral-decides radix ds = Decides-and _ _ (Decides-ltb 0 (length ds)) (AllDigits-decides radix ds)

-- a result that is there exactly where a test holds
by_test : {A E P : Type 0} (t : Bool) (v : A) (r : Result A E) → Decides t P → OkIff r P v → result_ok r ≡ cond t (Some v) None
by_test true v (Ok x) d h = ap Some h.1
by_test false v (Ok x) d h = grind (arith, d.1 h.0)
by_test true v (Err e) d h = absurd (h (d.0 refl))
by_test false v (Err e) d h = refl

pub number_of-parsed : {E : Type 0} (radix : ℕ) (word : List ℕ) (r : Result ℕ E) → ParsesUnsigned 32 radix word r → result_ok r ≡ number_of radix word
unfolding number_of
number_of-parsed radix word r h = let ds = without_leading_plus word in
    by_test _ _ r (Decides-and _ _ (is_numeral-decides radix ds) (Decides-ltb (digits_value radix ds) (2 ^ 32))) h

has_64_bits-decides : (z : ℤ) → Decides (has_64_bits z) (FitsSigned w64 z)
has_64_bits-decides (pos n) = Decides-like _ (λ h. record { sfits = h }) (λ f. f.sfits) (Decides-ltb n (2 ^ 63))
has_64_bits-decides (negsuc n) = Decides-like _ (λ h. record { sfits = h }) (λ f. f.sfits) (Decides-ltb n (2 ^ 63))

pub integer_of-parsed : {E : Type 0} (word : List ℕ) (r : Result ℤ E) → ParsesSigned w64 10 word r → result_ok r ≡ integer_of word
unfolding integer_of
integer_of-parsed word r h =
    by_test _ _ r (Decides-and _ _ (is_numeral-decides 10 (without_leading_sign word)) (has_64_bits-decides (signed_digits_value 10 word))) h

-- ---- the first word
pub number_first-words : (radix : ℕ) (bs : List ℕ) → number_first radix (words_of bs) ≡ option_map (λ n. (n, words_of (other_words bs))) (number_of radix (first_word bs))
unfolding words_of number_of
number_first-words radix [] = refl
number_first-words radix (b ∷ bs) = ap (number_first radix) (words_of-cons b bs)

pub integer_first-words : (bs : List ℕ) → integer_first (words_of bs) ≡ option_map (λ z. (z, words_of (other_words bs))) (integer_of (first_word bs))
unfolding words_of integer_of
integer_first-words [] = refl
integer_first-words (b ∷ bs) = ap integer_first (words_of-cons b bs)

-- what was parsed of the first word, and what is left behind it
pub number_first-ok : {E : Type 0} (radix : ℕ) (bs rest : List ℕ) (r : Result ℕ E) (n : ℕ) → ParsesUnsigned 32 radix (first_word bs) r → rest ≡ other_words bs → r ≡ Ok n
    → number_first radix (words_of bs) ≡ Some (n, words_of rest)
number_first-ok radix bs rest r n h behind ok =
    let some = sym (number_of-parsed radix (first_word bs) r h) ∙ ap result_ok ok in
    rw (number_first-words radix bs, some, ← behind)

pub number_first-err : {E : Type 0} (radix : ℕ) (bs : List ℕ) (r : Result ℕ E) (d : E) → ParsesUnsigned 32 radix (first_word bs) r → r ≡ Err d → number_first radix (words_of bs) ≡ None
number_first-err radix bs r d h err =
    let none = sym (number_of-parsed radix (first_word bs) r h) ∙ ap result_ok err in
    rw (number_first-words radix bs, none)

pub integer_first-ok : {E : Type 0} (bs rest : List ℕ) (r : Result ℤ E) (z : ℤ) → ParsesSigned w64 10 (first_word bs) r → rest ≡ other_words bs → r ≡ Ok z
    → integer_first (words_of bs) ≡ Some (z, words_of rest)
integer_first-ok bs rest r z h behind ok =
    let some = sym (integer_of-parsed (first_word bs) r h) ∙ ap result_ok ok in
    rw (integer_first-words bs, some, ← behind)

pub integer_first-err : {E : Type 0} (bs : List ℕ) (r : Result ℤ E) (d : E) → ParsesSigned w64 10 (first_word bs) r → r ≡ Err d → integer_first (words_of bs) ≡ None
integer_first-err bs r d h err =
    let none = sym (integer_of-parsed (first_word bs) r h) ∙ ap result_ok err in
    rw (integer_first-words bs, none)
