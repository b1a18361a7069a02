-- What is read of a number.
use Rattle.std.proofs.Common.{◌≡◌, ℕ, ◌+◌, ◌*◌, ◌^◌, ◌<◌, ◌≤◌, true, false, cond, ◌⊎◌, inl, inr, List, [], ◌∷◌, ◌++◌, length, get_or, drop, Ok, Err, decimal, refl, sym, ap, ◌∙◌, subst, ⊎_elim, arith, append-nil, append_assoc, length-append, pow-suc, add-one}
use native.Mathlib.Nat.{pow-le-pow_right}
use Rattle.std.specs.Prelude.{◌==◌, ◌&&◌, nat_lt}
use Rattle.std.specs.Char.{digit_value, is_digit}
use Rattle.std.specs.Int.{IsInRange}
use Rattle.std.specs.Str.Parse.{digits_value, AllDigits}
use Rattle.std.proofs.lemmas.Bool.{cases_Bool, cases_lt, cond-true, cond-false, and_parts, and_from, and_left, or_cases, or_left, or_right, ltb-true, lt-ltb, eqb-true, eqb-false, eq-eqb, false≢true}
use Rattle.std.proofs.lemmas.List.{at_drop_more, nil_from_length, length_push, get_or_push, get_or_append_left}
use Rattle.std.proofs.lemmas.Nat.{div-mul-add, mod-mul-add}
use Rattle.std.proofs.lemmas.Str.{digit_value_digit}
use Rattle.std.proofs.lemmas.Str.Parse.{IsNumeralModel, numerals_by_value, tells_digits, digit_at, digit_from_value}
use Rattle.std.proofs.lemmas.Fmt.{decimal_digit, decimal_step, decimal_nonempty, decimal_injective, length-decimal-le, first_decimal, digits_decimal}
use Rattle.forms.specs.Languages.{Begins}
use Rattle.fields.specs.Words.{IsNatural}
use Rattle.fields.specs.Checking.{natural_from, natural_of, has_room}
use Rattle.fields.specs.Laws.{AnyWord, Checks}
use Rattle.fields.proofs.Refusals.{Reads, refused_at, refused_end, checks}

-- std's digits, and the number that they write
pub numerals : IsNumeralModel (AllDigits 10) (digits_value 10)
numerals = numerals_by_value (AllDigits 10) tells_digits

-- each byte of a number is a digit
pub decimal-byte : (n : ℕ) (front back : List ℕ) (b : ℕ) → n < 10 ^ 10 → front ++ (b ∷ []) ++ back ≡ decimal n → IsInRange 48 57 b
decimal-byte n front back b h e =
    let long : length front < length (front ++ (b ∷ [])) = omega (arith, length_push front b) in
    let at : get_or (decimal n) (length front) 0 ≡ b =
    ap (λ w. get_or w (length front) 0) (sym e) ∙ get_or_append_left (front ++ (b ∷ [])) back 0 (length front) long ∙ get_or_push front b 0 (length front) refl in
    subst (IsInRange 48 57) at (digit_at (decimal n) (length front) (digits_decimal numerals n (omega arith)) (omega (arith, ap length e, length-append (front ++ (b ∷ [])) back)))

-- one more digit
decimal-more : (n d : ℕ) → 0 < n → d < 10 → n * 10 + d < 2 ^ 64 → decimal (n * 10 + d) ≡ decimal n ++ ((48 + d) ∷ [])
decimal-more n d some h fits = decimal_step (n * 10 + d) (omega arith) fits ∙ (λ i. decimal (div-mul-add n 10 d h i) ++ ((48 + mod-mul-add n 10 d h i) ∷ []))

-- the digits so far are of this value
pub record Sofar (front : List ℕ) (value : ℕ) : Type 0 where
  pub below : value < 10 ^ length front
  pub short : length front ≤ 10
  pub is : 0 < length front → front ≡ decimal value

-- ten digits or fewer stay below 10 ^ 10
pub ten-digits : (n k : ℕ) → n < 10 ^ k → k ≤ 10 → n < 10 ^ 10
ten-digits n k h l = let m : 10 ^ k ≤ 10 ^ 10 = pow-le-pow_right {n = 10} (omega arith) l in omega arith

-- where there is room for a digit
pub room : (value place : ℕ) → has_room value place ≡ true → (place ≡ 0) ⊎ ((0 < value) × (place < 10))
room value place h =
    ⊎_elim
    (λ first. inl (eqb-true place 0 first))
    (λ later. let both = and_parts (nat_lt 0 value) (nat_lt place 10) later in inr (ltb-true 0 value both.0, ltb-true place 10 both.1))
    (or_cases (place == 0) (nat_lt 0 value && nat_lt place 10) h)

-- where there are no digits yet
no-digits : (front : List ℕ) (value : ℕ) → Sofar front value → length front ≡ 0 → (front ≡ []) × (value ≡ 0)
no-digits front value s none = (nil_from_length front none, let h : value < 10 ^ 0 = subst (λ k. value < 10 ^ k) none s.below in omega arith)

-- one more digit of the value
sofar-more : (front : List ℕ) (value b : ℕ) → Sofar front value → has_room value (length front) ≡ true → digit_value b < 10 → Sofar (front ++ (b ∷ [])) (value * 10 + digit_value b)
sofar-more front value b s h digit =
    let long : length (front ++ (b ∷ [])) ≡ length front + 1 = length_push front b in
    let below : value * 10 + digit_value b < 10 ^ (length front + 1) = rw (add-one, pow-suc) (omega (arith, s.below)) in
    let few : length front < 10 = ⊎_elim (λ first. omega arith) (λ later. later.1) (room value (length front) h) in
    let small = ten-digits (value * 10 + digit_value b) (length front + 1) below (omega arith) in
    let byte : 48 + digit_value b ≡ b = omega (arith, digit_value_digit b (digit_from_value b digit)) in
    record {
      below = subst (λ k. value * 10 + digit_value b < 10 ^ k) (sym long) below;
      short = omega arith;
      is = λ _. ⊎_elim
          (λ first.
          let none = no-digits front value s first in
          let d : value * 10 + digit_value b ≡ digit_value b = omega (arith, none.1) in
          ap (λ l. l ++ (b ∷ [])) none.0 ∙ ap (λ c. c ∷ []) (sym byte) ∙ sym (decimal_digit (digit_value b) digit) ∙ ap decimal (sym d))
          (λ later.
          ap (λ l. l ++ (b ∷ [])) (s.is (⊎_elim (λ l. l) (λ l. let none = no-digits front value s (omega arith) in omega (arith, none.1)) (cases_lt 0 (length front))))
          ∙ ap (λ c. decimal value ++ (c ∷ [])) (sym byte)
          ∙ sym (decimal-more value (digit_value b) later.0 digit (omega arith)))
          (room value (length front) h);
    }

-- the digits so far begin a number
sofar-begins : (front : List ℕ) (value : ℕ) → Sofar front value → Begins (AnyWord IsNatural) front
sofar-begins front value s =
    ⊎_elim
    (λ some. ([], (value, (ten-digits value (length front) s.below s.short, append-nil front ∙ s.is some))))
    (λ none. (decimal 0, (0, (omega arith, ap (λ l. l ++ decimal 0) (nil_from_length front (omega arith))))))
    (cases_lt 0 (length front))

-- a digit of a number has room
number-has-room : (front back : List ℕ) (value b n : ℕ) → Sofar front value → n < 10 ^ 10 → front ++ (b ∷ []) ++ back ≡ decimal n → has_room value (length front) ≡ true
number-has-room front back value b n s h e =
    ⊎_elim
    (λ later. or_right (length front == 0) _ (and_from _ _ (lt-ltb 0 value (⊎_elim (λ l. l) (λ z. no-zero later (omega arith)) (cases_lt 0 value))) (lt-ltb (length front) 10 (omega (arith, long, length-decimal-le 10 n (omega arith) h (omega arith))))))
    (λ first. or_left (length front == 0) _ (eq-eqb (length front) 0 (omega arith)))
    (cases_lt 0 (length front))
  where
    long : length front + 1 + length back ≡ length (decimal n)
    long = omega (arith, ap length e, length-append (front ++ (b ∷ [])) back, length_push front b)

    no-zero : 0 < length front → value ≡ 0 → 0 < value
    no-zero some zero =
        let one : front ≡ 48 ∷ [] = s.is some ∙ ap decimal zero ∙ decimal_digit 0 (omega arith) in
        let first : get_or (decimal n) 0 0 ≡ 48 = ap (λ w. get_or w 0 0) (sym e ∙ ap (λ l. l ++ (b ∷ []) ++ back) one) in
        ⊎_elim
        (λ more. omega (arith, first_decimal n more (omega arith)))
        (λ none. let same : n ≡ 0 = omega arith in omega (arith, long, ap length (ap decimal same ∙ decimal_digit 0 (omega arith)), ap length one))
        (cases_lt 0 n)

-- what is read of the rest, after the digits so far
pub reads-natural-from : (rest front : List ℕ) (value : ℕ) → Sofar front value → Reads IsNatural (front ++ rest) (natural_from value (length front) rest)
reads-natural-from [] front value s =
    subst (λ w. Reads IsNatural w (cond (length front == 0) (Err 0) (Ok value))) (sym (append-nil front))
    (⊎_elim
    (λ none.
    let zero : length front ≡ 0 = eqb-true (length front) 0 none in
    subst (Reads IsNatural front) (ap (λ k. Err k) zero ∙ sym (cond-true (length front == 0) (Err 0) (Ok value) none))
    (refused_end (AnyWord IsNatural) front (sofar-begins front value s) (λ l. omega (arith, decimal_nonempty l.0 (omega (arith, l.1.0)), ap length l.1.1))))
    (λ some.
    let more : 0 < length front = ⊎_elim (λ l. l) (λ z. absurd (eqb-false (length front) 0 some (omega arith))) (cases_lt 0 (length front)) in
    subst (Reads IsNatural front) (sym (cond-false (length front == 0) (Err 0) (Ok value) some)) (ten-digits value (length front) s.below s.short, s.is more))
    (cases_Bool (length front == 0)))
reads-natural-from (b ∷ bs) front value s =
    ⊎_elim
    (λ goes.
    let both = and_parts (has_room value (length front)) (is_digit b 10) goes in
    let more = sofar-more front value b s both.0 (ltb-true (digit_value b) 10 both.1) in
    subst (Reads IsNatural (front ++ (b ∷ bs))) (sym (cond-true (has_room value (length front) && is_digit b 10) _ _ goes))
    (subst (λ k. Reads IsNatural (front ++ (b ∷ bs)) (natural_from (value * 10 + digit_value b) k bs)) (length_push front b)
    (subst (λ w. Reads IsNatural w (natural_from (value * 10 + digit_value b) (length (front ++ (b ∷ []))) bs)) (append_assoc front (b ∷ []) bs)
    (reads-natural-from bs (front ++ (b ∷ [])) (value * 10 + digit_value b) more))))
    (λ stops.
    subst (Reads IsNatural (front ++ (b ∷ bs))) (sym (cond-false (has_room value (length front) && is_digit b 10) _ _ stops))
    (refused_at (AnyWord IsNatural) front bs b (sofar-begins front value s) (λ g.
    let digit = decimal-byte g.1.0 front g.0 b g.1.1.0 g.1.1.1 in
    false≢true (sym stops ∙ and_from _ _ (number-has-room front g.0 value b g.1.0 s g.1.1.0 g.1.1.1) (lt-ltb (digit_value b) 10 (omega (arith, digit_value_digit b digit)))))))
    (cases_Bool (has_room value (length front) && is_digit b 10))

-- a number is read or refused
pub reads-natural : (word : List ℕ) → Reads IsNatural word (natural_of word)
reads-natural word = reads-natural-from word [] 0 (record { below = omega arith; short = omega arith; is = λ l. absurd (omega arith) })

-- a word spells one number
pub one-natural : (m n : ℕ) (word : List ℕ) → IsNatural m word → IsNatural n word → m ≡ n
one-natural m n word e f = decimal_injective m n (omega (arith, e.0)) (omega (arith, f.0)) (sym e.1 ∙ f.1)

-- numbers are checked
pub naturals_check : Checks IsNatural natural_of
naturals_check = checks IsNatural natural_of reads-natural one-natural

-- ---- what a caller of the reading needs
-- reading stops where there is no room for a digit
pub natural_full : (value place : ℕ) (word : List ℕ) → place < length word → has_room value place ≡ false → natural_from value place (drop place word) ≡ Err place
natural_full value place word l h = at_drop_more (natural_from value place) word place 0 l ∙ cond-false _ _ _ (and_left (has_room value place) _ h)

-- what is read is below 10 ^ 10
pub natural_small : (word : List ℕ) (n : ℕ) → natural_of word ≡ Ok n → n < 10 ^ 10
natural_small word n e = (naturals_check.accepted n word e).0

-- a word is refused within it
pub natural_within : (word : List ℕ) (k : ℕ) → natural_of word ≡ Err k → k ≤ length word
natural_within word k e = (naturals_check.refused k word e).within
