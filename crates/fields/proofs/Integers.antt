-- What is read of an integer.
use Rattle.std.proofs.Common.{◌≡◌, ℕ, true, false, zero, suc, ◌+◌, ◌^◌, ◌<◌, List, [], ◌∷◌, ◌++◌, length, get_or, take, Ok, Err, Result, decimal, ℤ, pos, negsuc, neg_ℤ, refl, sym, ap, ◌∙◌, subst, ⊎_elim, arith, add-one}
use Rattle.std.specs.Prelude.{◌==◌, slice_index}
use Rattle.std.specs.Result.{result_map_both}
use Rattle.std.proofs.lemmas.Bool.{cases_Bool, cases_lt, cond-true, cond-false, eqb-true, eqb-false, false≢true}
use Rattle.std.proofs.lemmas.List.{get_or-take, get_or_append_left, length-take-le}
use Rattle.std.proofs.lemmas.Fmt.{decimal_digit, decimal_nonempty, first_decimal, signed_decimal_injective}
use lib.Signed.{mag}
use Rattle.forms.specs.Parts.{TenSigned}
use Rattle.forms.specs.Languages.{Begins, Refused}
use Rattle.fields.specs.Words.{IsNatural, IsInteger}
use Rattle.fields.specs.Checking.{natural_of, begins_with, negative_of, integer_of}
use Rattle.fields.specs.Laws.{AnyWord, Checks}
use Rattle.fields.proofs.Refusals.{Reads, refused_at, refused_end, refused_after, checks}
use Rattle.fields.proofs.Naturals.{decimal-byte, reads-natural}

-- the digits of an integer below zero
abbrev IsNegative : ℕ → List ℕ → Type 0
IsNegative n digits = (0 < n) × IsNatural n digits

-- after a minus sign come the digits of a number above zero
after-minus : (digits : List ℕ) → AnyWord IsInteger (45 ∷ digits) → AnyWord IsNegative digits
after-minus digits (pos n, (h, e)) = let d = decimal-byte n [] digits 45 h e in absurd (omega arith)
after-minus digits (negsuc n, (h, e)) = (suc n, (omega arith, (h, cc)))

-- and such digits after a minus sign are an integer
with-minus : (digits : List ℕ) → AnyWord IsNegative digits → AnyWord IsInteger (45 ∷ digits)
with-minus digits (zero, (some, h)) = absurd (omega arith)
with-minus digits (suc n, (some, (h, e))) = (negsuc n, (h, ap (λ l. 45 ∷ l) e))

-- a word that begins otherwise is a number
no-minus : (b : ℕ) (bs : List ℕ) → ¬ (b ≡ 45) → AnyWord IsInteger (b ∷ bs) → AnyWord IsNatural (b ∷ bs)
no-minus b bs other (pos n, h) = (n, h)
no-minus b bs other (negsuc n, (h, e)) = absurd (other (cc))

-- a word that does not begin with a byte
begins-otherwise : (byte : ℕ) (word : List ℕ) → 0 < byte → begins_with byte word ≡ false → ¬ (slice_index word 0 ≡ byte)
begins-otherwise byte [] some e f = omega (arith, f)
begins-otherwise byte (b ∷ bs) some e f = eqb-false b byte e f

-- digits that do not begin with 0 are refused as those of a number above zero just as those of a number
refused-negative : (digits : List ℕ) (k : ℕ) → ¬ (slice_index digits 0 ≡ 48) → Refused (AnyWord IsNatural) digits k → Refused (AnyWord IsNegative) digits k
refused-negative digits k lead r = record {
  within = r.within;
  goes = goes r.goes;
  stuck = λ l b. r.stuck l (b.0, (b.1.0, b.1.1.1));
  ends = λ e l. r.ends e (l.0, l.1.1);
}
  where
    empty-goes : k ≡ 0 → Begins (AnyWord IsNegative) (take k digits)
    empty-goes e = subst (λ j. Begins (AnyWord IsNegative) (take j digits)) (sym e) (decimal 1, (1, (omega arith, (omega arith, refl))))

    goes : Begins (AnyWord IsNatural) (take k digits) → Begins (AnyWord IsNegative) (take k digits)
    goes (rest, (n, (h, e))) =
        ⊎_elim
        (λ some. (rest, (n, (some, (h, e)))))
        (λ zero. ⊎_elim
        (λ more.
        let none : n ≡ 0 = omega arith in
        let some : 0 < length (take k digits) = omega (arith, length-take-le k digits r.within) in
        absurd (lead (
        sym (get_or-take k digits 0 0 more)
        ∙ sym (get_or_append_left (take k digits) rest 0 0 some)
        ∙ ap (λ w. get_or w 0 0) (e ∙ ap decimal none ∙ decimal_digit 0 (omega arith))
        )))
        (λ first. empty-goes (omega arith))
        (cases_lt 0 k))
        (cases_lt 0 n)

-- what is read after a minus sign
reads-negative : (digits : List ℕ) → Reads IsInteger (45 ∷ digits) (negative_of digits)
reads-negative digits =
    ⊎_elim
    (λ zero. subst (Reads IsInteger (45 ∷ digits)) (sym (cond-true (begins_with 48 digits) _ _ zero)) (leading digits zero))
    (λ other. subst (Reads IsInteger (45 ∷ digits)) (sym (cond-false (begins_with 48 digits) _ _ other)) (by_outcome (begins-otherwise 48 digits (omega arith) other) (natural_of digits) (reads-natural digits)))
    (cases_Bool (begins_with 48 digits))
  where
    no-zero : (rest : List ℕ) → ¬ AnyWord IsInteger (45 ∷ (48 ∷ rest))
    no-zero rest l =
        let n = after-minus (48 ∷ rest) l in
        omega (arith, first_decimal n.0 n.1.0 (omega (arith, n.1.1.0)), ap (λ w. get_or w 0 0) n.1.1.1)

    leading : (digits : List ℕ) → begins_with 48 digits ≡ true → Reads IsInteger (45 ∷ digits) (Err 1)
    leading [] e = absurd (false≢true e)
    leading (b ∷ bs) e =
        subst (λ c. Refused (AnyWord IsInteger) (45 ∷ (c ∷ bs)) 1) (sym (eqb-true b 48 e))
        (refused_at (AnyWord IsInteger) (45 ∷ []) bs 48 (decimal 1, (negsuc 0, (omega arith, refl))) (λ more. no-zero more.0 more.1))

    by_outcome : ¬ (slice_index digits 0 ≡ 48) → (outcome : Result ℕ ℕ) → Reads IsNatural digits outcome → Reads IsInteger (45 ∷ digits) (result_map_both (λ n. neg_ℤ (pos n)) (λ place. place + 1) outcome)
    by_outcome lead (Ok zero) h = absurd (lead (ap (λ w. get_or w 0 0) (h.1 ∙ decimal_digit 0 (omega arith))))
    by_outcome lead (Ok (suc n)) h = (h.0, ap (λ l. 45 ∷ l) h.1)
    by_outcome lead (Err k) r = refused_after (AnyWord IsInteger) (AnyWord IsNegative) 45 digits k with-minus after-minus (refused-negative digits k lead r)

-- what is read of a word with no minus sign
reads-plain : (b : ℕ) (bs : List ℕ) → ¬ (b ≡ 45) → (outcome : Result ℕ ℕ) → Reads IsNatural (b ∷ bs) outcome → Reads IsInteger (b ∷ bs) (result_map_both pos (λ place. place) outcome)
reads-plain b bs other (Ok n) h = h
reads-plain b bs other (Err k) r =
    let more : take (k + 1) (b ∷ bs) ≡ b ∷ take k bs = ap (λ j. take j (b ∷ bs)) (add-one k) in
    record {
      within = r.within;
      goes = (r.goes.0, (pos r.goes.1.0, r.goes.1.1));
      stuck = λ l g.
          r.stuck l (g.0, subst (λ w. AnyWord IsNatural (w ++ g.0)) (sym more) (no-minus b (take k bs ++ g.0) other (subst (λ w. AnyWord IsInteger (w ++ g.0)) more g.1)));
      ends = λ e l. r.ends e (no-minus b bs other l);
    }

-- an integer is read or refused
pub reads-integer : (word : List ℕ) → Reads IsInteger word (integer_of word)
reads-integer [] = refused_end (AnyWord IsInteger) [] (decimal 0, (pos 0, (omega arith, refl))) empty
  where
    empty : ¬ AnyWord IsInteger []
    empty (pos n, (h, e)) = omega (arith, decimal_nonempty n (omega arith), ap length e)
    empty (negsuc n, (h, e)) = omega (arith, ap length e)
reads-integer (b ∷ bs) =
    ⊎_elim
    (λ minus. subst (Reads IsInteger (b ∷ bs)) (sym (cond-true (b == 45) _ _ minus)) (subst (λ c. Reads IsInteger (c ∷ bs) (negative_of bs)) (sym (eqb-true b 45 minus)) (reads-negative bs)))
    (λ other. subst (Reads IsInteger (b ∷ bs)) (sym (cond-false (b == 45) _ _ other)) (reads-plain b bs (eqb-false b 45 other) (natural_of (b ∷ bs)) (reads-natural (b ∷ bs))))
    (cases_Bool (b == 45))

-- integers of ten digits are small
ten-signed : (z : ℤ) → TenSigned z → mag z < 2 ^ 63
ten-signed (pos n) h = omega arith
ten-signed (negsuc n) h = omega arith

-- a word spells one integer
pub one-integer : (y z : ℤ) (word : List ℕ) → IsInteger y word → IsInteger z word → y ≡ z
one-integer y z word e f = signed_decimal_injective y z (ten-signed y e.0) (ten-signed z f.0) (sym e.1 ∙ f.1)

-- integers are checked
pub integers_check : Checks IsInteger integer_of
integers_check = checks IsInteger integer_of reads-integer one-integer

-- ---- what the readers come to
pub negative_found : (digits : List ℕ) (n : ℕ) → begins_with 48 digits ≡ false → natural_of digits ≡ Ok n → negative_of digits ≡ Ok (neg_ℤ (pos n))
negative_found digits n lead e = cond-false (begins_with 48 digits) _ _ lead ∙ ap (result_map_both (λ n. neg_ℤ (pos n)) (λ place. place + 1)) e

-- and a word with none
pub integer_found : (word : List ℕ) (n : ℕ) → begins_with 45 word ≡ false → natural_of word ≡ Ok n → integer_of word ≡ Ok (pos n)
integer_found word n plain e = cond-false (begins_with 45 word) _ _ plain ∙ ap (result_map_both pos (λ place. place)) e
