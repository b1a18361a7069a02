-- What is read of limbs.
use Rattle.std.proofs.Common.{◌≡◌, ℕ, zero, suc, ◌+◌, ◌-◌, ◌*◌, ◌/◌, ◌%◌, ◌^◌, ◌<◌, ◌≤◌, true, List, [], ◌∷◌, ◌++◌, length, take, drop, get_or, replicate, None, refl, sym, ap, ◌∙◌, subst, arith, append_assoc, length-append, length-drop}
use Rattle.std.specs.Prelude.{◌==◌}
use Rattle.std.specs.List.{AllByRecursion}
use Rattle.std.specs.Result.{is_ok}
use Rattle.std.specs.Str.Parse.{digits_value, AllDigits}
use Rattle.std.proofs.lemmas.Bool.{cond-true, cond-false, eqb-true, eq-eqb, ne_eqb}
use Rattle.std.proofs.lemmas.Int.Digits.{digits_value-lt}
use Rattle.std.proofs.lemmas.List.{drop-drop, length-replicate, take_at, take_all, drop_at, drop_more, take-append-drop, length-take-le, length_push}
use Rattle.forms.specs.Parts.{limb_text, hex_digits, AreLimbs}
use Rattle.forms.specs.Languages.{Begins}
use Rattle.fields.specs.Words.{is_lowercase_hex, limbs_between, IsLimbsText}
use Rattle.fields.specs.Checking.{break_from, in_limbs, first_limbs, limbs_in, limbs_of}
use Rattle.fields.specs.Laws.{AnyWord, Checks}
use Rattle.fields.proofs.Refusals.{Reads, checks}
use Rattle.fields.proofs.ByPlaces.{ByPlaces, front-stands, break-append, break-split, unbroken-ok, reads_by_places}
use Rattle.fields.proofs.HexDigits.{AreHex, length-hex_digits, AreHex-hex_digits, digits_value-hex_digits, hex_digits-digits_value, AllDigits-hex}

-- nine places on, the same bytes stand
in_limbs-period : (i b : ℕ) → in_limbs (9 + i) b ≡ in_limbs i b
in_limbs-period i b = let r : (9 + i) % 9 ≡ i % 9 = omega arith in rw r

-- none breaks nine places on
pub break-period : (i : ℕ) (bytes : List ℕ) → break_from in_limbs i bytes ≡ None → break_from in_limbs (9 + i) bytes ≡ None
break-period i [] e = refl
break-period i (b ∷ bs) e =
    let h = front-stands in_limbs i b bs e in
    let next : 9 + i + 1 ≡ 9 + (i + 1) = omega arith in
    cond-true (in_limbs (9 + i) b) _ _ (in_limbs-period i b ∙ h.0) ∙ ap (λ j. break_from in_limbs j bs) next ∙ break-period (i + 1) bs h.1

-- nor nine places back
pub period-break : (i : ℕ) (bytes : List ℕ) → break_from in_limbs (9 + i) bytes ≡ None → break_from in_limbs i bytes ≡ None
period-break i [] e = refl
period-break i (b ∷ bs) e =
    let h = front-stands in_limbs (9 + i) b bs e in
    let next : 9 + (i + 1) ≡ 9 + i + 1 = omega arith in
    cond-true (in_limbs i b) _ _ (sym (in_limbs-period i b) ∙ h.0) ∙ period-break (i + 1) bs (ap (λ j. break_from in_limbs j bs) next ∙ h.1)

-- within a limb just digits stand
in_limbs-digit : (i b : ℕ) → i % 9 < 8 → in_limbs i b ≡ is_lowercase_hex b
in_limbs-digit i b h = cond-false (i % 9 == 8) _ _ (ne_eqb (i % 9) 8 (λ e. omega arith))

-- eight digits or fewer stand in a limb
digits-stand : (i : ℕ) (bytes : List ℕ) → i + length bytes ≤ 8 → AreHex bytes → break_from in_limbs i bytes ≡ None
digits-stand i [] l h = refl
digits-stand i (b ∷ bs) l h = cond-true _ _ _ (in_limbs-digit i b (omega arith) ∙ h.0) ∙ digits-stand (i + 1) bs (omega arith) h.1

-- what stands there is digits
standing-digits : (i : ℕ) (bytes : List ℕ) → i + length bytes ≤ 8 → break_from in_limbs i bytes ≡ None → AreHex bytes
standing-digits i [] l e = tt
standing-digits i (b ∷ bs) l e =
    let h = front-stands in_limbs i b bs e in
    (sym (in_limbs-digit i b (omega arith)) ∙ h.0, standing-digits (i + 1) bs (omega arith) h.1)

-- zeros stand up to the end of a limb
zeros-stand : (i n : ℕ) → i % 9 + n ≤ 8 → break_from in_limbs i (replicate n 48) ≡ None
zeros-stand i zero l = refl
zeros-stand i (suc n) l = cond-true _ _ _ (in_limbs-digit i 48 (omega arith)) ∙ zeros-stand (i + 1) n (omega arith)

-- how long the text of limbs is
pub length-limbs_between : (x : ℕ) (xs : List ℕ) → length (limbs_between (x ∷ xs)) + 1 ≡ 9 * length (x ∷ xs)
length-limbs_between x [] = omega (arith, length-hex_digits 8 x)
length-limbs_between x (y ∷ ys) = omega (arith, length-limbs_between y ys, length-hex_digits 8 x, length-append (limb_text x) (32 ∷ limbs_between (y ∷ ys)))

-- no byte of limbs breaks
limbs-stand : (x : ℕ) (xs : List ℕ) → break_from in_limbs 0 (limbs_between (x ∷ xs)) ≡ None
limbs-stand x [] = digits-stand 0 (limb_text x) (omega (arith, length-hex_digits 8 x)) (AreHex-hex_digits 8 x)
limbs-stand x (y ∷ ys) =
    break-append in_limbs 0 (limb_text x) (32 ∷ limbs_between (y ∷ ys)) (digits-stand 0 (limb_text x) (omega (arith, length-hex_digits 8 x)) (AreHex-hex_digits 8 x))
    ∙ ap (λ k. break_from in_limbs (0 + k) (32 ∷ limbs_between (y ∷ ys))) (length-hex_digits 8 x)
    ∙ break-period 0 (limbs_between (y ∷ ys)) (limbs-stand y ys)

-- the limbs of their text are they
first_limbs-limbs_between : (x : ℕ) (xs : List ℕ) → AllByRecursion (λ y. y < 2 ^ 32) (x ∷ xs) → first_limbs (length (x ∷ xs)) (limbs_between (x ∷ xs)) ≡ x ∷ xs
first_limbs-limbs_between x [] h =
    ap (λ l. digits_value 16 l ∷ []) (take_all 8 (limb_text x) (omega (arith, length-hex_digits 8 x))) ∙ ap (λ n. n ∷ []) (digits_value-hex_digits 8 x (omega (arith, h.0)))
first_limbs-limbs_between x (y ∷ ys) h =
    let rest = limbs_between (y ∷ ys) in
    let nine : length (limb_text x ++ (32 ∷ [])) ≡ 9 = omega (arith, length_push (limb_text x) 32, length-hex_digits 8 x) in
    let after : drop 9 (limb_text x ++ (32 ∷ rest)) ≡ rest = ap (drop 9) (sym (append_assoc (limb_text x) (32 ∷ []) rest)) ∙ drop_at (limb_text x ++ (32 ∷ [])) rest 9 nine in
    ap (λ l. digits_value 16 l ∷ first_limbs (length (y ∷ ys)) (drop 9 (limb_text x ++ (32 ∷ rest)))) (take_at (limb_text x) (32 ∷ rest) 8 (length-hex_digits 8 x))
    ∙ ap (λ n. n ∷ first_limbs (length (y ∷ ys)) (drop 9 (limb_text x ++ (32 ∷ rest)))) (digits_value-hex_digits 8 x (omega (arith, h.0)))
    ∙ ap (λ l. x ∷ first_limbs (length (y ∷ ys)) l) after
    ∙ ap (λ l. x ∷ l) (first_limbs-limbs_between y ys h.1)

-- the limbs in the text of limbs are they
pub limbs_in-limbs_between : (limbs : List ℕ) → AreLimbs limbs → limbs_in (limbs_between limbs) ≡ limbs
limbs_in-limbs_between [] h = absurd (omega (arith, h.some))
limbs_in-limbs_between (x ∷ xs) h =
    let n : (length (limbs_between (x ∷ xs)) + 1) / 9 ≡ length (x ∷ xs) = omega (arith, length-limbs_between x xs) in
    ap (λ k. first_limbs k (limbs_between (x ∷ xs))) n ∙ first_limbs-limbs_between x xs h.each

-- eight bytes that stand are a limb
pub standing-limb : (bytes : List ℕ) → length bytes ≡ 8 → break_from in_limbs 0 bytes ≡ None → (digits_value 16 bytes < 2 ^ 32) × (limb_text (digits_value 16 bytes) ≡ bytes)
standing-limb bytes long e =
    let h = standing-digits 0 bytes (omega arith) e in (
      let small : digits_value 16 bytes < 16 ^ 8 = subst (λ k. digits_value 16 bytes < 16 ^ k) long (digits_value-lt 16 bytes (AllDigits-hex bytes h)) in omega arith,
      ap (λ k. hex_digits k (digits_value 16 bytes)) (sym long) ∙ hex_digits-digits_value bytes h,
    )

-- bytes that stand and end where they may are limbs
standing-limbs : (n : ℕ) (text : List ℕ) → length text + 1 ≡ 9 * suc n → break_from in_limbs 0 text ≡ None
    → (text ≡ limbs_between (first_limbs (suc n) text)) × AllByRecursion (λ x. x < 2 ^ 32) (first_limbs (suc n) text)
standing-limbs zero text long e =
    let all : take 8 text ≡ text = take_all 8 text (omega arith) in
    let limb = standing-limb (take 8 text) (omega (arith, ap length all)) (ap (break_from in_limbs 0) all ∙ e) in
    (sym all ∙ sym limb.1, (limb.0, tt))
standing-limbs (suc n) text long e =
    let split : text ≡ take 8 text ++ (get_or text 8 0 ∷ drop 9 text) = sym (take-append-drop 8 text) ∙ ap (λ l. take 8 text ++ l) (drop_more text 8 0 (omega arith)) in
    let eight : length (take 8 text) ≡ 8 = length-take-le 8 text (omega arith) in
    let parts = break-split in_limbs 0 (take 8 text) (get_or text 8 0 ∷ drop 9 text) (ap (break_from in_limbs 0) (sym split) ∙ e) in
    let limb = standing-limb (take 8 text) eight parts.0 in
    let more = front-stands in_limbs 8 (get_or text 8 0) (drop 9 text) (ap (λ k. break_from in_limbs (0 + k) (get_or text 8 0 ∷ drop 9 text)) (sym eight) ∙ parts.1) in
    let rest = standing-limbs n (drop 9 text) (omega (arith, length-drop 9 text)) (period-break 0 (drop 9 text) more.1) in (
      split ∙ ap (λ l. l ++ (get_or text 8 0 ∷ drop 9 text)) (sym limb.1)
          ∙ ap (λ b. limb_text (digits_value 16 (take 8 text)) ++ (b ∷ drop 9 text)) (eqb-true (get_or text 8 0) 32 more.0)
          ∙ ap (λ l. limb_text (digits_value 16 (take 8 text)) ++ (32 ∷ l)) rest.0,
      (limb.0, rest.1),
    )

-- the same for any number of limbs
whole-limbs : (n : ℕ) (text : List ℕ) → length text + 1 ≡ 9 * n → break_from in_limbs 0 text ≡ None → IsLimbsText (first_limbs n text) text
whole-limbs zero text long e = absurd (omega arith)
whole-limbs (suc n) text long e = let h = standing-limbs n text long e in (record { some = omega arith; each = h.1 }, h.0)

-- a text that does not break spells its limbs
pub standing-text : (text : List ℕ) → break_from in_limbs 0 text ≡ None → length text % 9 ≡ 8 → IsLimbsText (limbs_in text) text
standing-text text e end = whole-limbs ((length text + 1) / 9) text (omega arith) e

-- bytes that stand are limbs with zeros after them
standing-begins : (front : List ℕ) → break_from in_limbs 0 front ≡ None → Begins (AnyWord IsLimbsText) front
standing-begins front e =
    let zeros : List ℕ = replicate (8 - length front % 9) 48 in
    let long : length (front ++ zeros) % 9 ≡ 8 = omega (arith, length-append front zeros, length-replicate {A = ℕ} (8 - length front % 9) 48) in
    (zeros, (limbs_in (front ++ zeros), standing-text (front ++ zeros) (break-append in_limbs 0 front zeros e ∙ zeros-stand (0 + length front) (8 - length front % 9) (omega arith)) long))

-- limbs stand, and end where they may
text-stands : (limbs : List ℕ) → AreLimbs limbs → (break_from in_limbs 0 (limbs_between limbs) ≡ None) × (length (limbs_between limbs) % 9 ≡ 8)
text-stands [] h = absurd (omega (arith, h.some))
text-stands (x ∷ xs) h = (limbs-stand x xs, omega (arith, length-limbs_between x xs))

-- limbs are told by their places
by_places : ByPlaces (AnyWord IsLimbsText) in_limbs (λ n. n % 9 == 8)
by_places = record {
  stands = λ text l. ap (break_from in_limbs 0) l.1.1 ∙ (text-stands l.0 l.1.0).0;
  ends = λ text l. eq-eqb (length text % 9) 8 (ap (λ t. length t % 9) l.1.1 ∙ (text-stands l.0 l.1.0).1);
  begins = standing-begins;
}

-- limbs are read or refused
pub reads-limbs : (text : List ℕ) → Reads IsLimbsText text (limbs_of text)
reads-limbs text = reads_by_places IsLimbsText in_limbs (λ n. n % 9 == 8) by_places (limbs_in text) text (λ stands end. standing-text text stands (eqb-true (length text % 9) 8 end))

-- a text spells one list of limbs
pub one-limbs : (a b text : List ℕ) → IsLimbsText a text → IsLimbsText b text → a ≡ b
one-limbs a b text e f = sym (limbs_in-limbs_between a e.0) ∙ ap limbs_in (sym e.1 ∙ f.1) ∙ limbs_in-limbs_between b f.0

-- limbs are checked
pub limb_texts_check : Checks IsLimbsText limbs_of
limb_texts_check = checks IsLimbsText limbs_of reads-limbs one-limbs

-- ---- one limb of a text
pub length-first_limbs : (n : ℕ) (text : List ℕ) → length (first_limbs n text) ≡ n
length-first_limbs zero text = refl
length-first_limbs (suc n) text = ap suc (length-first_limbs n (drop 9 text))

-- limb i of a text, from its digits
pub get_or-first_limbs : (n i : ℕ) (text : List ℕ) → i < n → get_or (first_limbs n text) i 0 ≡ digits_value 16 (take 8 (drop (9 * i) text))
get_or-first_limbs zero i text l = absurd (omega arith)
get_or-first_limbs (suc n) zero text l = refl
get_or-first_limbs (suc n) (suc i) text l =
    let place : 9 + 9 * i ≡ 9 * suc i = omega arith in
    get_or-first_limbs n i (drop 9 text) (omega arith) ∙ ap (λ t. digits_value 16 (take 8 t)) (drop-drop (9 * i) 9 text ∙ ap (λ k. drop k text) place)

-- the bytes of limb i are digits
limb-digits : (i : ℕ) (text : List ℕ) → 9 * i + 8 ≤ length text → break_from in_limbs 0 text ≡ None → AreHex (take 8 (drop (9 * i) text))
limb-digits zero text l e =
    standing-digits 0 (take 8 text) (omega (arith, length-take-le 8 text (omega arith)))
    (break-split in_limbs 0 (take 8 text) (drop 8 text) (ap (break_from in_limbs 0) (take-append-drop 8 text) ∙ e)).0
limb-digits (suc i) text l e =
    let place : 9 + 9 * i ≡ 9 * suc i = omega arith in
    let parts = break-split in_limbs 0 (take 9 text) (drop 9 text) (ap (break_from in_limbs 0) (take-append-drop 9 text) ∙ e) in
    let rest : break_from in_limbs 0 (drop 9 text) ≡ None =
    period-break 0 (drop 9 text) (ap (λ k. break_from in_limbs (0 + k) (drop 9 text)) (sym (length-take-le 9 text (omega arith))) ∙ parts.1) in
    subst (λ t. AreHex (take 8 t)) (drop-drop (9 * i) 9 text ∙ ap (λ k. drop k text) place) (limb-digits i (drop 9 text) (omega (arith, length-drop 9 text)) rest)

-- limb i of a text that spells limbs consists of digits
pub limb-all_digits : (i : ℕ) (text : List ℕ) → is_ok (limbs_of text) ≡ true → 9 * i + 8 ≤ length text → AllDigits 16 (take 8 (drop (9 * i) text))
limb-all_digits i text e l =
    let stands = unbroken-ok (break_from in_limbs 0 text) (length text % 9 == 8) (length text) (limbs_in text) e in
    AllDigits-hex _ (limb-digits i text l stands.0)
