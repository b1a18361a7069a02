-- Hexadecimal digits, written from the last to the first.
use Rattle.std.proofs.Common.{◌≡◌, ℕ, zero, suc, ◌+◌, ◌/◌, ◌%◌, ◌<◌, ◌≤◌, List, [], ◌∷◌, ◌++◌, length, drop, set, sym, refl, ap, ◌∙◌, append_assoc, add-one, arith}
use Rattle.std.proofs.lemmas.List.{drop-set, length_push}
use Rattle.forms.specs.Parts.{hex_digit, hex_digits}

-- one more digit, behind the others
hex_digits-suc : (k n : ℕ) → hex_digits (k + 1) n ≡ hex_digits k (n / 16) ++ (hex_digit (n % 16) ∷ [])
unfolding hex_digits
hex_digits-suc k n = ap (λ j. hex_digits j n) (add-one k)

-- one more digit, in front of those that are written
pub hex_digits-set : (k n x : ℕ) (out : List ℕ) → k < length out → x ≡ hex_digit (n % 16) → hex_digits k (n / 16) ++ drop k (set out k x) ≡ hex_digits (k + 1) n ++ drop (k + 1) out
hex_digits-set k n x out h e =
    ap (λ l. hex_digits k (n / 16) ++ l) (drop-set out k x h ∙ ap (λ y. y ∷ drop (k + 1) out) e)
    ∙ sym (append_assoc (hex_digits k (n / 16)) (hex_digit (n % 16) ∷ []) (drop (k + 1) out))
    ∙ ap (λ l. l ++ drop (k + 1) out) (sym (hex_digits-suc k n))

-- no digit is left to be written
pub hex_digits-none : (k n : ℕ) (out : List ℕ) → k ≤ 0 → out ≡ hex_digits k n ++ drop k out
unfolding hex_digits
hex_digits-none zero n out h = refl
hex_digits-none (suc k) n out h = absurd (omega arith)

-- how many they are
pub length-hex_digits : (k n : ℕ) → length (hex_digits k n) ≡ k
unfolding hex_digits
length-hex_digits zero n = refl
length-hex_digits (suc k) n = length_push (hex_digits k (n / 16)) _ ∙ ap (λ i. i + 1) (length-hex_digits k (n / 16)) ∙ add-one k
