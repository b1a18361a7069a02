-- What is read of a floor.
use Rattle.std.proofs.Common.{◌≡◌, ℕ, ◌+◌, ◌≤◌, max, ◌⊎◌, inl, inr, List, [], ◌∷◌, get_or, codes, Ok, Err, Result, Option, Some, None, ℤ, pos, negsuc, refl, ap, subst, ⊎_elim, arith}
use Rattle.std.proofs.lemmas.Bool.{cases_lt}
use Rattle.forms.specs.Languages.{Refused}
use Rattle.fields.specs.Words.{IsKeyword, IsInteger, IsFloor}
use Rattle.fields.specs.Checking.{keyword_of, integer_of, floor_of, none_or}
use Rattle.fields.specs.Laws.{AnyWord, Checks}
use Rattle.fields.proofs.Refusals.{Reads, not-begins, not-word, checks}
use Rattle.fields.proofs.Keywords.{reads-keyword}
use Rattle.fields.proofs.Naturals.{decimal-byte}
use Rattle.fields.proofs.Integers.{reads-integer, one-integer}

-- what is refused by both of two languages is refused by their sum at the further place
refused-further : (F G L : List ℕ → Type 0) → ((word : List ℕ) → G word → L word) → ((word : List ℕ) → L word → F word ⊎ G word)
    → (word : List ℕ) (j k : ℕ) → j ≤ k → Refused F word j → Refused G word k → Refused L word k
refused-further F G L to from word j k further f g = record {
  within = g.within;
  goes = (g.goes.0, to _ g.goes.1);
  stuck = λ l b. ⊎_elim (λ w. not-begins F word j (k + 1) f (omega arith) (omega arith) (b.0, w)) (λ w. g.stuck l (b.0, w)) (from _ b.1);
  ends = λ e l. ⊎_elim (not-word F word j f) (g.ends e) (from word l);
}

-- `free` is a floor
to-free : (word : List ℕ) → AnyWord (IsKeyword (codes "free")) word → AnyWord IsFloor word
to-free word l = (None, (tt, l.1))

-- an integer is a floor
to-integer : (word : List ℕ) → AnyWord IsInteger word → AnyWord IsFloor word
to-integer word l = (Some l.0, l.1)

-- a floor is either
from-floor : (word : List ℕ) → AnyWord IsFloor word → AnyWord (IsKeyword (codes "free")) word ⊎ AnyWord IsInteger word
from-floor word (None, h) = inl (tt, h.1)
from-floor word (Some z, h) = inr (z, h)

-- the same, the other way round
swapped : (word : List ℕ) → AnyWord IsFloor word → AnyWord IsInteger word ⊎ AnyWord (IsKeyword (codes "free")) word
swapped word l = ⊎_elim (λ f. inr f) (λ z. inl z) (from-floor word l)

-- what is read of the two is read of a floor
reads-either : (word : List ℕ) (none : Result (Unit {0}) ℕ) (integer : Result ℤ ℕ) → Reads (IsKeyword (codes "free")) word none → Reads IsInteger word integer → Reads IsFloor word (none_or none integer)
reads-either word (Ok _) integer e h = (tt, e)
reads-either word (Err j) (Ok z) f h = h
reads-either word (Err j) (Err k) f g =
    ⊎_elim
    (λ less. let m : k ≡ max j k = omega arith in subst (Refused (AnyWord IsFloor) word) m (refused-further _ _ _ to-integer from-floor word j k (omega arith) f g))
    (λ more. let m : j ≡ max j k = omega arith in subst (Refused (AnyWord IsFloor) word) m (refused-further _ _ _ to-free swapped word k j more g f))
    (cases_lt j k)

-- a floor is read or refused
pub reads-floor : (word : List ℕ) → Reads IsFloor word (floor_of word)
reads-floor word = reads-either word (keyword_of (codes "free") word) (integer_of word) (reads-keyword (codes "free") word) (reads-integer word)

-- no integer is spelled `free`
not-free : (z : ℤ) → ¬ IsInteger z (codes "free")
not-free (pos n) h = let d = decimal-byte n [] (114 ∷ 101 ∷ 101 ∷ []) 102 h.0 h.1 in omega arith
not-free (negsuc n) h = omega (arith, ap (λ w. get_or w 0 0) h.1)

-- a word spells one floor
pub one-floor : (a b : Option ℤ) (word : List ℕ) → IsFloor a word → IsFloor b word → a ≡ b
one-floor None None word e f = refl
one-floor (Some y) (Some z) word e f = ap Some (one-integer y z word e f)
one-floor None (Some z) word e f = absurd (not-free z (subst (IsInteger z) e.1 f))
one-floor (Some z) None word e f = absurd (not-free z (subst (IsInteger z) f.1 e))

-- floors are checked
pub floors_check : Checks IsFloor floor_of
floors_check = checks IsFloor floor_of reads-floor one-floor
