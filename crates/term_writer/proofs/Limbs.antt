-- Limbs, told by their places.
use Rattle.std.proofs.Common.{◌≡◌, ℕ, zero, suc, ◌+◌, ◌*◌, ◌/◌, ◌%◌, ◌^◌, ◌<◌, List, [], ◌∷◌, length, get_or, sym, refl, ap, ◌∙◌, ap₂, arith}
use Rattle.std.specs.List.{AllByRecursion}
use lib.Pow.{shr-shr}
use Rattle.answers.specs.Published.{limbs_of}

-- limbs that are the digits of v, each in its place
pub limbs_of-from_places : (xs : List ℕ) (v : ℕ) → ((k : ℕ) → k < length xs → get_or xs k 0 ≡ v / 2 ^ (32 * k) % 4294967296) → xs ≡ limbs_of (length xs) v
limbs_of-from_places [] v each = refl
limbs_of-from_places (x ∷ xs) v each =
    let first : x ≡ v % 4294967296 = omega (arith, each 0 (omega arith)) in
    let rest = limbs_of-from_places xs (v / 4294967296) (λ k h.
    let e : 32 * suc k ≡ 32 + 32 * k = omega arith in
    each (suc k) (omega arith) ∙ ap (λ n. v / 2 ^ n % 4294967296) e ∙ ap (λ n. n % 4294967296) (sym (shr-shr v 32 (32 * k)))) in
    ap₂ (λ y ys. y ∷ ys) first rest

-- how many they are
pub length-limbs_of : (n v : ℕ) → length (limbs_of n v) ≡ n
length-limbs_of zero v = refl
length-limbs_of (suc n) v = ap suc (length-limbs_of n (v / 2 ^ 32))

-- the limb at a place
pub get_or-limbs_of : (n v k : ℕ) → k < n → get_or (limbs_of n v) k 0 ≡ v / 2 ^ (32 * k) % 4294967296
get_or-limbs_of zero v k h = absurd (omega arith)
get_or-limbs_of (suc n) v zero h = omega arith
get_or-limbs_of (suc n) v (suc k) h =
    let e : 32 + 32 * k ≡ 32 * suc k = omega arith in
    get_or-limbs_of n (v / 2 ^ 32) k (omega arith) ∙ ap (λ y. y % 4294967296) (shr-shr v 32 (32 * k)) ∙ ap (λ y. v / 2 ^ y % 4294967296) e

-- each has 32 bits
pub words-limbs_of : (n v : ℕ) → AllByRecursion (λ x. x < 2 ^ 32) (limbs_of n v)
words-limbs_of zero v = tt
words-limbs_of (suc n) v = (omega arith, words-limbs_of n (v / 2 ^ 32))
