-- The bits of a number that is given by limbs.
use Rattle.std.proofs.Common.{◌≡◌, ℕ, zero, suc, ◌+◌, ◌-◌, ◌*◌, ◌/◌, ◌%◌, ◌^◌, ◌<◌, ◌≤◌, Bool, true, false, cond, ltb, List, [], ◌∷◌, length, get_or, drop, sym, refl, ap, ◌∙◌, inl, inr, lt_of_lt_of_le, mod-lt, mul_assoc, mul_comm, eq-zero-or-pos, div-add-mod', div-one, arith, lit<, pow_pos, pow_mono, pow-add, shr-shr}
use native.Mathlib.Nat.{zero-mod, zero-div, mul-mod_left, mod-one, div-eq_of_lt}
use lib.Count.{count_leading_zeros}
use lib.Ieee.{size}
use Rattle.std.proofs.lemmas.Nat.{field_of, mod-pow-add, leading_top}
use Rattle.std.proofs.lemmas.List.{get_or-drop, drop_more}
use Rattle.std.proofs.lemmas.Bool.{lt-ltb}
use Rattle.exact.specs.Limbs.{limbs_value}
use Rattle.exact.proofs.BitLength.{size_is}
use Rattle.exact.proofs.Multiples.{multiple_coarser, multiple_whole}
use Rattle.exact.proofs.Parts.{parts_some, size_parts}
use Rattle.exact.proofs.Shifts.{bits_of_low, low_bits_of_low}

-- each limb has at most 32 bits, said by place
abbrev pub SmallLimbs : List ℕ → Type 0
SmallLimbs xs = (i : ℕ) → i < length xs → get_or xs i 0 < 4294967296

small_tail : (x : ℕ) (xs : List ℕ) → SmallLimbs (x ∷ xs) → SmallLimbs xs
small_tail x xs f i l = f (suc i) (omega arith)

pub pow_next_limb : (i : ℕ) → 2 ^ (32 * suc i) ≡ 4294967296 * 2 ^ (32 * i)
pow_next_limb i = ap (λ (y : ℕ). 2 ^ y) (let e : 32 * suc i ≡ 32 + 32 * i = omega arith in e) ∙ pow-add 2 32 (32 * i)

-- ---- from a limb on
pub value_from_limb : (i : ℕ) (xs : List ℕ) → SmallLimbs xs → limbs_value xs / 2 ^ (32 * i) ≡ limbs_value (drop i xs)
value_from_limb zero xs f = div-one (limbs_value xs)
value_from_limb (suc i) [] f = zero-div (2 ^ (32 * suc i))
value_from_limb (suc i) (x ∷ xs) f =
    let h : x < 4294967296 = f 0 (omega arith) in
    let q : (x + 4294967296 * limbs_value xs) / 4294967296 ≡ limbs_value xs = omega arith in
    ap (λ (y : ℕ). (x + 4294967296 * limbs_value xs) / 2 ^ y) (let e : 32 * suc i ≡ 32 + 32 * i = omega arith in e)
    ∙ sym (shr-shr (x + 4294967296 * limbs_value xs) 32 (32 * i))
    ∙ ap (λ (y : ℕ). y / 2 ^ (32 * i)) q
    ∙ value_from_limb i xs (small_tail x xs f)

pub first_of_rest : (xs : List ℕ) (i : ℕ) → get_or (drop i xs) 0 0 ≡ get_or xs i 0
first_of_rest xs i = get_or-drop i xs 0 0 ∙ ap (λ (y : ℕ). get_or xs y 0) (let e : i + 0 ≡ i = omega arith in e)

first_two : (xs : List ℕ) → (t : ℕ) × (limbs_value xs ≡ get_or xs 0 0 + get_or xs 1 0 * 4294967296 + t * 18446744073709551616)
first_two [] = (0, refl)
first_two (x ∷ []) = (0, omega arith)
first_two (x ∷ y ∷ ys) = (limbs_value ys, omega arith)

-- 32 bits from a bit on lie in two limbs
pub bits_in_two_limbs : (xs : List ℕ) (k : ℕ) → SmallLimbs xs
    → limbs_value xs / 2 ^ k % 4294967296 ≡ (get_or xs (k / 32 + 1) 0 * 4294967296 + get_or xs (k / 32) 0) / 2 ^ (k % 32) % 4294967296
bits_in_two_limbs xs k f =
    let i = k / 32 in
    let s = k % 32 in
    let e : k ≡ 32 * i + s = omega arith in
    let a : limbs_value xs / 2 ^ k ≡ limbs_value (drop i xs) / 2 ^ s =
    ap (λ (y : ℕ). limbs_value xs / 2 ^ y) e ∙ sym (shr-shr (limbs_value xs) (32 * i) s) ∙ ap (λ (y : ℕ). y / 2 ^ s) (value_from_limb i xs f) in
    let t = first_two (drop i xs) in
    let lo = first_of_rest xs i in
    let hi : get_or (drop i xs) 1 0 ≡ get_or xs (i + 1) 0 = get_or-drop i xs 1 0 in
    let b : get_or (drop i xs) 0 0 + get_or (drop i xs) 1 0 * 4294967296 ≡ get_or xs (i + 1) 0 * 4294967296 + get_or xs i 0 = omega arith in
    ap (λ (y : ℕ). y % 4294967296) (a ∙ ap (λ (y : ℕ). y / 2 ^ s) t.1) ∙ bits_of_low _ t.0 s (omega arith) ∙ ap (λ (y : ℕ). y / 2 ^ s % 4294967296) b

pub limb_of_value : (xs : List ℕ) (j : ℕ) → SmallLimbs xs → limbs_value xs / 2 ^ (32 * j) % 4294967296 ≡ get_or xs j 0
limb_of_value xs j f = ap (λ (y : ℕ). y % 4294967296) (value_from_limb j xs f) ∙ lowest (drop j xs) (small_first xs j f) ∙ first_of_rest xs j
  where
    lowest : (ys : List ℕ) → get_or ys 0 0 < 4294967296 → limbs_value ys % 4294967296 ≡ get_or ys 0 0
    lowest [] h = refl
    lowest (y ∷ ys) h = omega arith

    small_first : (xs : List ℕ) (j : ℕ) → SmallLimbs xs → get_or (drop j xs) 0 0 < 4294967296
    small_first [] zero f = lit< tt
    small_first [] (suc j) f = lit< tt
    small_first (x ∷ xs) zero f = f 0 (omega arith)
    small_first (x ∷ xs) (suc j) f = small_first xs j (small_tail x xs f)

-- the limbs past the highest bit are 0
pub limb_past_value : (xs : List ℕ) (c j : ℕ) → SmallLimbs xs → limbs_value xs < 2 ^ (32 * c) → c ≤ j → get_or xs j 0 ≡ 0
limb_past_value xs c j f h l = sym (limb_of_value xs j f) ∙ ap (λ (y : ℕ). y % 4294967296) (div-eq_of_lt (lt_of_lt_of_le h (pow_mono (omega arith))))

-- ---- is there anything below a bit
pub some_below : (xs : List ℕ) (j k : ℕ) → SmallLimbs xs → 32 * j + 32 ≤ k → ¬ (get_or xs j 0 ≡ 0) → ltb 0 (limbs_value xs % 2 ^ k) ≡ true
some_below xs j k f h n = elim (eq-zero-or-pos (limbs_value xs % 2 ^ k)) [
  | inr p ↦ lt-ltb 0 (limbs_value xs % 2 ^ k) p
  | inl z ↦
      let a : limbs_value xs % 2 ^ (32 + 32 * j) ≡ 0 = multiple_coarser (limbs_value xs) k (32 + 32 * j) (omega arith) z in
      let b : limbs_value xs / 2 ^ (32 * j) % 4294967296 ≡ 0 = sym (field_of (limbs_value xs) 32 (32 * j)) ∙ ap (λ (y : ℕ). y / 2 ^ (32 * j)) a ∙ zero-div (2 ^ (32 * j)) in
      absurd (n (sym (limb_of_value xs j f) ∙ b))
]

low_limbs_none : (i : ℕ) (xs : List ℕ) → ((k : ℕ) → k < i → get_or xs k 0 ≡ 0) → limbs_value xs % 2 ^ (32 * i) ≡ 0
low_limbs_none zero xs f = mod-one (limbs_value xs)
low_limbs_none (suc i) [] f = zero-mod (2 ^ (32 * suc i))
low_limbs_none (suc i) (x ∷ xs) f =
    let h : x ≡ 0 = f 0 (omega arith) in
    let t : limbs_value xs % 2 ^ (32 * i) ≡ 0 = low_limbs_none i xs (λ k l. f (suc k) (omega arith)) in
    let w = multiple_whole (limbs_value xs) (2 ^ (32 * i)) t in
    let q = limbs_value xs / 2 ^ (32 * i) in
    let e : x + 4294967296 * limbs_value xs ≡ q * 2 ^ (32 * suc i) =
    rw (pow_next_limb i) (omega (arith, ap (λ (y : ℕ). 4294967296 * y) w, mul_assoc q 4294967296 (2 ^ (32 * i)), mul_assoc 4294967296 q (2 ^ (32 * i)), mul_comm q 4294967296)) in
    ap (λ (y : ℕ). y % 2 ^ (32 * suc i)) e ∙ mul-mod_left q (2 ^ (32 * suc i))

pub any_in_last_limb : (xs : List ℕ) (k : ℕ) → SmallLimbs xs → ((j : ℕ) → j < k / 32 → get_or xs j 0 ≡ 0) → ltb 0 (limbs_value xs % 2 ^ k) ≡ ltb 0 (get_or xs (k / 32) 0 % 2 ^ (k % 32))
any_in_last_limb xs k f g =
    let i = k / 32 in
    let s = k % 32 in
    let e : k ≡ s + 32 * i = omega arith in
    let a : limbs_value xs % 2 ^ k ≡ (limbs_value xs / 2 ^ (32 * i) % 2 ^ s) * 2 ^ (32 * i) + 0 =
    ap (λ (y : ℕ). limbs_value xs % 2 ^ y) e ∙ mod-pow-add (limbs_value xs) s (32 * i) ∙ ap (λ (y : ℕ). (limbs_value xs / 2 ^ (32 * i) % 2 ^ s) * 2 ^ (32 * i) + y) (low_limbs_none i xs g) in
    let b : limbs_value xs / 2 ^ (32 * i) % 2 ^ s ≡ get_or xs i 0 % 2 ^ s = sym (low_bits_of_low (limbs_value xs / 2 ^ (32 * i)) s (omega arith)) ∙ ap (λ (y : ℕ). y % 2 ^ s) (limb_of_value xs i f) in
    ap (ltb 0) (a ∙ ap (λ (y : ℕ). y * 2 ^ (32 * i) + 0) b) ∙ parts_some (get_or xs i 0 % 2 ^ s) (2 ^ (32 * i)) 0 (pow_pos (32 * i)) ∙ no_rest (ltb 0 (get_or xs i 0 % 2 ^ s))
  where
    no_rest : (b : Bool) → cond b true false ≡ b
    no_rest true = refl
    no_rest false = refl

-- ---- how many bits
pub size_by_top_limb : (xs : List ℕ) (i : ℕ) → SmallLimbs xs → i < length xs → limbs_value (drop (i + 1) xs) ≡ 0 → 0 < get_or xs i 0
    → size (limbs_value xs) ≡ 32 * i + (32 - count_leading_zeros 32 (get_or xs i 0))
size_by_top_limb xs i f l z p =
    let x = get_or xs i 0 in
    let n = limbs_value xs in
    let a : n / 2 ^ (32 * i) ≡ x = value_from_limb i xs f ∙ ap limbs_value (drop_more xs i 0 l) ∙ ap (λ (y : ℕ). x + 4294967296 * y) z ∙ omega arith in
    let b : n ≡ x * 2 ^ (32 * i) + n % 2 ^ (32 * i) = sym (div-add-mod' n (2 ^ (32 * i))) ∙ ap (λ (y : ℕ). y * 2 ^ (32 * i) + n % 2 ^ (32 * i)) a in
    ap size b ∙ size_parts x (32 * i) (n % 2 ^ (32 * i)) p (mod-lt n (pow_pos (32 * i))) ∙ from_top (leading_top 32 x p (f i l))
  where
    from_top : ((j : ℕ) × (count_leading_zeros 32 (get_or xs i 0) + suc j ≡ 32) × (2 ^ j ≤ get_or xs i 0) × (get_or xs i 0 < 2 ^ suc j))
        → size (get_or xs i 0) + 32 * i ≡ 32 * i + (32 - count_leading_zeros 32 (get_or xs i 0))
    from_top (j, e, lo, hi) = omega (arith, size_is (get_or xs i 0) j lo hi)
