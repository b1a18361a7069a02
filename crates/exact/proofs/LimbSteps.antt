-- Limbs that are written one by one, from the least significant on.
use Rattle.std.proofs.Common.{◌≡◌, ℕ, zero, suc, ◌+◌, ◌-◌, ◌*◌, ◌/◌, ◌%◌, ◌^◌, ◌<◌, ◌≤◌, List, [], ◌∷◌, ◌++◌, length, get_or, take, drop, set, sym, ap, ◌∙◌, mul-le-mul_right, mul_assoc, mul_comm, add-mul, div-add-mod', arith, pow_pos, pow-add, shr-shr}
use native.Mathlib.Nat.{add-mul-div_right}
use Rattle.std.proofs.lemmas.Nat.{mod-pow-add}
use Rattle.std.proofs.lemmas.List.{take_more_set, length-take-le, set-get_or, drop-drop, drop-set-lt}
use Rattle.exact.specs.Limbs.{limbs_value}
use Rattle.exact.proofs.Multiples.{pow_split}
use Rattle.exact.proofs.Shifts.{shift_both}
use Rattle.exact.proofs.LimbBits.{pow_next_limb, first_of_rest}

pub value_push : (xs : List ℕ) (v : ℕ) → limbs_value (xs ++ v ∷ []) ≡ limbs_value xs + v * 2 ^ (32 * length xs)
value_push [] v = omega arith
value_push (x ∷ xs) v =
    let h = value_push xs v in
    rw (h, pow_next_limb (length xs)) (omega (arith, mul_assoc v 4294967296 (2 ^ (32 * length xs)), mul_assoc 4294967296 v (2 ^ (32 * length xs)), mul_comm v 4294967296))

-- one more limb
pub value_set : (s : List ℕ) (j v : ℕ) → j < length s → limbs_value (take (j + 1) (set s j v)) ≡ limbs_value (take j s) + v * 2 ^ (32 * j)
value_set s j v l =
    ap limbs_value (take_more_set s j v l) ∙ value_push (take j s) v ∙ ap (λ (y : ℕ). limbs_value (take j s) + v * 2 ^ (32 * y)) (length-take-le j s (omega arith))

-- the limbs before i, and from i on
pub value_split : (i : ℕ) (xs : List ℕ) → i ≤ length xs → limbs_value xs ≡ limbs_value (take i xs) + limbs_value (drop i xs) * 2 ^ (32 * i)
value_split zero xs h = omega arith
value_split (suc i) [] h = absurd (omega arith)
value_split (suc i) (x ∷ xs) h =
    let d = limbs_value (drop i xs) in
    let t = value_split i xs (omega arith) in
    rw (t, pow_next_limb i) (omega (arith, mul_assoc d 4294967296 (2 ^ (32 * i)), mul_assoc 4294967296 d (2 ^ (32 * i)), mul_comm d 4294967296))

pub pow_after : (i : ℕ) → 2 ^ (32 * (i + 1)) ≡ 4294967296 * 2 ^ (32 * i)
pow_after i = ap (λ (y : ℕ). 2 ^ y) (let e : 32 * (i + 1) ≡ 32 + 32 * i = omega arith in e) ∙ pow-add 2 32 (32 * i)

-- it stays below the next power
pub below_set : (s : List ℕ) (i v : ℕ) → i < length s → v < 4294967296 → limbs_value (take i s) < 2 ^ (32 * i) → limbs_value (take (i + 1) (set s i v)) < 2 ^ (32 * (i + 1))
below_set s i v l h b = rw (value_set s i v l, pow_after i) (omega (arith, mul-le-mul_right (2 ^ (32 * i)) h))

-- ---- the digits of a number m
pub digit_set : (s : List ℕ) (j v m : ℕ) → j < length s → limbs_value (take j s) ≡ m % 2 ^ (32 * j) → v ≡ m / 2 ^ (32 * j) % 4294967296
    → limbs_value (take (j + 1) (set s j v)) ≡ m % 2 ^ (32 * (j + 1))
digit_set s j v m l h e =
    let a = mod-pow-add m 32 (32 * j) in
    let q : 32 + 32 * j ≡ 32 * (j + 1) = omega arith in
    value_set s j v l ∙ ap (λ (y : ℕ). y + v * 2 ^ (32 * j)) h ∙ ap (λ (y : ℕ). m % 2 ^ (32 * j) + y * 2 ^ (32 * j)) e ∙ omega arith ∙ sym a ∙ ap (λ (y : ℕ). m % 2 ^ y) q

-- the digits of n, whose highest bit is at most b, at the top of c limbs
pub top_digit : (n b c j : ℕ) → j < c → n * 2 ^ (32 * c) / 2 ^ b / 2 ^ (32 * j) ≡ n * 2 ^ (32 * (c - j)) / 2 ^ b
top_digit n b c j h =
    shr-shr (n * 2 ^ (32 * c)) b (32 * j) ∙ ap (λ (y : ℕ). n * 2 ^ y / 2 ^ (b + 32 * j)) (let e : 32 * c ≡ 32 * (c - j) + 32 * j = omega arith in e) ∙ shift_both n (32 * (c - j)) b (32 * j)

-- ---- the lowest s bits made 0
pub clear_first : (x s : ℕ) (xs : List ℕ) → s < 32 → (x - x % 2 ^ s) + 4294967296 * limbs_value xs ≡ (x + 4294967296 * limbs_value xs) / 2 ^ s * 2 ^ s
clear_first x s xs h =
    let p : 4294967296 ≡ 2 ^ (32 - s) * 2 ^ s = pow_split 32 s (omega arith) in
    let W = limbs_value xs in
    let e : 4294967296 * W ≡ W * 2 ^ (32 - s) * 2 ^ s = mul_comm 4294967296 W ∙ ap (λ (y : ℕ). W * y) p ∙ sym (mul_assoc W (2 ^ (32 - s)) (2 ^ s)) in
    let q : (x + 4294967296 * W) / 2 ^ s ≡ x / 2 ^ s + W * 2 ^ (32 - s) = ap (λ (y : ℕ). (x + y) / 2 ^ s) e ∙ add-mul-div_right x (W * 2 ^ (32 - s)) (pow_pos s) in
    rw q (omega (arith, add-mul (x / 2 ^ s) (W * 2 ^ (32 - s)) (2 ^ s), div-add-mod' x (2 ^ s)))

-- ---- a sum, limb by limb: s0 is what stood there before, k what is added, c and d the carries into and out of the limb i
pub add_limb : (s s0 : List ℕ) (i c k v d : ℕ) → i < length s → length s ≡ length s0 → drop i s ≡ drop i s0
    → limbs_value (take i s) + c * 2 ^ (32 * i) ≡ limbs_value (take i s0) + k → get_or s i 0 + c ≡ v + d * 4294967296
    → (drop (i + 1) (set s i v) ≡ drop (i + 1) s0) × (limbs_value (take (i + 1) (set s i v)) + d * 2 ^ (32 * (i + 1)) ≡ limbs_value (take (i + 1) s0) + k)
add_limb s s0 i c k v d l same rest sum here =
    let P = 2 ^ (32 * i) in
    let l0 : i < length s0 = omega arith in
    let x : get_or s i 0 ≡ get_or s0 i 0 = sym (first_of_rest s i) ∙ ap (λ (t : List ℕ). get_or t 0 0) rest ∙ first_of_rest s0 i in
    let a = value_set s i v l in
    let b : limbs_value (take (i + 1) s0) ≡ limbs_value (take i s0) + get_or s0 i 0 * P = ap (λ (t : List ℕ). limbs_value (take (i + 1) t)) (sym (set-get_or s0 i 0)) ∙ value_set s0 i (get_or s0 i 0) l0 in
    let m : get_or s i 0 * P + c * P ≡ v * P + d * 4294967296 * P = sym (add-mul (get_or s i 0) c P) ∙ ap (λ (y : ℕ). y * P) here ∙ add-mul v (d * 4294967296) P in
    let g : get_or s i 0 * P ≡ get_or s0 i 0 * P = ap (λ (y : ℕ). y * P) x in
    let q : d * 2 ^ (32 * (i + 1)) ≡ d * 4294967296 * P = ap (λ (y : ℕ). d * y) (pow_after i) ∙ sym (mul_assoc d 4294967296 P) in
    let t : drop (i + 1) s ≡ drop (i + 1) s0 = sym (drop-drop 1 i s) ∙ ap (drop 1) rest ∙ drop-drop 1 i s0 in
    (drop-set-lt (i + 1) s i v (omega arith) ∙ t, omega arith)
