-- A full window is so large that what it is decides how every number next to it rounds.
use Rattle.std.proofs.Common.{◌≡◌, ℕ, zero, suc, ◌+◌, ◌*◌, ◌^◌, ◌<◌, ◌≤◌, Bool, true, List, [], ◌∷◌, length, get_or, take, drop, ℤ, pos, ◌+ℤ◌, nat_abs, sym, refl, ap, ◌∙◌, subst, lt_of_lt_of_le, mul-le-mul_right, lt_of_not-le, not-le_of_lt, arith, pow_mono, pow-add}
use lib.Ieee.{size}
use lib.Ieee.Digits.{size-lt}
use borrow.Author.Differences.{ints}
use Rattle.std.proofs.lemmas.List.{drop_more, length-take-le, get_or-take}
use Rattle.exact.specs.Integers.{scale}
use Rattle.exact.proofs.Scaling.{scale_none, scale_scale, scale_abs}
use Rattle.exact.proofs.LimbBits.{pow_next_limb}
use Rattle.totals.specs.Totals.{totals_value}
use Rattle.partial_sum.specs.Holding.{slot, head, window}
use Rattle.partial_sum.specs.Ends.{Meant}
use Rattle.partial_sum.specs.declared.sum.PartialSum.{PartialSum}
use Rattle.partial_sum.proofs.Windows.{value_below}
use Rattle.partial_sum.proofs.Absorbing.{head_alone}

-- totals within 2 ^ 43 are less than 2 ^ 12 units of the column above them
low_bound : (ts : List ℤ) → ((k : ℕ) → k < length ts → nat_abs (get_or ts k (pos 0)) ≤ 2 ^ 43) → 4294967295 * nat_abs (totals_value ts) + 2 ^ 43 ≤ 2 ^ 43 * 2 ^ (32 * length ts)
low_bound [] f = omega arith
low_bound (t ∷ ts) f =
    let rest = low_bound ts (λ k l. f (suc k) (omega arith)) in
    let here : nat_abs t ≤ 2 ^ 43 = f 0 (omega arith) in
    let next : 2 ^ (32 * suc (length ts)) ≡ 4294967296 * 2 ^ (32 * length ts) = pow_next_limb (length ts) in
    omega (arith, ints)

value_parts : (i : ℕ) (ts : List ℤ) → i ≤ length ts → totals_value ts ≡ totals_value (take i ts) +ℤ scale (totals_value (drop i ts)) (32 * i)
value_parts zero ts h = (let e = scale_none (totals_value ts) in omega (arith, ints))
value_parts (suc i) [] h = absurd (omega arith)
value_parts (suc i) (t ∷ ts) h =
    let rest = value_parts i ts (omega arith) in
    let deep : scale (scale (totals_value (drop i ts)) (32 * i)) 32 ≡ scale (totals_value (drop i ts)) (32 * suc i) = scale_scale (totals_value (drop i ts)) (32 * i) 32 ∙ ap (scale (totals_value (drop i ts))) (let f : 32 * i + 32 ≡ 32 * suc i = omega arith in f) in
    omega (arith, ints)

-- what is less than 2 ^ 12 units of 2 ^ k, beside 2 ^ 32 such units or more
far_from_none : (k : ℕ) (low high : ℤ) → 50 ≤ k → 4294967295 * nat_abs low + 2 ^ 43 ≤ 2 ^ 43 * 2 ^ k → 2 ^ 32 ≤ nat_abs high → 2 ^ 31 * 2 ^ k + 2 ^ 50 ≤ nat_abs (low +ℤ scale high k)
far_from_none k low high deep small large = omega (arith, ints, pow_mono deep, scale_abs high k, mul-le-mul_right (2 ^ k) large)

-- the two highest totals of a window that is longer
pub top_large : (p : PartialSum) → p.from < 129 → 2 ^ 32 ≤ nat_abs (totals_value (drop 128 p.totals))
top_large p long =
    let value : totals_value (drop 128 p.totals) ≡ slot p 128 +ℤ scale (totals_value (drop 129 p.totals)) 32 = ap totals_value (drop_more p.totals 128 (pos 0) (omega (arith, p.whole))) ∙ value_below (slot p 128) (drop 129 p.totals) in
    let top : totals_value (drop 129 p.totals) ≡ head p = head_alone p.totals p.whole in
    let some = p.sound.shaped.head_some long in
    let second = p.sound.all_totals 128 (omega arith) in
    grind (arith, ints, p.sound.shaped.head_large long)

pub window_large : (p : PartialSum) (k : ℕ) → p.from ≡ 0 → k ≡ 32 * 128 → 2 ^ 31 * 2 ^ k + 2 ^ 50 ≤ nat_abs (window p)
window_large p k full e =
    let ts = p.totals in
    let long : length (take 128 ts) ≡ 128 = length-take-le 128 ts (omega (arith, p.whole)) in
    let low : 4294967295 * nat_abs (totals_value (take 128 ts)) + 2 ^ 43 ≤ 2 ^ 43 * 2 ^ (32 * length (take 128 ts)) =
    low_bound (take 128 ts) (λ j l. (let h = p.sound.all_totals j (omega arith) in let g = get_or-take 128 ts j (pos 0) (omega arith) in omega (arith, ints))) in
    let width : 32 * length (take 128 ts) ≡ k = ap (λ (n : ℕ). 32 * n) long ∙ sym e in
    let parts : totals_value ts ≡ totals_value (take 128 ts) +ℤ scale (totals_value (drop 128 ts)) (32 * 128) = value_parts 128 ts (omega (arith, p.whole)) in
    let whole : window p ≡ totals_value (take 128 ts) +ℤ scale (totals_value (drop 128 ts)) k = ap (λ (i : ℕ). totals_value (drop i ts)) full ∙ parts ∙ ap (λ (i : ℕ). totals_value (take 128 ts) +ℤ scale (totals_value (drop 128 ts)) i) (sym e) in
    subst (λ (z : ℤ). 2 ^ 31 * 2 ^ k + 2 ^ 50 ≤ nat_abs z) (sym whole)
    (far_from_none k (totals_value (take 128 ts)) (totals_value (drop 128 ts)) (omega arith) (subst (λ (n : ℕ). 4294967295 * nat_abs (totals_value (take 128 ts)) + 2 ^ 43 ≤ 2 ^ 43 * 2 ^ n) width low) (top_large p (omega arith)))

-- ---- the length of a magnitude next to it
long_enough : (n k : ℕ) → 2 ^ 31 * 2 ^ k ≤ n → 32 + k ≤ size n
long_enough n k h =
    let step : 31 + k < size n = lt_of_not-le (λ (g : size n ≤ 31 + k). (let a : n < 2 ^ (31 + k) = lt_of_lt_of_le (size-lt n) (pow_mono g) in let b : 2 ^ (31 + k) ≡ 2 ^ 31 * 2 ^ k = pow-add 2 31 k in let c : n < 2 ^ 31 * 2 ^ k = subst (λ (y : ℕ). n < y) b a in not-le_of_lt c h)) in
    omega arith

meant_large : (s : Bool) (n k : ℕ) (a v : ℤ) → nat_abs a ≤ 2 ^ 44 → 2 ^ 31 * 2 ^ k + 2 ^ 50 ≤ nat_abs v → Meant s true n (v +ℤ a) → 2 ^ 31 * 2 ^ k ≤ n
meant_large s n k a v h g k1 = grind (arith, ints)

pub magnitude_long : (p : PartialSum) (s : Bool) (n : ℕ) (a : ℤ) → p.from ≡ 0 → nat_abs a ≤ 2 ^ 44 → Meant s true n (window p +ℤ a) → 4128 ≤ size n
magnitude_long p s n a full few meant = at 4096 refl
  where
    at : (k : ℕ) → k ≡ 4096 → 4128 ≤ size n
    at k e = (let h = long_enough n k (meant_large s n k a (window p) few (window_large p k full e) meant) in omega arith)
