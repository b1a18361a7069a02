-- Totals carried up one by one.
use Rattle.std.proofs.Common.{◌≡◌, ℕ, suc, ◌+◌, ◌*◌, ◌^◌, ◌<◌, Bool, true, false, List, [], ◌∷◌, ◌++◌, length, get_or, take, set, ℤ, pos, ◌+ℤ◌, ◌*ℤ◌, neg_ℤ, sym, refl, ap, ◌∙◌, arith}
use borrow.Author.Differences.{up, down, neg_is}
use Rattle.std.proofs.lemmas.Int.{ints}
use Rattle.std.proofs.lemmas.List.{take_more, length-take-le}
use Rattle.exact.specs.Limbs.{limbs_value}
use Rattle.exact.proofs.LimbBits.{pow_next_limb}
use Rattle.exact.proofs.LimbSteps.{value_set, pow_after}
use Rattle.exact.proofs.IntegerParts.{carry_over, digit_before}
use Rattle.totals.specs.Totals.{totals_value, flipped}

totals_push : (ts : List ℤ) (r : ℤ) → totals_value (ts ++ r ∷ []) ≡ totals_value ts +ℤ (r *ℤ pos (2 ^ (32 * length ts)))
totals_push [] r = omega (arith, ints)
totals_push (t ∷ ts) r = digit_before t (totals_value (ts ++ r ∷ [])) (totals_value ts) r (2 ^ (32 * length ts)) (2 ^ (32 * suc (length ts))) (pow_next_limb (length ts)) (totals_push ts r)

totals_more : (ts : List ℤ) (i : ℕ) → i < length ts → totals_value (take (i + 1) ts) ≡ totals_value (take i ts) +ℤ (get_or ts i (pos 0) *ℤ pos (2 ^ (32 * i)))
totals_more ts i l =
    ap totals_value (take_more ts i (pos 0) l) ∙ totals_push (take i ts) (get_or ts i (pos 0))
    ∙ ap (λ (y : ℕ). totals_value (take i ts) +ℤ (get_or ts i (pos 0) *ℤ pos (2 ^ (32 * y)))) (length-take-le i ts (omega arith))

flipped_sum : (f : Bool) (t V : ℤ) (P : ℕ) → flipped f (V +ℤ (t *ℤ pos P)) ≡ flipped f V +ℤ (flipped f t *ℤ pos P)
flipped_sum true t V P =
    let a : up (neg_ℤ t) * P ≡ down t * P = ap (λ (y : ℕ). y * P) (neg_is t).0 in
    let b : down (neg_ℤ t) * P ≡ up t * P = ap (λ (y : ℕ). y * P) (neg_is t).1 in
    omega (arith, ints)
flipped_sum false t V P = refl

pub carry_step : (f : Bool) (ts : List ℤ) (s : List ℕ) (i l : ℕ) (c q : ℤ) → i < length ts → length ts ≡ length s → flipped f (get_or ts i (pos 0)) +ℤ c ≡ q *ℤ pos 4294967296 +ℤ pos l
    → flipped f (totals_value (take i ts)) ≡ c *ℤ pos (2 ^ (32 * i)) +ℤ pos (limbs_value (take i s))
    → flipped f (totals_value (take (i + 1) ts)) ≡ q *ℤ pos (2 ^ (32 * (i + 1))) +ℤ pos (limbs_value (take (i + 1) (set s i l)))
carry_step f ts s i l c q lt same digit value =
    let t = get_or ts i (pos 0) in
    let P = 2 ^ (32 * i) in
    let ls : i < length s = omega arith in
    ap (flipped f) (totals_more ts i lt) ∙ flipped_sum f t (totals_value (take i ts)) P
    ∙ carry_over (flipped f t) c q (flipped f (totals_value (take i ts))) l (limbs_value (take i s)) P (2 ^ (32 * (i + 1))) digit value (pow_after i)
    ∙ ap (λ (y : ℕ). q *ℤ pos (2 ^ (32 * (i + 1))) +ℤ pos y) (sym (value_set s i l ls))
