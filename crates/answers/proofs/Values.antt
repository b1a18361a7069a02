-- The number that a regular answer is: the grid number from which it is made.
use Rattle.std.proofs.Common.{◌≡◌, ℕ, ◌+◌, ◌-◌, ◌*◌, ◌^◌, ◌<◌, ◌≤◌, Bool, eqb, ℤ, pos, ◌+ℤ◌, ◌-ℤ◌, nat_abs, sym, ap, ◌∙◌, subst, lt_of_lt_of_le, arith, pow_pos, pow_mono, shl_lt}
use native.Mathlib.Nat.{mul-div_left}
use lib.Ieee.{size}
use lib.Ieee.Digits.{size-lt}
use borrow.Author.Differences.{ints}
use Rattle.exact.specs.Integers.{is_negative, signed, gap}
use Rattle.exact.specs.Dyadic.{Dyadic, dyadic, ◌≈ᴰ◌, Nonzero, exponent}
use Rattle.exact.specs.Limbs.{limbs_value}
use Rattle.exact.proofs.Integers.{signed_abs}
use Rattle.exact.proofs.Signed.{abs_signed}
use Rattle.exact.proofs.Scaling.{scale_abs, negative_scale}
use Rattle.exact.proofs.Exponents.{exponent_≈}
use Rattle.exact.proofs.Order.{≈ᴰ_trans}
use Rattle.exact.proofs.Units.{other_units}
use Rattle.limbs.specs.Bits.{limbs_for}
use Rattle.batch.specs.Term.{whole_units}
use Rattle.batch.specs.TermKinds.{kind_number, number_of_sign}
use Rattle.answers.specs.Published.{regular_answer, limbs_of}
use Rattle.answers.specs.Laws.{answer_value}
use Rattle.answers.proofs.LimbLists.{value_of_limbs}

-- the whole units in a number that is a whole number of them
pub units_≈ : (x : Dyadic) (s : Bool) (M : ℕ) (w : ℤ) → x ≈ᴰ dyadic (signed s M) w → whole_units (nat_abs x.count) x.weight w ≡ M
units_≈ x s M w e = grind (arith, ints, abs_signed, mul-div_left, pow_pos, scale_abs)

-- equal numbers have the same sign
same_sign : (x y : Dyadic) → x ≈ᴰ y → is_negative x.count ≡ is_negative y.count
same_sign x y e = grind (arith, ints, negative_scale)

sign_read : (s : Bool) → eqb (kind_number (number_of_sign s)) 6 ≡ s
sign_read s = grind (arith, ints)

module _ (u : ℤ → ℤ) (v : Dyadic) (N : Nonzero v) (q : ℤ) (i : v ≈ᴰ dyadic q (u (exponent v))) where
  abbrev p : ℕ
  p = gap (exponent v) (u (exponent v))

  abbrev n : ℕ
  n = limbs_for p

  -- its exponent is that of q steps
  steps_exponent : exponent v ≡ u (exponent v) +ℤ pos (size (nat_abs q))
  steps_exponent = exponent_≈ v (dyadic q (u (exponent v))) N i

  -- it is M units of the weight of its last limb
  abbrev M : ℕ
  M = nat_abs q * 2 ^ (32 * n - p)

  in_last_limb : v ≈ᴰ dyadic (signed (is_negative v.count) M) (exponent v -ℤ pos (32 * n))
  in_last_limb =
      let s = is_negative v.count in
      let w = exponent v -ℤ pos (32 * n) in
      let e = steps_exponent in
      let f : q ≡ signed s (nat_abs q) = sym (signed_abs q) ∙ ap (λ (b : Bool). signed b (nat_abs q)) (sym (same_sign v (dyadic q (u (exponent v))) i)) in
      ≈ᴰ_trans v (dyadic (signed s (nat_abs q)) (u (exponent v))) (dyadic (signed s M) w)
      (subst (λ (k : ℤ). v ≈ᴰ dyadic k (u (exponent v))) f i)
      (other_units s (nat_abs q) M (u (exponent v)) w w (32 * n - p) 0 (omega (arith, ints)) (omega (arith, ints)) (omega arith))

  few_bits : M < 2 ^ (32 * n)
  few_bits =
      let e = steps_exponent in
      let b = shl_lt (size (nat_abs q)) (32 * n - p) (size-lt (nat_abs q)) in
      let f : size (nat_abs q) + (32 * n - p) ≡ 32 * n = omega (arith, ints) in
      subst (λ (k : ℕ). M < 2 ^ k) f b

  -- so its limbs, of which there are enough, are M
  pub value_of_steps : (d : ℤ) (k room : ℕ) → n ≤ room → answer_value (regular_answer u v d k room) ≈ᴰ v
  value_of_steps d k room r =
      let s = is_negative v.count in
      let w = exponent v -ℤ pos (32 * n) in
      let a = whole_units (nat_abs v.count) v.weight w in
      let room_enough : M < 2 ^ (32 * room) = lt_of_lt_of_le few_bits (pow_mono (omega arith)) in
      let limbs : limbs_value (limbs_of room a) ≡ M = ap (λ (x : ℕ). limbs_value (limbs_of room x)) (units_≈ v s M w in_last_limb) ∙ value_of_limbs room M room_enough in
      let same : answer_value (regular_answer u v d k room) ≡ dyadic (signed s M) w =
      ap (λ (b : Bool). dyadic (signed b (limbs_value (limbs_of room a))) w) (sign_read s) ∙ ap (λ (x : ℕ). dyadic (signed s x) w) limbs in
      subst (λ (x : Dyadic). x ≈ᴰ v) (sym same) (sym in_last_limb)
