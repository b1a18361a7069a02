-- An answer's limbs, exponent and precision are determined by what number it is.
use Rattle.std.proofs.Common.{◌≡◌, ℕ, zero, suc, ◌+◌, ◌-◌, ◌*◌, ◌^◌, ◌<◌, ◌≤◌, Bool, ℤ, pos, ◌+ℤ◌, ◌-ℤ◌, nat_abs, Some, None, Option, sym, refl, ap, ◌∙◌, subst, mul-pos, arith, pow_pos}
use lib.Ieee.{size}
use borrow.Author.Differences.{ints}
use Rattle.exact.specs.Integers.{signed}
use Rattle.exact.specs.Dyadic.{Dyadic, dyadic, ◌≈ᴰ◌, Nonzero, exponent}
use Rattle.exact.proofs.Signed.{abs_signed}
use Rattle.exact.proofs.BitLength.{size_is, size_scale}
use Rattle.exact.proofs.Order.{≈ᴰ_sym, ≈ᴰ_trans}
use Rattle.exact.proofs.Exponents.{exponent_≈, nonzero_≈}
use Rattle.grid.specs.Rounding.{Mode, rounded, Alike}
use Rattle.limbs.specs.Bits.{limbs_for}
use Rattle.ends.specs.Directions.{direction_sign}
use Rattle.ends.specs.Outcome.{Placed, Written, number_told}
use Rattle.ends.specs.declared.direction.Direction.{Direction}
use Rattle.ends.specs.declared.rounded_end.Extent.{Extent}
use Rattle.ends.specs.declared.rounded_end.RoundedEnd.{RoundedEnd}
use Rattle.partial_sum.specs.Lying.{Lies}
use Rattle.partial_sum.specs.Rounded.{Certain}

-- the weight of the last bit of limbs that hold p bits below the exponent e
abbrev last_weight : ℤ → ℕ → ℤ
last_weight e p = e -ℤ pos (32 * limbs_for p)

top_bit : (n p : ℕ) → n < 2 ^ p → 2 ^ p ≤ 2 * n → (size n ≡ p) × (0 < n)
top_bit n zero l g = absurd (omega arith)
top_bit n (suc q) l g = grind (arith, size_is n q)

module _ (u : ℤ → ℤ) (e : ℤ) (p a : ℕ) (s : Bool) (d : Placed u e p a) where
  placed_size : (size a ≡ 32 * limbs_for p) × (0 < a)
  placed_size =
      let t = top_bit d.significand p d.below d.above in
      let k = 32 * limbs_for p - p in
      let long : size a ≡ p + k = ap size d.is ∙ size_scale d.significand k t.1 ∙ ap (λ (n : ℕ). n + k) t.0 in
      (long ∙ omega arith, subst (λ (n : ℕ). 0 < n) (sym d.is) (mul-pos t.1 (pow_pos k)))

  pub placed_some : Nonzero (dyadic (signed s a) (last_weight e p))
  placed_some none = let z : a ≡ 0 = sym (abs_signed s a) ∙ ap nat_abs none in let some = placed_size.1 in omega arith

  pub placed_exponent : exponent (dyadic (signed s a) (last_weight e p)) ≡ e
  placed_exponent =
      let long : size (nat_abs (signed s a)) ≡ 32 * limbs_for p = ap size (abs_signed s a) ∙ placed_size.0 in
      ap (λ (n : ℕ). last_weight e p +ℤ pos n) long ∙ omega (arith, ints)

-- two ways to write one number
module _ (u : ℤ → ℤ) (e f : ℤ) (p q a b : ℕ) (s : Bool) (d : Placed u e p a) (g : Placed u f q b) (same : dyadic (signed s a) (last_weight e p) ≈ᴰ dyadic (signed s b) (last_weight f q)) where
  pub same_exponent : e ≡ f
  same_exponent = sym (placed_exponent u e p a s d) ∙ exponent_≈ (dyadic (signed s a) (last_weight e p)) (dyadic (signed s b) (last_weight f q)) (placed_some u e p a s d) same ∙ placed_exponent u f q b s g

  pub same_precision : p ≡ q
  same_precision = let x = d.precise in let y = g.precise in let i = same_exponent in let j : u e ≡ u f = ap u i in omega (arith, ints)

  pub same_limbs : a ≡ b
  same_limbs = let i = same_exponent in let j = same_precision in grind (arith, ints, abs_signed s a, abs_signed s b)

signs_apart : (d e : Direction) → direction_sign d ≡ direction_sign e → d ≡ e
signs_apart d e h = grind (arith, ints)

-- ---- two answers

same_extent : (x y : Extent) → x.exponent ≡ y.exponent → x.precision ≡ y.precision → x ≡ y
same_extent x y e p = grind (arith, ints)

same_answer : (r q : RoundedEnd) → r.negative ≡ q.negative → r.direction ≡ q.direction → r.extent ≡ q.extent → r ≡ q
same_answer r q n d x = grind (arith, ints)

-- a number determines the extent and the limbs that it is told by
same_told : (u : ℤ → ℤ) (s : Bool) (x y : Option Extent) (k l : ℕ) → Written u x k → Written u y l → number_told s x k ≈ᴰ number_told s y l → (x ≡ y) × (k ≡ l)
same_told u s None None k l one two values = (refl, one ∙ sym two)
same_told u s (Some x) (Some y) k l one two values = (
  ap Some (same_extent x y (same_exponent u x.exponent y.exponent x.precision y.precision k l s one two values) (same_precision u x.exponent y.exponent x.precision y.precision k l s one two values)),
  same_limbs u x.exponent y.exponent x.precision y.precision k l s one two values,
)
same_told u s None (Some y) k l one two values = absurd (nonzero_≈ (number_told s (Some y) l) (number_told s None k) (placed_some u y.exponent y.precision l s two) (sym values) refl)
same_told u s (Some x) None k l one two values = absurd (nonzero_≈ (number_told s (Some x) k) (number_told s None l) (placed_some u x.exponent x.precision k s one) values refl)

-- the number that an answer's limbs stand for
abbrev told : RoundedEnd → ℕ → Dyadic
told r k = number_told r.negative r.extent k

module _ (u : ℤ → ℤ) (m : Mode) (b c : Bool) (v w z : ℤ) (r q : RoundedEnd) (k l : ℕ) (x y : Dyadic) (one : Certain u m b v z r k) (two : Certain u m c w z q l) (here : Lies b v z x) (there : Lies c w z y) where
  pub same_from_alike : Alike (rounded u m x) (rounded u m y) → (r ≡ q) × (k ≡ l)
  same_from_alike alike =
      let i = one.rounds x here in
      let j = two.rounds y there in
      let signs : r.negative ≡ q.negative = sym i.signs ∙ alike.signs ∙ j.signs in
      let values : told r k ≈ᴰ told q l =
      ≈ᴰ_trans (told r k) (rounded u m x).value (told q l) (≈ᴰ_sym (rounded u m x).value (told r k) i.values) (≈ᴰ_trans (rounded u m x).value (rounded u m y).value (told q l) alike.values j.values) in
      let both = same_told u q.negative r.extent q.extent k l one.limbs two.limbs (subst (λ (s : Bool). number_told s r.extent k ≈ᴰ told q l) signs values) in
      (same_answer r q signs (signs_apart r.direction q.direction (sym i.directions ∙ alike.directions ∙ j.directions)) both.0, both.1)

  pub alike_from_same : r ≡ q → k ≡ l → Alike (rounded u m x) (rounded u m y)
  alike_from_same fields limbs =
      let i = one.rounds x here in
      let j = two.rounds y there in
      let values : told r k ≡ told q l = ap (λ (e : RoundedEnd). told e k) fields ∙ ap (told q) limbs in
      record {
        values = ≈ᴰ_trans (rounded u m x).value (told q l) (rounded u m y).value (subst (λ (t : Dyadic). (rounded u m x).value ≈ᴰ t) values i.values) (≈ᴰ_sym (rounded u m y).value (told q l) j.values);
        signs = i.signs ∙ ap (λ (e : RoundedEnd). e.negative) fields ∙ sym j.signs;
        directions = i.directions ∙ ap (λ (e : RoundedEnd). direction_sign e.direction) fields ∙ sym j.directions;
      }
