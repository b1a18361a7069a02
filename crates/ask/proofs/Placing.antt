-- The published answer of a sum, from what its rounding tells.
use Rattle.std.proofs.Common.{◌≡◌, ℕ, zero, suc, ◌-◌, ◌*◌, ◌^◌, ◌<◌, ◌≤◌, Bool, true, false, List, [], ℤ, pos, ◌-ℤ◌, Some, None, Option, nat_abs, sym, refl, ap, ◌∙◌, subst, inl, mul_comm, pow-suc, arith, pow_pos}
use lib.Ieee.{size}
use borrow.Author.Differences.{ints}
use Rattle.std.proofs.lemmas.Bool.{cond-true, cond-false, eq-eqb, ne_eqb}
use Rattle.exact.specs.Integers.{is_negative, signed, gap, scale}
use Rattle.exact.specs.Dyadic.{Dyadic, dyadic, ◌≈ᴰ◌, Nonzero, exponent, total}
use Rattle.exact.proofs.Integers.{abs_none}
use Rattle.exact.proofs.Signed.{abs_signed, negative_signed}
use Rattle.exact.proofs.Scaling.{scale_inj, zero_scale, negative_scale, gap_add}
use Rattle.exact.proofs.BitLength.{size_is, size_scale, size_pos, pos_of_size}
use Rattle.exact.proofs.Exponents.{nonzero_≈, exponent_≈}
use Rattle.grid.specs.Rounding.{Mode, rounded}
use Rattle.grid.proofs.Outcomes.{exact, direction}
use Rattle.limbs.specs.Bits.{limbs_for}
use Rattle.ends.specs.Outcome.{Placed, Written, RoundsAs}
use Rattle.ends.specs.Directions.{direction_sign}
use Rattle.ends.specs.declared.direction.Direction.TheVariants.{Exact}
use Rattle.ends.specs.declared.rounded_end.Extent.{Extent}
use Rattle.ends.specs.declared.rounded_end.RoundedEnd.{RoundedEnd}
use Rattle.batch.specs.Term.{whole_units}
use Rattle.batch.specs.TermKinds.{kind_number, zero_of_sign, number_of_sign}
use Rattle.column.specs.Parts.{Part, exact_sum}
use Rattle.column.specs.Columns.{columns}
use Rattle.column.specs.Depth.{depth}
use Rattle.depth.specs.Rounded.{RoundedTo}
use Rattle.answers.specs.Published.{Published, is_zero, plain, limbs_of, sum_answer}
use Rattle.answers.proofs.Values.{units_≈}

-- ---- a significand of p bits at the top of its limbs
some_bits : (p s : ℕ) → s < 2 ^ p → 2 ^ p ≤ 2 * s → size s ≡ p
some_bits zero s h l = absurd (omega arith)
some_bits (suc p) s h l = size_is s p (let e : 2 ^ suc p ≡ 2 * 2 ^ p = pow-suc 2 p ∙ mul_comm (2 ^ p) 2 in omega arith) h

module _ (u : ℤ → ℤ) (e : ℤ) (p a : ℕ) (placed : Placed u e p a) where
  some : 0 < placed.significand
  some = let h = pow_pos p in omega (arith, placed.above)

  placed_size : size a ≡ 32 * limbs_for p
  placed_size =
      ap size placed.is
      ∙ size_scale placed.significand (32 * limbs_for p - p) some
      ∙ omega (arith, some_bits p placed.significand placed.below placed.above)

  placed_some : 0 < a
  placed_some =
      pos_of_size a (omega (arith, placed_size, size_pos placed.significand some, some_bits p placed.significand placed.below placed.above))

  -- a number of that magnitude at that weight has the exponent e
  placed_exponent : (s : Bool) → exponent (dyadic (signed s a) (e -ℤ pos (32 * limbs_for p))) ≡ e
  placed_exponent s = let n = ap size (abs_signed s a) ∙ placed_size in omega (arith, ints)

  precision : gap e (u e) ≡ p
  precision = ap (λ (z : ℤ). gap z (u e)) placed.precise ∙ gap_add (u e) p

-- ---- equal numbers at two weights
negative_≈ : (v : Dyadic) (s : Bool) (a : ℕ) (w : ℤ) → 0 < a → v ≈ᴰ dyadic (signed s a) w → is_negative v.count ≡ s
negative_≈ v s a w h e =
    sym (negative_scale v.count (gap v.weight w)) ∙ ap is_negative e ∙ negative_scale (signed s a) (gap w v.weight) ∙ negative_signed s a h

none_≈ : (x y : Dyadic) → y.count ≡ pos 0 → x ≈ᴰ y → x.count ≡ pos 0
none_≈ x y z e =
    let j = gap x.weight y.weight in
    let k = gap y.weight x.weight in
    scale_inj x.count (pos 0) j (e ∙ ap (λ (n : ℤ). scale n k) z ∙ zero_scale k ∙ sym (zero_scale j))

-- ---- zeros
zero_test : (x : Dyadic) → x.count ≡ pos 0 → is_zero x ≡ true
zero_test x e = eq-eqb (nat_abs x.count) 0 (ap nat_abs e)

nonzero_test : (x : Dyadic) → Nonzero x → is_zero x ≡ false
nonzero_test x h = ne_eqb (nat_abs x.count) 0 (λ e. h (abs_none x.count e))

module _ (u : ℤ → ℤ) (m : Mode) (x : Dyadic) where
  -- 0 rounds to 0, exactly
  sum_nonzero : Nonzero (rounded u m x).value → Nonzero x
  sum_nonzero h e = h (ap (λ (y : Dyadic). y.count) (exact u m x (inl e)).0 ∙ e)

  inexact_nonzero : ¬ ((rounded u m x).direction ≡ pos 0) → Nonzero x
  inexact_nonzero h e = h (exact u m x (inl e)).1

  -- and nothing else rounds to 0 exactly
  exact_zero : (rounded u m x).value.count ≡ pos 0 → (rounded u m x).direction ≡ pos 0 → x.count ≡ pos 0
  exact_zero z e = none_≈ x (rounded u m x).value z (sym ((direction u m x).none e))

-- ---- the answers
pub published_alike : {k p d : ℕ} {e : ℤ} {ls : List ℕ} {K P D : ℕ} {E : ℤ} {LS : List ℕ} (s t : ℤ) → k ≡ K → e ≡ E → p ≡ P → s ≡ t → d ≡ D → ls ≡ LS
    → ◌≡◌ {A = Published} (record { kind = k; exponent = e; precision = p; direction = s; depth = d; limbs = ls })
    (record { kind = K; exponent = E; precision = P; direction = t; depth = D; limbs = LS })
published_alike s t a b c d e f = cc

module _ (negative : Bool) (u : ℤ → ℤ) (m : Mode) (ps : List Part) (room : ℕ) where
  -- no part: a zero of depth 0
  pub answer_of_none : ps ≡ [] → plain (zero_of_sign negative) (pos 0) 0 room ≡ sum_answer negative u m ps room
  unfolding total depth columns
  answer_of_none e = subst (λ (l : List Part). plain (zero_of_sign negative) (pos 0) 0 room ≡ sum_answer negative u m l room) (sym e) refl

  module _ (r : RoundedEnd) (d a : ℕ) (told : RoundedTo u m ps r d a) where
    pub answer_of_number : (k : Extent) → r.extent ≡ Some k
        → ◌≡◌ {A = Published} (record { kind = kind_number (number_of_sign r.negative); exponent = k.exponent; precision = k.precision; direction = direction_sign r.direction; depth = d; limbs = limbs_of room a })
        (sum_answer negative u m ps room)
    answer_of_number k is =
        let x = exact_sum ps in
        let v = (rounded u m x).value in
        let e = k.exponent in
        let p = k.precision in
        let w = e -ℤ pos (32 * limbs_for p) in
        let placed : Placed u e p a = subst (λ (o : Option Extent). Written u o a) is told.limbs in
        let some = placed_some u e p a placed in
        let rounds = subst (λ (o : Option Extent). RoundsAs u m x r.negative o a (direction_sign r.direction)) is told.rounds in
        let same : v ≈ᴰ dyadic (signed r.negative a) w = rounds.values in
        let there : Nonzero (dyadic (signed r.negative a) w) = λ h. let z : a ≡ 0 = sym (abs_signed r.negative a) ∙ ap nat_abs h in absurd (omega arith) in
        let v_some : Nonzero v = nonzero_≈ (dyadic (signed r.negative a) w) v there (sym same) in
        let at_e : exponent v ≡ e = exponent_≈ v (dyadic (signed r.negative a) w) v_some same ∙ placed_exponent u e p a placed r.negative in
        let prec : gap (exponent v) (u (exponent v)) ≡ p = ap (λ (y : ℤ). gap y (u y)) at_e ∙ precision u e p a placed in
        let low : exponent v -ℤ pos (32 * limbs_for (gap (exponent v) (u (exponent v)))) ≡ w = ap (λ (y : ℤ). y -ℤ pos (32 * limbs_for (gap (exponent v) (u (exponent v))))) at_e ∙ ap (λ (y : ℕ). e -ℤ pos (32 * limbs_for y)) prec in
        let digits = ap (whole_units (nat_abs v.count) v.weight) low ∙ units_≈ v r.negative a w same in
        published_alike (direction_sign r.direction) (rounded u m x).direction
        (ap (λ (b : Bool). kind_number (number_of_sign b)) (sym (negative_≈ v r.negative a w some same)))
        (sym at_e) (sym prec) (sym rounds.directions) told.deep (ap (limbs_of room) (sym digits))
        ∙ sym (cond-false _ _ _ (nonzero_test x (sum_nonzero u m x v_some)) ∙ cond-false _ _ _ (nonzero_test v v_some))

    module _ (is : r.extent ≡ None) where
      told_zero : RoundsAs u m (exact_sum ps) r.negative None a (direction_sign r.direction)
      told_zero = subst (λ (o : Option Extent). RoundsAs u m (exact_sum ps) r.negative o a (direction_sign r.direction)) is told.rounds

      value_zero : (rounded u m (exact_sum ps)).value.count ≡ pos 0
      value_zero = none_≈ (rounded u m (exact_sum ps)).value (dyadic (pos 0) (pos 0)) refl told_zero.values

      pub answer_of_exact_zero : r.direction ≡ Exact → plain (zero_of_sign negative) (direction_sign r.direction) d room ≡ sum_answer negative u m ps room
      answer_of_exact_zero exact =
          let none : direction_sign r.direction ≡ pos 0 = ap direction_sign exact in
          let zero = exact_zero u m (exact_sum ps) value_zero (told_zero.directions ∙ none) in
          published_alike (direction_sign r.direction) (pos 0) refl refl refl none told.deep refl
          ∙ sym (cond-true _ _ _ (zero_test (exact_sum ps) zero))

      pub answer_of_inexact_zero : ¬ (direction_sign r.direction ≡ pos 0) → plain (zero_of_sign r.negative) (direction_sign r.direction) d room ≡ sum_answer negative u m ps room
      answer_of_inexact_zero inexact =
          let x = exact_sum ps in
          let some = inexact_nonzero u m x (λ e. inexact (sym told_zero.directions ∙ e)) in
          published_alike (direction_sign r.direction) (rounded u m x).direction
          (ap (λ (b : Bool). kind_number (zero_of_sign b)) (sym told_zero.signs)) refl refl (sym told_zero.directions) told.deep refl
          ∙ sym (cond-false _ _ _ (nonzero_test x some) ∙ cond-true _ _ _ (zero_test (rounded u m x).value value_zero))
