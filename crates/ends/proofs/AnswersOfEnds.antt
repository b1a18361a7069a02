-- What is written for an end is what the numbers that it stands for round to.
use Rattle.std.proofs.Common.{◌≡◌, ℕ, suc, ◌+◌, ◌-◌, ◌*◌, ◌/◌, ◌^◌, ◌<◌, ◌≤◌, Bool, true, false, List, get_or, ℤ, pos, ◌+ℤ◌, ◌-ℤ◌, ◌≤ℤ◌, ◌<ℤ◌, Some, None, Option, is_none, sym, refl, ap, ◌∙◌, subst, lt_of_lt_of_le, pow-suc, arith, pow_pos, pow_mono, pow-add}
use native.Mathlib.Nat.{div-eq_of_lt}
use lib.Ieee.{size}
use lib.Ieee.Digits.{size-lt}
use borrow.Author.Differences.{ints}
use Rattle.std.proofs.lemmas.Int.{by_lt_z}
use Rattle.std.proofs.lemmas.Bool.{false≢true}
use Rattle.std.specs.Option.{option_map_or}
use Rattle.exact.specs.Integers.{signed, gap}
use Rattle.exact.specs.Dyadic.{Dyadic, dyadic}
use Rattle.exact.specs.Limbs.{limbs_value}
use Rattle.exact.proofs.BitLength.{size_top}
use Rattle.exact.specs.Dyadic.{◌≈ᴰ◌}
use Rattle.exact.proofs.Order.{≈ᴰ_sym, ≈ᴰ_trans}
use Rattle.exact.proofs.BitLength.{pos_of_size}
use Rattle.exact.proofs.Shifts.{shift_down, shift_up, first_bits_full, half_power}
use Rattle.exact.proofs.LimbBits.{SmallLimbs, limb_past_value}
use Rattle.exact.proofs.Units.{other_units}
use Rattle.grid.specs.Rounding.{Mode, rounded}
use Rattle.grid.specs.Spacing.{InRange, Lawful}
use Rattle.grid.proofs.Everywhere.{LawsEverywhere}
use Rattle.limbs.specs.Bits.{bit, limbs_for}
use Rattle.ends.specs.Directions.{direction_sign, toward}
use Rattle.ends.specs.Ends.{StandsFor, spacing_there}
use Rattle.ends.specs.Outcome.{RoundsTo, RoundsAs, Placed, Answered, AnsweredAt, limbs_taken}
use Rattle.ends.specs.Steps.{Decided, NoneKept, SomeKept}
use Rattle.ends.specs.declared.direction.Direction.{Direction}
use Rattle.ends.specs.declared.rounded_end.Extent.{Extent}
use Rattle.limbs.proofs.WrittenBits.{unused, unit_fits}
use Rattle.ends.proofs.NumbersOfEnds.{coarse_end_rounds, fine_end_rounds}

-- ---- the same answer in other units
in_other_units : (u : ℤ → ℤ) (m : Mode) (x : Dyadic) (s : Bool) (M a : ℕ) (v y d z : ℤ) (j k : ℕ) → v ≡ z +ℤ pos j → y ≡ z +ℤ pos k → M * 2 ^ j ≡ a * 2 ^ k
    → RoundsTo u m x s M v d → RoundsTo u m x s a y d
in_other_units u m x s M a v y d z j k ev ey e r = record {
  values = ≈ᴰ_trans (rounded u m x).value (dyadic (signed s M) v) (dyadic (signed s a) y) r.values (other_units s M a v y z j k ev ey e);
  signs = r.signs;
  directions = r.directions;
}

-- from steps of the grid to the limbs
in_limbs : (u : ℤ → ℤ) (m : Mode) (x : Dyadic) (s : Bool) (M a p : ℕ) (v e d : ℤ) → e ≡ v +ℤ pos p → a ≡ M * 2 ^ unused p
    → RoundsTo u m x s M v d → RoundsTo u m x s a (e -ℤ pos (32 * limbs_for p)) d
in_limbs u m x s M a p v e d h i r =
    let l : p ≤ 32 * limbs_for p = omega arith in
    in_other_units u m x s M a v (e -ℤ pos (32 * limbs_for p)) d (e -ℤ pos (32 * limbs_for p)) (unused p) 0 (omega (arith, ints)) (omega (arith, ints)) (sym i ∙ omega arith) r

-- no step of the grid is 0
zeros : (s : Bool) (v : ℤ) → dyadic (signed s 0) v ≈ᴰ dyadic (pos 0) (pos 0)
zeros s v = grind (arith, ints)

to_zero : (u : ℤ → ℤ) (m : Mode) (x : Dyadic) (s : Bool) (a : ℕ) (v d : ℤ) → RoundsTo u m x s 0 v d → RoundsAs u m x s None a d
to_zero u m x s a v d r = record {
  values = ≈ᴰ_trans (rounded u m x).value (dyadic (signed s 0) v) (dyadic (pos 0) (pos 0)) r.values (zeros s v);
  signs = r.signs;
  directions = r.directions;
}

of_zero : (u : ℤ → ℤ) (m : Mode) (x : Dyadic) (s : Bool) (a : ℕ) (v d : ℤ) → a ≡ 0 → RoundsAs u m x s None a d → RoundsTo u m x s a v d
of_zero u m x s a v d z r = record {
  values = ≈ᴰ_trans (rounded u m x).value (dyadic (pos 0) (pos 0)) (dyadic (signed s a) v) r.values (≈ᴰ_sym (dyadic (signed s a) v) (dyadic (pos 0) (pos 0)) (rw z (zeros s v)));
  signs = r.signs;
  directions = r.directions;
}

-- a power of two in p bits
power_placed : (u : ℤ → ℤ) (e : ℤ) (p a : ℕ) → 0 < p → e ≡ u e +ℤ pos p → a ≡ 2 ^ (32 * limbs_for p) / 2 → Placed u e p a
power_placed u e p a h q i =
    let c : 2 ^ p ≡ 2 ^ (p - 1) * 2 = ap (λ (y : ℕ). 2 ^ y) (let q : p ≡ suc (p - 1) = omega arith in q) ∙ pow-suc 2 (p - 1) in
    record {
      significand = 2 ^ (p - 1);
      below = omega (arith, pow_pos (p - 1));
      above = omega arith;
      is =
          i ∙ half_power (32 * limbs_for p) (omega arith) ∙ ap (λ (y : ℕ). 2 ^ y) (let q : 32 * limbs_for p - 1 ≡ p - 1 + unused p = omega arith in q) ∙ pow-add 2 (p - 1) (unused p);
      precise = q;
    }

-- ---- an end of exponent e, where the spacing is v
module _ (u : ℤ → ℤ) (S : LawsEverywhere u) (m : Mode) (s part : Bool) (n : ℕ) (w e v : ℤ) (raise inexact : Bool)
    (ee : e ≡ w +ℤ pos (size n)) (vv : v ≡ u e) (nz : part ≡ false → 0 < n) (det : part ≡ true → w <ℤ v) (D : Decided m s part n w v raise inexact) where
  there : v ≡ spacing_there u n w
  there = vv ∙ ap u ee

  -- a part is left over only where the spacing is above the unit
  none_left_over : v ≤ℤ w → part ≡ false
  none_left_over h = grind (arith, ints)

  coarse_rounds : (i : ℕ) → v ≡ w +ℤ pos (suc i) → (x : Dyadic) → StandsFor s part n w x → RoundsTo u m x s (n / 2 ^ suc i + bit raise) v (direction_sign (toward s raise inexact))
  coarse_rounds i h x g =
      let d = D.coarse i h in
      let k : suc i ≡ gap (spacing_there u n w) w = (let q : suc i ≡ gap v w = omega (arith, ints) in q) ∙ ap (λ (y : ℤ). gap y w) there in
      let r = coarse_end_rounds u S m s part n i w x k nz g in
      rw (d.0, d.1, there) r

  fine_rounds : v ≤ℤ w → (x : Dyadic) → StandsFor s part n w x → RoundsTo u m x s n w (direction_sign (toward s raise inexact))
  fine_rounds h x g =
      let d = D.fine h in
      let f = none_left_over h in
      rw (d.0, d.1) (fine_end_rounds u S m s n w x (subst (λ (y : ℤ). y ≤ℤ w) there h) (nz f) (subst (λ (y : Bool). StandsFor s y n w x) f g))

  -- ---- some bits are kept: p of them, or q at the next exponent
  module _ (p q : ℕ) (pp : e ≡ v +ℤ pos p) (some : 0 < p) (qq : (e +ℤ pos 1) ≡ u (e +ℤ pos 1) +ℤ pos q) where
    nonzero : 0 < n
    nonzero = by_lt_z w v (λ l. pos_of_size n (omega (arith, ints))) (λ l. nz (none_left_over l))

    kept_rounds : (x : Dyadic) → StandsFor s part n w x → RoundsTo u m x s (n * 2 ^ p / 2 ^ size n + bit raise) v (direction_sign (toward s raise inexact))
    kept_rounds x g =
        by_lt_z w v
        (λ l.
        let i = gap v w - 1 in
        let h : v ≡ w +ℤ pos (suc i) = omega (arith, ints) in
        let c : size n - p ≡ suc i = omega (arith, ints) in
        let a : n * 2 ^ p / 2 ^ size n ≡ n / 2 ^ suc i = shift_down n p (size n) (omega (arith, ints)) ∙ ap (λ (y : ℕ). n / 2 ^ y) c in
        rw a (coarse_rounds i h x g))
        (λ l.
        let t = p - size n in
        let M = n * 2 ^ p / 2 ^ size n in
        let f : raise ≡ false = (D.fine l).0 in
        let c : M + bit raise ≡ n * 2 ^ t = ap (λ (b : Bool). M + bit b) f ∙ (let z : M + 0 ≡ M = omega arith in z) ∙ shift_up n p (size n) (omega (arith, ints)) in
        in_other_units u m x s n (M + bit raise) w v (direction_sign (toward s raise inexact)) v t 0 (omega (arith, ints)) (omega (arith, ints)) (sym c ∙ omega arith) (fine_rounds l x g))

    kept_answer : (a : ℕ) → a ≡ (n * 2 ^ p / 2 ^ size n + bit raise) * 2 ^ unused p → n * 2 ^ p / 2 ^ size n + bit raise < 2 ^ p
        → Answered u m s part n w (Some (record { exponent = e; precision = p })) (direction_sign (toward s raise inexact)) a
    kept_answer a i l =
        let M = n * 2 ^ p / 2 ^ size n + bit raise in
        record {
          limbs = record { significand = M; below = l; above = omega (arith, first_bits_full n p some nonzero); is = i; precise = pp ∙ ap (λ (y : ℤ). y +ℤ pos p) vv };
          rounds = λ x g. in_limbs u m x s M a p v e (direction_sign (toward s raise inexact)) pp i (kept_rounds x g);
        }

    carried_answer : (a : ℕ) → a ≡ 2 ^ (32 * limbs_for q) / 2 → n * 2 ^ p / 2 ^ size n + bit raise ≡ 2 ^ p
        → Answered u m s part n w (Some (record { exponent = e +ℤ pos 1; precision = q })) (direction_sign (toward s raise inexact)) a
    carried_answer a i l =
        let inside = S.inside e (subst (λ (y : ℤ). y <ℤ e) vv (omega (arith, ints))) in
        let q0 : 0 < q = omega (arith, ints) in
        let L = 32 * limbs_for q in
        let L0 : 0 < L = omega arith in
        let y = (e +ℤ pos 1) -ℤ pos L in
        let z = v -ℤ pos (gap v y) in
        let j = gap v z in
        let k = gap y z in
        let c : p + j ≡ L - 1 + k = omega (arith, ints) in
        let h : 2 ^ p * 2 ^ j ≡ a * 2 ^ k = sym (pow-add 2 p j) ∙ ap (λ (t : ℕ). 2 ^ t) c ∙ pow-add 2 (L - 1) k ∙ ap (λ (t : ℕ). t * 2 ^ k) (sym (i ∙ half_power L L0)) in
        record {
          limbs = power_placed u (e +ℤ pos 1) q a q0 qq i;
          rounds = λ x g. in_other_units u m x s (2 ^ p) a v y (direction_sign (toward s raise inexact)) z j k (omega (arith, ints)) (omega (arith, ints)) h (rw (sym l) (kept_rounds x g));
        }

    pub some_kept_right : (x : Extent) (a : ℕ) (d : Direction) → d ≡ toward s raise inexact → SomeKept (n * 2 ^ p / 2 ^ size n + bit raise) e p q x a → Answered u m s part n w (Some x) (direction_sign d) a
    some_kept_right x a d dd h = grind (arith, kept_answer a, carried_answer a)

  -- ---- no bit is kept
  module _ (low : e ≤ℤ v) where
    unit_below : w <ℤ v
    unit_below = grind (arith, ints, size_top n)

    none_kept_rounds : (x : Dyadic) → StandsFor s part n w x → RoundsTo u m x s (bit raise) v (direction_sign (toward s raise inexact))
    none_kept_rounds x g =
        let h = unit_below in
        let i = gap v w - 1 in
        let c : v ≡ w +ℤ pos (suc i) = omega (arith, ints) in
        let b : size n ≤ suc i = omega (arith, ints) in
        let a : n / 2 ^ suc i ≡ 0 = div-eq_of_lt (lt_of_lt_of_le (size-lt n) (pow_mono b)) in
        let f : n / 2 ^ suc i + bit raise ≡ bit raise = ap (λ (y : ℕ). y + bit raise) a ∙ omega arith in
        subst (λ (y : ℕ). RoundsTo u m x s y v (direction_sign (toward s raise inexact))) f (coarse_rounds i c x g)

    one_answer : (a : ℕ) → raise ≡ true → a ≡ 2147483648 → Answered u m s part n w (Some (record { exponent = v +ℤ pos 1; precision = 1 })) (direction_sign (toward s raise inexact)) a
    one_answer a r i =
        let f : u (v +ℤ pos 1) ≡ v = S.flat e (v +ℤ pos 1) (subst (λ (y : ℤ). e ≤ℤ y) vv low) (subst (λ (y : ℤ). (v +ℤ pos 1) ≤ℤ (y +ℤ pos 1)) vv (omega (arith, ints))) ∙ sym vv in
        record {
          limbs = power_placed u (v +ℤ pos 1) 1 a (omega arith) (ap (λ (y : ℤ). y +ℤ pos 1) (sym f)) i;
          rounds = λ x g. in_limbs u m x s (bit raise) a 1 v (v +ℤ pos 1) (direction_sign (toward s raise inexact)) refl (i ∙ ap (λ (b : Bool). bit b * 2147483648) (sym r)) (none_kept_rounds x g);
        }

    zero_answer : (a : ℕ) → raise ≡ false → a ≡ 0 → Answered u m s part n w None (direction_sign (toward s raise inexact)) a
    zero_answer a r i = record {
      limbs = i;
      rounds = λ x g. to_zero u m x s a v (direction_sign (toward s raise inexact)) (subst (λ (b : Bool). RoundsTo u m x s (bit b) v (direction_sign (toward s raise inexact))) r (none_kept_rounds x g));
    }

    pub none_kept_right : (x : Option Extent) (a : ℕ) (d : Direction) → d ≡ toward s raise inexact → NoneKept v raise x a → Answered u m s part n w x (direction_sign d) a
    none_kept_right x a d dd h = grind (arith, one_answer a, zero_answer a)

-- ---- what the laws say at one exponent
pub laws_there : (u : ℤ → ℤ) (W len : ℕ) → Lawful u W → (e v x : ℤ) → InRange e → InRange (e +ℤ pos 1) → v ≡ u e → x ≡ u (e +ℤ pos 1) → W ≤ 32 * len
    → (v <ℤ e → x ≤ℤ e) × (e ≤ℤ (v +ℤ pos (32 * len))) × ((e +ℤ pos 1) ≤ℤ (x +ℤ pos (32 * len)))
laws_there u W len L e v x r0 r1 vv xx h = grind (arith, ints, L.narrow e r0, L.narrow (e +ℤ pos 1) r1)

-- ---- the limbs past those that the precision takes are 0
pub unused_limbs : (u : ℤ → ℤ) (m : Mode) (s part : Bool) (n : ℕ) (w : ℤ) (extent : Option Extent) (d : ℤ) (xs : List ℕ) → SmallLimbs xs
    → Answered u m s part n w extent d (limbs_value xs) → (k : ℕ) → limbs_taken extent ≤ k → get_or xs k 0 ≡ 0
unused_limbs u m s part n w None d xs f A k l = limb_past_value xs 0 k f (subst (λ (y : ℕ). y < 1) (sym A.limbs) (omega arith)) l
unused_limbs u m s part n w (Some x) d xs f A k l =
    let P = A.limbs in
    limb_past_value xs (limbs_for x.precision) k f (subst (λ (y : ℕ). y < 2 ^ (32 * limbs_for x.precision)) (sym P.is) (unit_fits P.significand x.precision P.below)) l

-- ---- the answer by its exponent and its precision, where v is the spacing
pub answered_at : (u : ℤ → ℤ) (m : Mode) (s part : Bool) (n : ℕ) (w : ℤ) (extent : Option Extent) (d : ℤ) (a : ℕ) (v : ℤ) → v ≡ spacing_there u n w
    → Answered u m s part n w extent d a → AnsweredAt u m s part n w (is_none extent) (option_map_or (λ x. x.exponent) extent v) (option_map_or (λ x. x.precision) extent 0) d a
answered_at u m s part n w None d a v vv A = record {
  none = λ z. (A.limbs, refl, vv);
  placed = λ z. absurd (false≢true (sym z));
  rounds = λ x g. of_zero u m x s a (v -ℤ pos 0) d A.limbs (A.rounds x g);
}
answered_at u m s part n w (Some x) d a v vv A = record { none = λ z. absurd (false≢true z); placed = λ z. A.limbs; rounds = A.rounds }
