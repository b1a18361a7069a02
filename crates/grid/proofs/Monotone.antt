-- Rounding keeps the order, and whatever lies between two numbers that round alike rounds as they do.
use Rattle.std.proofs.Common.{◌≡◌, ℤ, ◌-ℤ◌, ◌≤ℤ◌, sym, refl, ap, ◌∙◌}
use Rattle.exact.specs.Integers.{sign, lesser}
use Rattle.exact.specs.Dyadic.{Dyadic, at, ◌≤ᴰ◌, ◌≈ᴰ◌}
use Rattle.exact.proofs.Integers.{≤ℤ_antisymm, sign_between, negative_between}
use Rattle.exact.proofs.Scaling.{lesser_low, below_three}
use Rattle.exact.proofs.Order.{at_le, le_at, at_same, same_at, ≤ᴰ_of_≈}
use Rattle.grid.specs.Rounding.{Mode, rounded, Alike, Answer}
use Rattle.grid.proofs.Everywhere.{LawsEverywhere}
use Rattle.grid.proofs.Integers.{round, round_mono}
use Rattle.grid.proofs.Dyadics.{spacing_at, laws_at, at_rounded, at_direction, at_negative}

pub monotone : (u : ℤ → ℤ) → LawsEverywhere u → (m : Mode) (x y : Dyadic) → x ≤ᴰ y → (rounded u m x).value ≤ᴰ (rounded u m y).value
unfolding rounded
monotone u S m x y l =
    let z = lesser x.weight y.weight in
    let (a, b) = lesser_low x.weight y.weight in
    le_at z (rounded u m x).value (rounded u m y).value a b
    (rw (at_rounded u m z x a, at_rounded u m z y b) (round_mono (spacing_at u z) (laws_at u S z) m (at z x) (at z y) (at_le z x y a b l)))

pub between : (u : ℤ → ℤ) (S : LawsEverywhere u) (m : Mode) (a x b : Dyadic) → a ≤ᴰ x → x ≤ᴰ b → Alike (rounded u m a) (rounded u m b) → Alike (rounded u m x) (rounded u m a)
unfolding rounded
between u S m a x b l r k =
    let low = below_three a.weight x.weight b.weight in
    let z = low.0 in
    let A = at z a in
    let X = at z x in
    let B = at z b in
    let V = at z (rounded u m a).value in
    let left : A ≤ℤ X = at_le z a x low.1 low.2 l in
    let right : X ≤ℤ B = at_le z x b low.2 low.3 r in
    let p = round_mono (spacing_at u z) (laws_at u S z) m A X left in
    let q = round_mono (spacing_at u z) (laws_at u S z) m X B right in
    let va : V ≡ round m (spacing_at u z) A = at_rounded u m z a low.1 in
    let vx : at z (rounded u m x).value ≡ round m (spacing_at u z) X = at_rounded u m z x low.2 in
    let vb : at z (rounded u m b).value ≡ round m (spacing_at u z) B = at_rounded u m z b low.3 in
    let ab : V ≡ at z (rounded u m b).value = at_same z (rounded u m a).value (rounded u m b).value low.1 low.3 k.values in
    let same : at z (rounded u m x).value ≡ V = vx ∙ ≤ℤ_antisymm (round m (spacing_at u z) X) (round m (spacing_at u z) A) (rw (sym vb ∙ sym ab ∙ va) at q) p ∙ sym va in
    let da : (rounded u m a).direction ≡ sign (V -ℤ A) = at_direction u m z a low.1 in
    let db : (rounded u m b).direction ≡ sign (V -ℤ B) = at_direction u m z b low.3 ∙ ap (λ (n : ℤ). sign (n -ℤ B)) (sym ab) in
    let dx : (rounded u m x).direction ≡ sign (V -ℤ X) = at_direction u m z x low.2 ∙ ap (λ (n : ℤ). sign (n -ℤ X)) same in
    record {
      values = same_at z (rounded u m x).value (rounded u m a).value low.2 low.1 same;
      signs = at_negative u m z x ∙ negative_between A X B left right (sym (at_negative u m z a) ∙ k.signs ∙ at_negative u m z b) ∙ sym (at_negative u m z a);
      directions = dx ∙ sign_between V A X B left right (sym da ∙ k.directions ∙ db) ∙ sym da;
    }

pub alike_refl : (a : Answer) → Alike a a
alike_refl a = record { values = refl; signs = refl; directions = refl }

-- equal numbers round alike
pub congruent : (u : ℤ → ℤ) → LawsEverywhere u → (m : Mode) (x y : Dyadic) → x ≈ᴰ y → Alike (rounded u m x) (rounded u m y)
congruent u S m x y e = between u S m y x y (≤ᴰ_of_≈ y x (sym e)) (≤ᴰ_of_≈ x y e) (alike_refl (rounded u m y))
