-- The numbers of a grid: whole multiples of the spacing are those with no digit below it.
use Rattle.std.proofs.Common.{◌≡◌, ℕ, ◌/◌, ◌%◌, ◌^◌, ℤ, nat_abs, sym, ap, ◌∙◌, inl, inr, add_comm, arith}
use native.Mathlib.Nat.{mod-one, mul-mod_left, zero-mod}
use borrow.Author.Differences.{ints}
use Rattle.std.proofs.lemmas.Int.{by_lt_z}
use Rattle.exact.specs.Integers.{is_negative, signed, gap, scale, lesser}
use Rattle.exact.specs.Dyadic.{Dyadic, exponent, ◌≈ᴰ◌}
use Rattle.exact.proofs.Integers.{signed_abs}
use Rattle.exact.proofs.Scaling.{scale_scale, scale_signed, scale_none, scale_abs, gap_none, lesser_low}
use Rattle.exact.proofs.Multiples.{multiple_whole}
use Rattle.exact.proofs.Order.{at_same}
use Rattle.grid.specs.Rounding.{dropped, OnGrid}
use Rattle.grid.proofs.Dyadics.{Divided, on_at, at_on}

pub divided_on_grid : (u : ℤ → ℤ) (x : Dyadic) → Divided u x → OnGrid u x
divided_on_grid u x d =
    let n = x.count in
    let k = dropped u x in
    let j = gap x.weight (u (exponent x)) in
    let c = signed (is_negative n) (nat_abs n / 2 ^ k) in
    let e : scale c k ≡ n = scale_signed (is_negative n) (nat_abs n / 2 ^ k) k ∙ ap (signed (is_negative n)) (sym (multiple_whole (nat_abs n) (2 ^ k) d)) ∙ signed_abs n in
    inr (scale c j, ap (λ (y : ℤ). scale y j) (sym e) ∙ scale_scale c k j ∙ ap (scale c) (add_comm k j) ∙ sym (scale_scale c j k))

pub on_grid_divided : (u : ℤ → ℤ) (x : Dyadic) → OnGrid u x → Divided u x
on_grid_divided u x (inl z) = ap (λ (y : ℤ). nat_abs y % 2 ^ dropped u x) z ∙ zero-mod (2 ^ dropped u x)
on_grid_divided u x (inr (q, e)) =
    let n = x.count in
    let w = x.weight in
    let v = u (exponent x) in
    by_lt_z v w
    (λ l. rw (gap_none v w (omega (arith, ints))) (mod-one (nat_abs n)))
    (λ l.
    let s : n ≡ scale q (gap v w) = sym (scale_none n) ∙ ap (scale n) (sym (gap_none w v l)) ∙ e in
    ap (λ (y : ℤ). nat_abs y % 2 ^ gap v w) s ∙ ap (λ (y : ℕ). y % 2 ^ gap v w) (scale_abs q (gap v w)) ∙ mul-mod_left (nat_abs q) (2 ^ gap v w))

-- equal numbers are on the grid alike
pub on_grid_≈ : (u : ℤ → ℤ) (x y : Dyadic) → x ≈ᴰ y → OnGrid u x → OnGrid u y
on_grid_≈ u x y e o =
    let z = lesser x.weight y.weight in
    let (h, g) = lesser_low x.weight y.weight in
    let at-z = on_at u z x h (on_grid_divided u x o) in
    divided_on_grid u y (at_on u z y g (rw (at_same z x y h g e) at at-z))
