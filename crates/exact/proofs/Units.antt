-- The same number, counted in other units.
use Rattle.std.proofs.Common.{◌≡◌, ℕ, ◌*◌, ◌^◌, Bool, ℤ, pos, ◌+ℤ◌, sym, ap, ◌∙◌, arith}
use borrow.Author.Differences.{ints}
use Rattle.exact.specs.Integers.{signed}
use Rattle.exact.specs.Dyadic.{dyadic, at, ◌≈ᴰ◌}
use Rattle.exact.proofs.Order.{same_at}

pub at_signed : (s : Bool) (M j : ℕ) (v z : ℤ) → v ≡ z +ℤ pos j → at z (dyadic (signed s M) v) ≡ signed s (M * 2 ^ j)
at_signed s M j v z e = grind (arith, ints)

pub other_units : (s : Bool) (M a : ℕ) (v y z : ℤ) (j k : ℕ) → v ≡ z +ℤ pos j → y ≡ z +ℤ pos k → M * 2 ^ j ≡ a * 2 ^ k → dyadic (signed s M) v ≈ᴰ dyadic (signed s a) y
other_units s M a v y z j k ev ey e =
    same_at z (dyadic (signed s M) v) (dyadic (signed s a) y) (omega (arith, ints)) (omega (arith, ints)) (at_signed s M j v z ev ∙ ap (signed s) e ∙ sym (at_signed s a k y z ey))
