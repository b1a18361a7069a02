-- The ends at a lower weight lie within those at a higher one, where nothing lies between.
use Rattle.std.proofs.Common.{◌≡◌, ◌+◌, ◌-◌, ◌*◌, ◌%◌, ◌^◌, ◌≤◌, cond, List, [], ◌∷◌, ℤ, pos, ◌+ℤ◌, neg_ℤ, ◌≤ℤ◌, ap, ◌∙◌, arith}
use lib.Signed.{lt_z}
use borrow.Author.Differences.{ints}
use Rattle.std.specs.List.{AllByRecursion}
use Rattle.exact.specs.Integers.{gap, scale}
use Rattle.exact.specs.Dyadic.{◌≤ᴰ◌}
use Rattle.exact.proofs.Multiples.{room}
use Rattle.exact.proofs.Scaling.{scale_plus, scale_neg, scale_scale, scale_mono}
use Rattle.exact.proofs.Order.{le_at}
use Rattle.column.specs.Parts.{Part, units, signed_sum}
use Rattle.column.specs.Ends.{reaching_below}
use Rattle.column.proofs.Units.{Clear}
use Rattle.column.proofs.Cuts.{lower_at, upper_at, upper_clear, rest_within, at_lower, at_upper}

one_more : (q w v : ℤ) → v ≤ℤ w → cond (lt_z q v) 1 0 ≤ cond (lt_z q w) 1 0
one_more q w v h = grind (arith, ints)

pub reaching_below_mono : (ps : List Part) (w v : ℤ) → v ≤ℤ w → reaching_below ps v ≤ reaching_below ps w
reaching_below_mono [] w v h = omega arith
reaching_below_mono (p ∷ ps) w v h = let a = one_more p.weight w v h in let b = reaching_below_mono ps w v h in omega arith

module _ (ps : List Part) (w v x y : ℤ) (a : v ≤ℤ w) (b : x ≤ℤ v) (c : y ≤ℤ x) (k : AllByRecursion (Clear w v) ps) where
  U : ℤ
  U = signed_sum (λ p. units p w) ps

  R : ℤ
  R = signed_sum (λ p. units p x % 2 ^ gap v x) ps

  at_next : scale (signed_sum (λ p. units p x) ps) (gap x y) ≡ scale U (gap w y) +ℤ scale R (gap x y)
  unfolding U R
  at_next =
      let e : gap w x + gap x y ≡ gap w y = omega (arith, ints) in
      ap (λ (n : ℤ). scale n (gap x y)) (upper_clear ps w v x b a k) ∙ scale_plus (scale U (gap w x)) R (gap x y)
      ∙ ap (λ (n : ℤ). n +ℤ scale R (gap x y)) (scale_scale U (gap w x) (gap x y) ∙ ap (scale U) e)

  sizes : reaching_below ps w * (2 ^ gap v x - 1) * 2 ^ gap x y + reaching_below ps x * 2 ^ gap y y ≤ reaching_below ps w * 2 ^ gap v y
  sizes =
      let e : gap v y ≡ gap v x + gap x y = omega (arith, ints) in
      rw e (room (reaching_below ps w) (reaching_below ps x) (gap v x) (gap x y) (gap y y) (reaching_below_mono ps w x (omega (arith, ints))) (omega (arith, ints)))

  pub lower_nested : lower_at ps w v ≤ᴰ lower_at ps x y
  unfolding U R
  lower_nested =
      let Y : y ≤ℤ y = omega (arith, ints) in
      let V : y ≤ℤ v = omega (arith, ints) in
      let s = sizes in
      let n = reaching_below ps w * (2 ^ gap v x - 1) in
      let r = scale_mono (neg_ℤ (pos n)) R (gap x y) (rest_within ps w v x b a).0 in
      let f = scale_neg (pos n) (gap x y) in
      le_at y (lower_at ps w v) (lower_at ps x y) (omega (arith, ints)) (omega (arith, ints))
      (rw (at_lower ps w v y V a, at_lower ps x y y Y c, at_next) (omega (arith, ints)))

  pub upper_nested : upper_at ps x y ≤ᴰ upper_at ps w v
  unfolding U R
  upper_nested =
      let Y : y ≤ℤ y = omega (arith, ints) in
      let V : y ≤ℤ v = omega (arith, ints) in
      let s = sizes in
      let n = reaching_below ps w * (2 ^ gap v x - 1) in
      let r = scale_mono R (pos n) (gap x y) (rest_within ps w v x b a).1 in
      le_at y (upper_at ps x y) (upper_at ps w v) (omega (arith, ints)) (omega (arith, ints))
      (rw (at_upper ps w v y V a, at_upper ps x y y Y c, at_next) (omega (arith, ints)))
