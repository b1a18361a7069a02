-- Where a number of units of one column lies among those of a column above.
use Rattle.std.proofs.Common.{◌≡◌, ℕ, ◌^◌, Bool, true, false, ℤ, pos, negsuc, ◌+ℤ◌, ◌-ℤ◌, neg_ℤ, ◌≤ℤ◌, ◌<ℤ◌, sym, refl, ap, ◌∙◌, subst, arith, pow_pos}
use borrow.Author.Differences.{ints}
use Rattle.exact.specs.Integers.{gap, scale}
use Rattle.exact.specs.Dyadic.{Dyadic, dyadic, at, ◌≤ᴰ◌, ◌<ᴰ◌, ◌≈ᴰ◌, plus}
use Rattle.exact.proofs.Scaling.{scale_none, scale_plus, scale_minus, below_three}
use Rattle.exact.proofs.Order.{at_lt, lt_at, at_le, same_at, <ᴰ_≤ᴰ_trans, ≤ᴰ_of_≈, ≈ᴰ_trans}
use Rattle.exact.proofs.Sums.{at_plus}
use Rattle.partial_sum.specs.Lying.{Placed, Lies}

-- ---- less than one unit, on either side of 0
pub unit_above : (k : ℕ) (n : ℤ) → pos 0 <ℤ n → n <ℤ pos (2 ^ k) → Placed true k n (pos 0)
unit_above k n low high = omega (arith, ints)

pub unit_below : (k : ℕ) (n : ℤ) → n <ℤ pos 0 → neg_ℤ (pos (2 ^ k)) <ℤ n → Placed true k n (negsuc 0)
unit_below k n high low = omega (arith, ints)

-- ---- units at two weights
pub ≤ᴰ_<ᴰ_trans : (x y w : Dyadic) → x ≤ᴰ y → y <ᴰ w → x <ᴰ w
≤ᴰ_<ᴰ_trans x y w h g =
    let (z, a, b, c) = below_three x.weight y.weight w.weight in
    let p = at_le z x y a b h in
    let q = at_lt z y w b c g in
    lt_at z x w a c (omega (arith, ints))

-- v units of a weight above, compared with m units of w
module _ (v m w h : ℤ) (le : w ≤ℤ h) where
  above_lt : scale v (gap h w) <ℤ m → dyadic v h <ᴰ dyadic m w
  above_lt l = grind (arith, ints)

  lt_above : m <ℤ scale v (gap h w) → dyadic m w <ᴰ dyadic v h
  lt_above l = grind (arith, ints)

  above_le : scale v (gap h w) ≤ℤ m → dyadic v h ≤ᴰ dyadic m w
  above_le l = grind (arith, ints)

  le_above : m ≤ℤ scale v (gap h w) → dyadic m w ≤ᴰ dyadic v h
  le_above l = grind (arith, ints)

  same_above : m ≡ scale v (gap h w) → dyadic m w ≈ᴰ dyadic v h
  same_above e = grind (arith, ints)

-- a window of W units of the weight h, and n units of the weight w besides
pub lies_from : (partial : Bool) (W n v w h : ℤ) → w ≤ℤ h → Placed partial (gap h w) n v → Lies partial (W +ℤ v) h (dyadic (scale W (gap h w) +ℤ n) w)
lies_from false W n v w h le e = same_above (W +ℤ v) (scale W (gap h w) +ℤ n) w h le (ap (λ (z : ℤ). scale W (gap h w) +ℤ z) e ∙ sym (scale_plus W v (gap h w)))
lies_from true W n v w h le (low, high) =
    let k = gap h w in
    let a = scale_plus W v k in
    let b = scale_plus W (v +ℤ pos 1) k in
    let same : (W +ℤ v) +ℤ pos 1 ≡ W +ℤ (v +ℤ pos 1) = omega (arith, ints) in (
      above_lt (W +ℤ v) (scale W k +ℤ n) w h le (omega (arith, ints)),
      subst (λ (z : ℤ). dyadic (scale W k +ℤ n) w <ᴰ dyadic z h) (sym same) (lt_above (W +ℤ (v +ℤ pos 1)) (scale W k +ℤ n) w h le (omega (arith, ints))),
    )

-- what lies strictly between n and n + 1 units of w besides lies where n does, strictly between two units of h
pub lies_between : (partial : Bool) (W n v w h : ℤ) (x : Dyadic) → w ≤ℤ h → Placed partial (gap h w) n v
    → dyadic (scale W (gap h w) +ℤ n) w <ᴰ x → x <ᴰ dyadic ((scale W (gap h w) +ℤ n) +ℤ pos 1) w → Lies true (W +ℤ v) h x
lies_between partial W n v w h x le placed above below =
    let k = gap h w in
    let a = scale_plus W v k in
    let b = scale_plus W (v +ℤ pos 1) k in
    let both = within partial placed in
    let low = both.0 in
    let high = both.1 in
    let same : (W +ℤ v) +ℤ pos 1 ≡ W +ℤ (v +ℤ pos 1) = omega (arith, ints) in (
      ≤ᴰ_<ᴰ_trans (dyadic (W +ℤ v) h) (dyadic (scale W k +ℤ n) w) x (above_le (W +ℤ v) (scale W k +ℤ n) w h le (omega (arith, ints))) above,
      subst (λ (z : ℤ). x <ᴰ dyadic z h) (sym same) (<ᴰ_≤ᴰ_trans x (dyadic ((scale W k +ℤ n) +ℤ pos 1) w) (dyadic (W +ℤ (v +ℤ pos 1)) h) below (le_above (W +ℤ (v +ℤ pos 1)) ((scale W k +ℤ n) +ℤ pos 1) w h le (omega (arith, ints)))),
    )
  where
    -- the multiples around n and n + 1
    within : (partial : Bool) → Placed partial (gap h w) n v → (scale v (gap h w) ≤ℤ n) × ((n +ℤ pos 1) ≤ℤ scale (v +ℤ pos 1) (gap h w))
    within true (l, g) = (omega (arith, ints), omega (arith, ints))
    within false e =
        let s = scale_plus v (pos 1) (gap h w) in
        let one : scale (pos 1) (gap h w) ≡ pos (2 ^ gap h w) = omega (arith, ints) in
        let p = pow_pos (gap h w) in
        (omega (arith, ints), omega (arith, ints))

-- the same number written in another way
pub lies_same : (partial : Bool) (v w : ℤ) (x y : Dyadic) → x ≈ᴰ y → Lies partial v w y → Lies partial v w x
lies_same false v w x y e l = ≈ᴰ_trans x y (dyadic v w) e l
lies_same true v w x y e (l, g) = (<ᴰ_≤ᴰ_trans (dyadic v w) y x l (≤ᴰ_of_≈ y x (sym e)), ≤ᴰ_<ᴰ_trans x y (dyadic (v +ℤ pos 1) w) (≤ᴰ_of_≈ x y e) g)

-- ---- a number and a little besides
-- p units of w and n units of a weight v, on either side
module _ (p n w v : ℤ) (low : v ≤ℤ w) where
  at_both : at v (plus (dyadic p w) (dyadic n v)) ≡ scale p (gap w v) +ℤ n
  at_both = at_plus v (dyadic p w) (dyadic n v) low (omega (arith, ints)) ∙ ap (λ (z : ℤ). scale p (gap w v) +ℤ z) (let e : scale n (gap v v) ≡ n = grind (arith, ints) in e)

  -- where the weights are the same
  pub sum_same : w ≡ v → plus (dyadic p w) (dyadic n v) ≈ᴰ dyadic (p +ℤ n) w
  sum_same e = same_at v (plus (dyadic p w) (dyadic n v)) (dyadic (p +ℤ n) w) (omega (arith, ints)) low
      (at_both ∙ (let z : gap w v ≡ 0 = omega (arith, ints) in rw z (omega (arith, ints, scale_none p, scale_none (p +ℤ n)))))

  -- where the little is more than 0 and less than one unit of w
  pub sum_above : pos 0 <ℤ n → n <ℤ pos (2 ^ gap w v) → (dyadic p w <ᴰ plus (dyadic p w) (dyadic n v)) × (plus (dyadic p w) (dyadic n v) <ᴰ dyadic (p +ℤ pos 1) w)
  sum_above some little =
      let x = plus (dyadic p w) (dyadic n v) in
      let e = at_both in
      let s = scale_plus p (pos 1) (gap w v) in
      let one : scale (pos 1) (gap w v) ≡ pos (2 ^ gap w v) = omega (arith, ints) in (
        lt_at v (dyadic p w) x low (omega (arith, ints)) (omega (arith, ints)),
        lt_at v x (dyadic (p +ℤ pos 1) w) (omega (arith, ints)) low (omega (arith, ints)),
      )

  pub sum_below : n <ℤ pos 0 → neg_ℤ (pos (2 ^ gap w v)) <ℤ n → (dyadic (p -ℤ pos 1) w <ᴰ plus (dyadic p w) (dyadic n v)) × (plus (dyadic p w) (dyadic n v) <ᴰ dyadic p w)
  sum_below some little =
      let x = plus (dyadic p w) (dyadic n v) in
      let e = at_both in
      let s = scale_minus p (pos 1) (gap w v) in
      let one : scale (pos 1) (gap w v) ≡ pos (2 ^ gap w v) = omega (arith, ints) in (
        lt_at v (dyadic (p -ℤ pos 1) w) x low (omega (arith, ints)) (omega (arith, ints)),
        lt_at v x (dyadic p w) (omega (arith, ints)) low (omega (arith, ints)),
      )

  -- on which side of p it lies
  pub sum_more : pos 0 <ℤ n → dyadic p w <ᴰ plus (dyadic p w) (dyadic n v)
  sum_more some = let e = at_both in lt_at v (dyadic p w) (plus (dyadic p w) (dyadic n v)) low (omega (arith, ints)) (omega (arith, ints))

  pub sum_less : n <ℤ pos 0 → plus (dyadic p w) (dyadic n v) <ᴰ dyadic p w
  sum_less some = let e = at_both in lt_at v (plus (dyadic p w) (dyadic n v)) (dyadic p w) (omega (arith, ints)) low (omega (arith, ints))

-- ---- multiples of one unit
pub unit_lt : (a b w : ℤ) → dyadic a w <ᴰ dyadic b w → a <ℤ b
unit_lt a b w l = grind (arith, ints)

pub unit_le : (a b w : ℤ) → a ≤ℤ b → dyadic a w ≤ᴰ dyadic b w
unit_le a b w l = grind (arith, ints)

pub <ᴰ_trans : (x y z : Dyadic) → x <ᴰ y → y <ᴰ z → x <ᴰ z
<ᴰ_trans x y z l g = ≤ᴰ_<ᴰ_trans x y z (<ᴰ_weaker x y l) g
  where
    <ᴰ_weaker : (x y : Dyadic) → x <ᴰ y → x ≤ᴰ y
    <ᴰ_weaker x y l = omega (arith, ints)

-- a number lies in one place only
pub lies_once : (b : Bool) (v a w : ℤ) (x : Dyadic) → Lies b v w x → Lies true a w x → (b ≡ true) × (v ≡ a)
lies_once true v a w x (l, g) (h, i) =
    let p : v <ℤ (a +ℤ pos 1) = unit_lt v (a +ℤ pos 1) w (<ᴰ_trans (dyadic v w) x (dyadic (a +ℤ pos 1) w) l i) in
    let q : a <ℤ (v +ℤ pos 1) = unit_lt a (v +ℤ pos 1) w (<ᴰ_trans (dyadic a w) x (dyadic (v +ℤ pos 1) w) h g) in
    (refl, omega (arith, ints))
lies_once false v a w x e (h, i) =
    let p : a <ℤ v = unit_lt a v w (<ᴰ_≤ᴰ_trans (dyadic a w) x (dyadic v w) h (≤ᴰ_of_≈ x (dyadic v w) e)) in
    let q : v <ℤ (a +ℤ pos 1) = unit_lt v (a +ℤ pos 1) w (≤ᴰ_<ᴰ_trans (dyadic v w) x (dyadic (a +ℤ pos 1) w) (≤ᴰ_of_≈ (dyadic v w) x (sym e)) i) in
    absurd (omega (arith, ints))
