-- The ends of a partial sum lie where the window and the rest say.
use Rattle.std.proofs.Common.{◌≡◌, ℕ, ◌^◌, ◌<◌, ◌≤◌, Bool, true, ℤ, pos, ◌+ℤ◌, ◌-ℤ◌, neg_ℤ, ◌<ℤ◌, Some, sym, refl, ap, ◌∙◌, subst, arith, pow_mono}
use borrow.Author.Differences.{ints}
use Rattle.exact.specs.Integers.{gap, scale}
use Rattle.exact.specs.Dyadic.{Dyadic, dyadic, plus, ◌<ᴰ◌}
use Rattle.batch.specs.Term.{column_weight}
use Rattle.partial_sum.specs.Lying.{Lies}
use Rattle.partial_sum.specs.Limits.{drop_between}
use Rattle.partial_sum.specs.Holding.{window, held}
use Rattle.partial_sum.specs.Ends.{number_held, lower_number, upper_number, LiesAt, PlacedAt, Between}
use Rattle.partial_sum.specs.declared.sum.PartialSum.{PartialSum}
use Rattle.partial_sum.specs.declared.end.WindowEnd.{WindowEnd}
use Rattle.partial_sum.proofs.Placing.{lies_from, lies_between, lies_same, sum_same, sum_above, sum_below}

-- the sum and n units of its own column besides
pub in_column : (p : PartialSum) (e : WindowEnd) (n c units : ℤ) → c ≡ p.column → PlacedAt p e units → units ≡ p.rest +ℤ n → LiesAt p e (plus (number_held p) (dyadic n (column_weight c)))
in_column p e n c units at placed is =
    let order = p.sound.shaped.order in
    let w = column_weight p.column in
    let k = drop_between p.lowest p.column in
    let all : scale (window p) k +ℤ (p.rest +ℤ n) ≡ held p +ℤ n = (let m : (a b c : ℤ) → a +ℤ (b +ℤ c) ≡ (a +ℤ b) +ℤ c = λ a b c. omega (arith, ints) in m (scale (window p) k) p.rest n) in
    lies_same e.partial (window p +ℤ e.offset) (column_weight p.lowest) (plus (number_held p) (dyadic n (column_weight c))) (dyadic (held p +ℤ n) w)
    (sum_same (held p) n w (column_weight c) (omega (arith, ints)) (ap column_weight (sym at)))
    (subst (λ (z : ℤ). Lies e.partial (window p +ℤ e.offset) (column_weight p.lowest) (dyadic z w)) all
    (lies_from e.partial (window p) (p.rest +ℤ n) e.offset w (column_weight p.lowest) (omega (arith, ints)) (subst (PlacedAt p e) is placed)))

-- strictly between a and a + 1 units of its column, where a is the window and so many units besides
in_gap : (p : PartialSum) (e : WindowEnd) (x : Dyadic) (units a b : ℤ) → e.partial ≡ true → Between p units e.offset → a ≡ scale (window p) (drop_between p.lowest p.column) +ℤ units → b ≡ a +ℤ pos 1
    → dyadic a (column_weight p.column) <ᴰ x → x <ᴰ dyadic b (column_weight p.column) → LiesAt p e x
in_gap p e x units a b between (partial, placed) is next above below =
    let order = p.sound.shaped.order in
    let w = column_weight p.column in
    subst (λ (t : Bool). Lies t (window p +ℤ e.offset) (column_weight p.lowest) x) (sym between)
    (lies_between partial (window p) units e.offset w (column_weight p.lowest) x (omega (arith, ints)) placed
    (subst (λ (z : ℤ). dyadic z w <ᴰ x) is above) (subst (λ (z : ℤ). x <ᴰ dyadic z w) (next ∙ ap (λ (z : ℤ). z +ℤ pos 1) is) below))

-- before a gap: fewer than 2 ^ 32 units of a column further down are less than one unit of the sum's column
less_than_unit : (c d : ℤ) (n : ℕ) → n ≤ 1024 → (d +ℤ pos 1) <ℤ c → n < 2 ^ gap (column_weight c) (column_weight (d +ℤ pos 1))
less_than_unit c d n few far =
    let k : 32 ≤ gap (column_weight c) (column_weight (d +ℤ pos 1)) = omega (arith, ints) in
    omega (arith, pow_mono k)

module _ (p : PartialSum) (n : ℕ) (d : ℤ) (far : (d +ℤ pos 1) <ℤ p.column) (some : 0 < n) (few : n ≤ 1024) where
  pub gap_upper : (e : WindowEnd) (units : ℤ) → e.partial ≡ true → Between p units e.offset → units ≡ p.rest → LiesAt p e (upper_number p n (Some d))
  gap_upper e units between placed is =
      let little = less_than_unit p.column d n few far in
      let both = sum_above (held p) (pos n) (column_weight p.column) (column_weight (d +ℤ pos 1)) (omega (arith, ints)) (omega (arith, ints)) (omega (arith, ints)) in
      in_gap p e (upper_number p n (Some d)) units (held p) (held p +ℤ pos 1) between placed (ap (λ (z : ℤ). scale (window p) (drop_between p.lowest p.column) +ℤ z) (sym is)) refl both.0 both.1

  pub gap_lower : (e : WindowEnd) (units : ℤ) → e.partial ≡ true → Between p units e.offset → units ≡ p.rest -ℤ pos 1 → LiesAt p e (lower_number p n (Some d))
  gap_lower e units between placed is =
      let little = less_than_unit p.column d n few far in
      let both = sum_below (held p) (neg_ℤ (pos n)) (column_weight p.column) (column_weight (d +ℤ pos 1)) (omega (arith, ints)) (omega (arith, ints)) (omega (arith, ints)) in
      let one_less : (a b c : ℤ) → c ≡ b -ℤ pos 1 → (a +ℤ b) -ℤ pos 1 ≡ a +ℤ c = λ a b c i. omega (arith, ints) in
      let back : (a : ℤ) → a ≡ (a -ℤ pos 1) +ℤ pos 1 = λ a. omega (arith, ints) in
      in_gap p e (lower_number p n (Some d)) units (held p -ℤ pos 1) (held p) between placed (one_less _ _ _ is) (back (held p)) both.0 both.1
