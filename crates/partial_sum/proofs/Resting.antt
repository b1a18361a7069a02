-- Where the ends of a full window differ, the rest below it is small.
use Rattle.std.proofs.Common.{◌≡◌, ℕ, ◌+◌, ◌^◌, ◌<◌, ◌≤◌, Bool, true, ℤ, pos, negsuc, ◌+ℤ◌, ◌-ℤ◌, neg_ℤ, nat_abs, ◌≤ℤ◌, ◌<ℤ◌, Some, refl, ⊎_elim, arith, pow_mono}
use borrow.Author.Differences.{ints}
use Rattle.std.proofs.lemmas.Int.{by_lt_z}
use Rattle.std.proofs.lemmas.Bool.{cases_lt}
use Rattle.exact.specs.Dyadic.{Dyadic}
use Rattle.batch.specs.Term.{column_weight}
use Rattle.partial_sum.specs.Lying.{Placed}
use Rattle.partial_sum.specs.Limits.{drop_between}
use Rattle.partial_sum.specs.Holding.{window}
use Rattle.partial_sum.specs.Ends.{lower_number, upper_number, LiesAt, Reached}
use Rattle.partial_sum.specs.declared.sum.PartialSum.{PartialSum}
use Rattle.partial_sum.specs.declared.end.WindowEnd.{WindowEnd}
use Rattle.partial_sum.proofs.Placing.{unit_above, unit_below, lies_once}
use Rattle.partial_sum.proofs.Ending.{in_column, gap_lower, gap_upper}

-- just above 0, or there
at_or_above : (k : ℕ) (n : ℤ) → pos 0 ≤ℤ n → n <ℤ pos (2 ^ k) → (b : Bool) × Placed b k n (pos 0)
at_or_above k n low high = grind (arith, ints)

abbrev end_at : ℤ → WindowEnd
end_at v = record { offset = v; partial = true }

same_unit : (p : PartialSum) (e f : WindowEnd) (v : ℤ) (x y : Dyadic) → LiesAt p e x → LiesAt p f y → LiesAt p (end_at v) x → LiesAt p (end_at v) y → e ≡ f
same_unit p e f v x y le lf lx ly =
    let a = lies_once e.partial (window p +ℤ e.offset) (window p +ℤ v) (column_weight p.lowest) x le lx in
    let b = lies_once f.partial (window p +ℤ f.offset) (window p +ℤ v) (column_weight p.lowest) y lf ly in
    grind (arith, ints)

-- the rest and what can still come are less than a unit of the window's lowest column
less_than_window : (p : PartialSum) (n : ℕ) → p.column <ℤ p.lowest → n ≤ 1024 → nat_abs p.rest + n + 1 < 2 ^ drop_between p.lowest p.column
less_than_window p n closed few =
    let k = drop_between p.lowest p.column in
    by_lt_z (p.column +ℤ pos 1) p.lowest
    (λ far. (let deep : 64 ≤ k = omega (arith, ints) in let big : 2 ^ 64 ≤ 2 ^ k = pow_mono deep in let small = p.sound.shaped.rest_small in omega arith))
    (λ near. (let next : p.column +ℤ pos 1 ≡ p.lowest = omega (arith, ints) in let deep : 32 ≤ k = omega (arith, ints) in let big : 2 ^ 32 ≤ 2 ^ k = pow_mono deep in let small = p.sound.near_rest next in omega arith))

module _ (p : PartialSum) (n : ℕ) (d : ℤ) (closed : p.column <ℤ p.lowest) (reached : Reached p n (Some d)) (e f : WindowEnd)
    (lower : LiesAt p e (lower_number p n (Some d))) (upper : LiesAt p f (upper_number p n (Some d))) (differ : ¬ (e ≡ f)) where
  pub rest_none : (d +ℤ pos 1) <ℤ p.column → p.rest ≡ pos 0
  rest_none far =
      let some = reached.1 in
      let few = reached.2 in
      let room : nat_abs p.rest + n + 1 < 2 ^ drop_between p.lowest p.column = less_than_window p n closed few in
      let x = lower_number p n (Some d) in
      let y = upper_number p n (Some d) in
      let a = p.rest -ℤ pos 1 in
      by_lt_z p.rest (pos 0)
      (λ minus. absurd (differ (same_unit p e f (negsuc 0) x y lower upper
      (gap_lower p n d far some few (end_at (negsuc 0)) a refl (true, unit_below (drop_between p.lowest p.column) a (omega (arith, ints)) (omega (arith, ints))) refl)
      (gap_upper p n d far some few (end_at (negsuc 0)) p.rest refl (true, unit_below (drop_between p.lowest p.column) p.rest (omega (arith, ints)) (omega (arith, ints))) refl))))
      (λ other. by_lt_z (pos 0) p.rest
      (λ plus. absurd (differ (same_unit p e f (pos 0) x y lower upper
      (gap_lower p n d far some few (end_at (pos 0)) a refl (at_or_above (drop_between p.lowest p.column) a (omega (arith, ints)) (omega (arith, ints))) refl)
      (gap_upper p n d far some few (end_at (pos 0)) p.rest refl (true, unit_above (drop_between p.lowest p.column) p.rest (omega (arith, ints)) (omega (arith, ints))) refl))))
      (λ none. omega (arith, ints)))

  pub rest_few : nat_abs p.rest ≤ 1024
  rest_few =
      let below = reached.0 in
      let some = reached.1 in
      let few = reached.2 in
      let room : nat_abs p.rest + n + 1 < 2 ^ drop_between p.lowest p.column = less_than_window p n closed few in
      let x = lower_number p n (Some d) in
      let y = upper_number p n (Some d) in
      let a = p.rest -ℤ pos n in
      let b = p.rest +ℤ pos n in
      ⊎_elim
      (λ (large : n < nat_abs p.rest).
      by_lt_z (d +ℤ pos 1) p.column
      (λ far. (let z = rest_none far in omega (arith, ints)))
      (λ near.
      (let next : d +ℤ pos 1 ≡ p.column = omega (arith, ints) in
      by_lt_z p.rest (pos 0)
      (λ minus. absurd (differ (same_unit p e f (negsuc 0) x y lower upper
      (in_column p (end_at (negsuc 0)) (neg_ℤ (pos n)) (d +ℤ pos 1) a next (unit_below (drop_between p.lowest p.column) a (omega (arith, ints)) (omega (arith, ints))) refl)
      (in_column p (end_at (negsuc 0)) (pos n) (d +ℤ pos 1) b next (unit_below (drop_between p.lowest p.column) b (omega (arith, ints)) (omega (arith, ints))) refl))))
      (λ plus. absurd (differ (same_unit p e f (pos 0) x y lower upper
      (in_column p (end_at (pos 0)) (neg_ℤ (pos n)) (d +ℤ pos 1) a next (unit_above (drop_between p.lowest p.column) a (omega (arith, ints)) (omega (arith, ints))) refl)
      (in_column p (end_at (pos 0)) (pos n) (d +ℤ pos 1) b next (unit_above (drop_between p.lowest p.column) b (omega (arith, ints)) (omega (arith, ints))) refl)))))))
      (λ (small : nat_abs p.rest ≤ n). omega arith)
      (cases_lt n (nat_abs p.rest))
