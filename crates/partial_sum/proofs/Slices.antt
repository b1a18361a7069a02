-- The window with its lowest total changed, as it is settled.
use Rattle.std.proofs.Common.{◌≡◌, ℕ, suc, ◌+◌, ◌-◌, ◌*◌, ◌^◌, ◌<◌, ◌≤◌, List, [], ◌++◌, length, take, drop, set, ℤ, ◌+ℤ◌, nat_abs, ap, ◌∙◌, arith}
use Rattle.std.proofs.lemmas.Grind.{common_steps}
use borrow.Author.Differences.{ints}
use Rattle.std.proofs.lemmas.List.{set_split, take_at, drop_all}
use Rattle.exact.specs.Limbs.{limbs_value}
use Rattle.exact.proofs.LimbSteps.{value_push}
use Rattle.totals.specs.Totals.{totals_value, SmallTotals}
use Rattle.partial_sum.specs.Holding.{slot, window}
use Rattle.partial_sum.specs.declared.sum.PartialSum.{PartialSum}
use Rattle.partial_sum.proofs.Windows.{value_changed}

-- the slice of the totals from a slot on
pub from_slot : (p : PartialSum) (v : ℤ) → take (130 - p.from) (drop p.from (set p.totals p.from v)) ≡ drop p.from (set p.totals p.from v)
from_slot p v = grind (arith, ints, common_steps)

pub slice_length : (p : PartialSum) (v : ℤ) → length (take (130 - p.from) (drop p.from (set p.totals p.from v))) ≡ 130 - p.from
slice_length p v = grind (arith, ints, common_steps)

pub slice_value : (p : PartialSum) (a v : ℤ) → v ≡ slot p p.from +ℤ a → totals_value (take (130 - p.from) (drop p.from (set p.totals p.from v))) ≡ window p +ℤ a
slice_value p a v e = ap totals_value (from_slot p v) ∙ value_changed p.totals p.from a v (omega (arith, p.whole, p.used)) e

pub slot_small : (p : PartialSum) → (k : ℕ) → k < 130 → nat_abs (slot p k) ≤ 2 ^ 52 + 2 ^ 42
slot_small p k l = grind (arith, ints)

pub slice_small : (p : PartialSum) (a v : ℤ) → nat_abs a ≤ 2 ^ 45 → v ≡ slot p p.from +ℤ a → SmallTotals (take (130 - p.from) (drop p.from (set p.totals p.from v)))
slice_small p a v few e k l = grind (arith, ints, common_steps, slot_small p (p.from + k), from_slot p v, slice_length p v, p.used, p.whole)

-- ---- the limb above
pub top_written : (xs ys : List ℕ) (n t : ℕ) → length xs ≡ n → length ys ≡ 1 → limbs_value (set (xs ++ ys) n t) ≡ t * 2 ^ (32 * n) + limbs_value xs
top_written xs ys n t low one = grind (arith, common_steps, set_split (xs ++ ys) n t, take_at xs ys n low, drop_all (suc n) (xs ++ ys), value_push xs t)
