-- The ends and the exact sum of a batch's terms have exponents in the range that the grids' laws speak of.
use Rattle.std.proofs.Common.{◌≡◌, ℕ, suc, ◌+◌, ◌-◌, ◌*◌, ◌^◌, ◌≤◌, true, List, [], ◌∷◌, ◌++◌, map, length, ℤ, pos, ◌+ℤ◌, neg_ℤ, nat_abs, ◌≤ℤ◌, ◌<ℤ◌, sym, refl, ◌∙◌, subst, inl, inr, mul-le-mul_right, mul-le-mul_left, arith}
use lib.Signed.{lt_z}
use borrow.Author.Differences.{ints}
use Rattle.std.specs.List.{AllByRecursion}
use Rattle.std.proofs.ByRecursion.{All-weaker}
use Rattle.exact.specs.Integers.{gap}
use Rattle.exact.specs.Dyadic.{Dyadic, dyadic, plus, total, exponent}
use Rattle.exact.proofs.Multiples.{room}
use Rattle.exact.proofs.Scaling.{scale_mono, scale_neg, scale_abs}
use Rattle.exact.proofs.Sums.{at_plus, BelowAll, total_above}
use Rattle.exact.proofs.Exponents.{at_own, exponent_upto}
use Rattle.grid.specs.Spacing.{InRange, lowest}
use Rattle.batch.specs.Term.{Term, Limited, Batchable, column_weight}
use Rattle.sheet.specs.declared.mark.Mark.{Mark}
use Rattle.column.specs.Parts.{Part, Regular, low, top, number, exact_sum, units}
use Rattle.column.specs.PartsOf.{counted_part, parts_from, parts_of}
use Rattle.column.specs.Columns.{Occupied, Listed}
use Rattle.column.specs.Ends.{cut_sum, reaching_below, lower_end, upper_end}
use Rattle.column.specs.Claims.{DownFrom, AlwaysInRange, AllInRange}
use Rattle.column.proofs.Units.{units_small}
use Rattle.column.proofs.SignedSums.{sum_within, tally_le}
use Rattle.column.proofs.Cuts.{at_exact}
use Rattle.column.proofs.Listing.{columns_occupied}
use Rattle.column.proofs.Chain.{reach, chain}
use Rattle.column.proofs.Laws.{lower_is, upper_is}
use Rattle.column.proofs.Counting.{parts_regular}

-- ---- how large a sum of few parts can be
cut_within : (ps : List Part) (t w : ℤ) → w ≤ℤ t → AllByRecursion (λ p. top p ≤ℤ t) ps
    → (neg_ℤ (pos (length ps * (2 ^ gap t w - 1))) ≤ℤ (cut_sum ps w).count) × ((cut_sum ps w).count ≤ℤ pos (length ps * (2 ^ gap t w - 1)))
cut_within ps t w h a =
    let b = 2 ^ gap t w - 1 in
    let r = sum_within (λ p. units p w) (λ p. true) b ps (All-weaker (λ p. top p ≤ℤ t) (λ p. units p w ≤ 1 * b) (λ p l. let s = units_small p t w h l in omega arith) ps a) in
    let m = mul-le-mul_right b (tally_le (λ p. true) ps) in
    (omega (arith, ints, r), omega (arith, ints, r))

module _ (ps : List Part) (w v t : ℤ) (g : v ≤ℤ w) (h : w ≤ℤ t) (a : AllByRecursion (λ p. top p ≤ℤ t) ps) (l : length ps ≤ 1024) where
  sizes : (z : ℤ) → z ≤ℤ v → length ps * (2 ^ gap t w - 1) * 2 ^ gap w z + reaching_below ps w * 2 ^ gap v z ≤ length ps * 2 ^ gap t z
  sizes z k =
      let e : gap t z ≡ gap t w + gap w z = omega (arith, ints) in
      rw e (room (length ps) (reaching_below ps w) (gap t w) (gap w z) (gap v z) (tally_le (λ p. lt_z (low p) w) ps) (omega (arith, ints)))

  -- either end: up to as many units of 2 ^ v away as parts go on below w
  end_upto : (b : ℤ) → nat_abs b ≤ reaching_below ps w → exponent (plus (cut_sum ps w) (dyadic b v)) ≤ℤ (t +ℤ pos 11)
  end_upto b m =
      let x = plus (cut_sum ps w) (dyadic b v) in
      let z = x.weight in
      let k : z ≤ℤ v = omega (arith, ints) in
      let e = sym (at_own x) ∙ at_plus z (cut_sum ps w) (dyadic b v) (omega (arith, ints)) k in
      let u = cut_within ps t w h a in
      let n = length ps * (2 ^ gap t w - 1) in
      let r = scale_mono (neg_ℤ (pos n)) (cut_sum ps w).count (gap w z) u.0 in
      let q = scale_mono (cut_sum ps w).count (pos n) (gap w z) u.1 in
      let c = scale_neg (pos n) (gap w z) in
      let d = scale_abs b (gap v z) in
      let y = mul-le-mul_right (2 ^ gap v z) m in
      let s = sizes z k in
      exponent_upto x t (length ps) (omega (arith, ints)) l (rw e (omega (arith, ints)))

-- ---- parts in a range of weights
pub record Ranged (l t : ℤ) (p : Part) : Type 0 where
  pub from : l ≤ℤ low p
  pub upto : top p ≤ℤ t

occupied_in : (ps : List Part) (l t k : ℤ) → AllByRecursion (Ranged l t) ps → Occupied ps k → (l <ℤ column_weight (k +ℤ pos 1)) × (column_weight k <ℤ t)
occupied_in [] l t k a o = absurd o
occupied_in (p ∷ ps) l t k (r, a) o = grind (arith, ints, occupied_in ps l t k a)

listed_occupied : (ps : List Part) (cs : List ℤ) → DownFrom ps cs → (k : ℤ) → Listed cs k → Occupied ps k
listed_occupied ps cs (above, e) k i = columns_occupied ps k (subst (λ (l : List ℤ). Listed l k) (sym e) (further above))
  where
    further : (above : List ℤ) → Listed (above ++ cs) k
    further [] = i
    further (c ∷ above) = inr (further above)

-- nothing that a part reaches is below l - 31
reach_from : (ps : List Part) (l t : ℤ) → AllByRecursion (Ranged l t) ps → (c : ℤ) (cs : List ℤ) → DownFrom ps (c ∷ cs) → l ≤ℤ (reach c cs +ℤ pos 31)
reach_from ps l t a c [] f = let o = occupied_in ps l t c a (listed_occupied ps (c ∷ []) f c (inl refl)) in omega (arith, ints)
reach_from ps l t a c (d ∷ ds) f = let o = occupied_in ps l t d a (listed_occupied ps (c ∷ d ∷ ds) f d (inr (inl refl))) in omega (arith, ints)

weight_upto : (xs : List Dyadic) → (total xs).weight ≤ℤ pos 0
unfolding total
weight_upto [] = omega (arith, ints)
weight_upto (x ∷ xs) = let i = weight_upto xs in omega (arith, ints)

weights_from : (ps : List Part) (l t z : ℤ) → z ≤ℤ l → z ≤ℤ pos 0 → AllByRecursion (Ranged l t) ps → BelowAll z (map number ps)
weights_from [] l t z h g a = g
weights_from (p ∷ ps) l t z h g (r, a) = (omega (arith, ints), weights_from ps l t z h g a)

-- with room for 31 weights below and 11 above
module _ (ps : List Part) (s : Regular ps) (n : length ps ≤ 1024) (l t : ℤ) (a : AllByRecursion (Ranged l t) ps) (L : neg_ℤ (pos 1999999969) ≤ℤ l) (T : t ≤ℤ pos 1999999989) where
  tops : (m : ℤ) → t ≤ℤ m → AllByRecursion (λ p. top p ≤ℤ m) ps
  tops m h = All-weaker (Ranged l t) (λ p. top p ≤ℤ m) (λ p r. omega (arith, ints, r.upto)) ps a

  end_in : (c : ℤ) (cs : List ℤ) → DownFrom ps (c ∷ cs) → (b : ℤ) → nat_abs b ≤ reaching_below ps (column_weight c) → InRange (exponent (plus (cut_sum ps (column_weight c)) (dyadic b (reach c cs))))
  end_in c cs f b m =
      let q = (chain ps s f.0 (c ∷ cs) f.1).0.ordered in
      let r = reach_from ps l t a c cs f in
      let o = occupied_in ps l t c a (listed_occupied ps (c ∷ cs) f c (inl refl)) in
      let e = end_upto ps (column_weight c) (reach c cs) t q (omega (arith, ints)) (tops t (omega (arith, ints))) n b m in
      record { from = omega (arith, ints); upto = omega (arith, ints) }

  lower_in : (c : ℤ) (cs : List ℤ) → DownFrom ps (c ∷ cs) → InRange (exponent (lower_end ps c cs))
  lower_in c cs f = grind (arith, ints, lower_is, chain ps s f.0 (c ∷ cs) f.1, end_in c cs f (neg_ℤ (pos (reaching_below ps (column_weight c)))))

  upper_in : (c : ℤ) (cs : List ℤ) → DownFrom ps (c ∷ cs) → InRange (exponent (upper_end ps c cs))
  upper_in c cs f = grind (arith, ints, upper_is, chain ps s f.0 (c ∷ cs) f.1, end_in c cs f (pos (reaching_below ps (column_weight c))))

  sum_in : InRange (exponent (exact_sum ps))
  sum_in =
      let x = exact_sum ps in
      let z = x.weight in
      let m = pos 1999999989 in
      let k = weight_upto (map number ps) in
      let f : lowest ≤ℤ z = total_above lowest (map number ps) (weights_from ps l t lowest (omega (arith, ints)) (omega (arith, ints)) a) in
      let h : z ≤ℤ m = omega (arith, ints) in
      let u = cut_within ps m z h (tops m T) in
      let b = mul-le-mul_left (length ps) (let q : 2 ^ gap m z - 1 ≤ 2 ^ gap m z = omega arith in q) in
      let e : x.count ≡ (cut_sum ps z).count = sym (at_own x) ∙ at_exact z ps (omega (arith, ints)) in
      let d = exponent_upto x m (length ps) h n (rw e (omega (arith, ints))) in
      record { from = omega (arith, ints); upto = omega (arith, ints) }

  -- the exponent of the sum lies between the lowest low weight and 11 above the highest top weight, where 0 lies between these
  sum_near : l ≤ℤ pos 0 → pos 0 ≤ℤ t → (l ≤ℤ exponent (exact_sum ps)) × (exponent (exact_sum ps) ≤ℤ (t +ℤ pos 11))
  sum_near B C =
      let x = exact_sum ps in
      let z = x.weight in
      let k = weight_upto (map number ps) in
      let f : l ≤ℤ z = total_above l (map number ps) (weights_from ps l t l (omega (arith, ints)) B a) in
      let h : z ≤ℤ t = omega (arith, ints) in
      let u = cut_within ps t z h (tops t (omega (arith, ints))) in
      let b = mul-le-mul_left (length ps) (let q : 2 ^ gap t z - 1 ≤ 2 ^ gap t z = omega arith in q) in
      let e : x.count ≡ (cut_sum ps z).count = sym (at_own x) ∙ at_exact z ps (omega (arith, ints)) in
      let d = exponent_upto x t (length ps) h n (rw e (omega (arith, ints))) in
      (omega (arith, ints), d)

  ranged : AllInRange ps
  ranged = record { sum = sum_in; lower = lower_in; upper = upper_in }

-- ---- the parts of a batch
-- the low weight is at most 4,096 below the top weight
abbrev pub lowest_low : ℤ
lowest_low = neg_ℤ (pos 1000004096)

abbrev pub highest_top : ℤ
highest_top = pos 1000000000

parts_ranged : (marks : ℕ → Mark) (i : ℕ) (ts : List Term) → AllByRecursion Limited ts → AllByRecursion (Ranged lowest_low highest_top) (parts_from marks i ts)
parts_ranged marks i [] l = tt
parts_ranged marks i (t ∷ ts) (h, l) = grind (arith, ints, parts_ranged marks (suc i) ts l)

one_counted : (k : Mark) (t : Term) → length (counted_part k t) ≤ 1
one_counted k t = grind (arith, ints)

pub parts_few : (marks : ℕ → Mark) (i : ℕ) (ts : List Term) → length (parts_from marks i ts) ≤ length ts
parts_few marks i [] = omega arith
parts_few marks i (t ∷ ts) = grind (arith, ints, one_counted (marks i) t, parts_few marks (suc i) ts)

pub in_range : AlwaysInRange
in_range marks ts l = grind (arith, ints, parts_few, parts_ranged, parts_regular, ranged)

-- the exponent of the sum of a batch's counted terms lies well within the range
pub sum_close : (marks : ℕ → Mark) (ts : List Term) → Batchable ts → (lowest_low ≤ℤ exponent (exact_sum (parts_of marks ts))) × (exponent (exact_sum (parts_of marks ts)) ≤ℤ (highest_top +ℤ pos 11))
sum_close marks ts l = grind (arith, ints, parts_few, parts_ranged, parts_regular, sum_near)
