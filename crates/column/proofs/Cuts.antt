-- The sums at two weights, and the ends around the exact sum.
use Rattle.std.proofs.Common.{◌≡◌, ℕ, ◌+◌, ◌-◌, ◌*◌, ◌%◌, ◌^◌, ◌<◌, ◌≤◌, Bool, cond, List, [], ◌∷◌, map, ℤ, pos, ◌+ℤ◌, neg_ℤ, ◌≤ℤ◌, ◌<ℤ◌, sym, refl, ap, ◌∙◌, subst, mod-lt, mod-eq_of_lt, mul-le-mul_left, arith, pow_pos}
use lib.Signed.{lt_z}
use borrow.Author.Differences.{ints}
use Rattle.std.specs.List.{AllByRecursion}
use Rattle.std.proofs.ByRecursion.{All-weaker}
use Rattle.exact.specs.Integers.{gap, lesser, scale}
use Rattle.exact.specs.Dyadic.{Dyadic, dyadic, at, plus, ◌≤ᴰ◌}
use Rattle.exact.proofs.Scaling.{scale_neg, scale_signed}
use Rattle.exact.proofs.Order.{le_at}
use Rattle.exact.proofs.Sums.{at_plus, at_total, BelowAll, total_at, below_all}
use Rattle.batch.specs.Term.{column_weight}
use Rattle.column.specs.Parts.{Part, top, number, exact_sum, units, signed_sum}
use Rattle.column.specs.Columns.{digit, column_total}
use Rattle.column.specs.Ends.{cut_sum, reaching_below}
use Rattle.column.proofs.Units.{units_split, units_whole, units_none, units_small, Clear, clear_mod}
use Rattle.column.proofs.SignedSums.{all_of, sum_plus, sum_scale, sum_same, sum_within}

-- ---- from one weight to a lower one
pub upper_clear : (ps : List Part) (w v z : ℤ) → z ≤ℤ v → v ≤ℤ w → AllByRecursion (Clear w v) ps
    → signed_sum (λ p. units p z) ps ≡ scale (signed_sum (λ p. units p w) ps) (gap w z) +ℤ signed_sum (λ p. units p z % 2 ^ gap v z) ps
upper_clear ps w v z h g c =
    let d = gap w z in
    sum_same (λ p. units p z) (λ p. units p w * 2 ^ d + units p z % 2 ^ gap v z) ps
    (All-weaker (Clear w v) (λ p. units p z ≡ units p w * 2 ^ d + units p z % 2 ^ gap v z)
    (λ p k. units_split p w z (omega (arith, ints)) ∙ ap (λ (n : ℕ). units p w * 2 ^ d + n) (clear_mod p w v z h g k)) ps c)
    ∙ sum_plus (λ p. units p w * 2 ^ d) (λ p. units p z % 2 ^ gap v z) ps
    ∙ ap (λ (n : ℤ). n +ℤ signed_sum (λ p. units p z % 2 ^ gap v z) ps) (sum_scale (λ p. units p w) d ps)

rest_by : (p : Part) (w v z : ℤ) → z ≤ℤ v → v ≤ℤ w → (t : Bool) → lt_z p.weight w ≡ t → units p z % 2 ^ gap v z ≤ cond t 1 0 * (2 ^ gap v z - 1)
rest_by p w v z h g t k1 = grind (arith, ints, mod-lt, pow_pos, units_none)

pub rest_within : (ps : List Part) (w v z : ℤ) → z ≤ℤ v → v ≤ℤ w
    → (neg_ℤ (pos (reaching_below ps w * (2 ^ gap v z - 1))) ≤ℤ signed_sum (λ p. units p z % 2 ^ gap v z) ps) × (signed_sum (λ p. units p z % 2 ^ gap v z) ps ≤ℤ pos (reaching_below ps w * (2 ^ gap v z - 1)))
rest_within ps w v z h g = sum_within (λ p. units p z % 2 ^ gap v z) (λ p. lt_z p.weight w) (2 ^ gap v z - 1) ps (all_of (λ p. rest_by p w v z h g (lt_z p.weight w) refl) ps)

-- ---- columns
pub next_sum : (ps : List Part) (c d : ℤ) → d <ℤ c → AllByRecursion (Clear (column_weight c) (column_weight (d +ℤ pos 1))) ps
    → (cut_sum ps (column_weight d)).count ≡ scale (cut_sum ps (column_weight c)).count (gap (column_weight c) (column_weight d)) +ℤ column_total ps d
next_sum ps c d h k =
    let e : gap (column_weight (d +ℤ pos 1)) (column_weight d) ≡ 32 = omega (arith, ints) in
    subst (λ (g : ℕ). (cut_sum ps (column_weight d)).count ≡ scale (cut_sum ps (column_weight c)).count (gap (column_weight c) (column_weight d)) +ℤ signed_sum (λ p. units p (column_weight d) % 2 ^ g) ps) e
    (upper_clear ps (column_weight c) (column_weight (d +ℤ pos 1)) (column_weight d) (omega (arith, ints)) (omega (arith, ints)) k)

pub first_sum : (ps : List Part) (c : ℤ) → AllByRecursion (λ p. top p ≤ℤ column_weight (c +ℤ pos 1)) ps → (cut_sum ps (column_weight c)).count ≡ column_total ps c
first_sum ps c h =
    let e : gap (column_weight (c +ℤ pos 1)) (column_weight c) ≡ 32 = omega (arith, ints) in
    sum_same (λ p. units p (column_weight c)) (λ p. digit p c) ps
    (All-weaker (λ p. top p ≤ℤ column_weight (c +ℤ pos 1)) (λ p. units p (column_weight c) ≡ digit p c)
    (λ p t. sym (mod-eq_of_lt (subst (λ (g : ℕ). units p (column_weight c) < 2 ^ g) e (units_small p (column_weight (c +ℤ pos 1)) (column_weight c) (omega (arith, ints)) t)))) ps h)

-- the digits of a column, against the parts that reach it or go below
pub total_within : (ps : List Part) (k : ℤ)
    → (neg_ℤ (pos (reaching_below ps (column_weight (k +ℤ pos 1)) * (2 ^ 32 - 1))) ≤ℤ column_total ps k) × (column_total ps k ≤ℤ pos (reaching_below ps (column_weight (k +ℤ pos 1)) * (2 ^ 32 - 1)))
total_within ps k =
    let w = column_weight (k +ℤ pos 1) in
    let e : gap w (column_weight k) ≡ 32 = omega (arith, ints) in
    subst (λ (g : ℕ). (neg_ℤ (pos (reaching_below ps w * (2 ^ g - 1))) ≤ℤ signed_sum (λ p. units p (column_weight k) % 2 ^ g) ps) × (signed_sum (λ p. units p (column_weight k) % 2 ^ g) ps ≤ℤ pos (reaching_below ps w * (2 ^ g - 1)))) e
    (rest_within ps w w (column_weight k) (omega (arith, ints)) (omega (arith, ints)))

-- ---- the exact sum
sum_exact : (z : ℤ) (ps : List Part) → BelowAll z (map number ps) → total_at z (map number ps) ≡ signed_sum (λ p. units p z) ps
sum_exact z [] h = refl
sum_exact z (p ∷ ps) (l, h) = grind (arith, ints, scale_signed, units_whole, sum_exact z ps h)

pub at_exact : (z : ℤ) (ps : List Part) → z ≤ℤ (exact_sum ps).weight → at z (exact_sum ps) ≡ signed_sum (λ p. units p z) ps
at_exact z ps h = let a = below_all z (map number ps) h in at_total z (map number ps) a ∙ sum_exact z ps a

-- ---- the exact sum lies between the ends
-- the parts cut at the weight w, less or more one unit of 2 ^ v for each part that goes on below w
abbrev pub lower_at : List Part → ℤ → ℤ → Dyadic
lower_at ps w v = plus (cut_sum ps w) (dyadic (neg_ℤ (pos (reaching_below ps w))) v)

abbrev pub upper_at : List Part → ℤ → ℤ → Dyadic
upper_at ps w v = plus (cut_sum ps w) (dyadic (pos (reaching_below ps w)) v)

pub at_lower : (ps : List Part) (w v z : ℤ) → z ≤ℤ v → v ≤ℤ w → at z (lower_at ps w v) ≡ scale (signed_sum (λ p. units p w) ps) (gap w z) +ℤ neg_ℤ (pos (reaching_below ps w * 2 ^ gap v z))
at_lower ps w v z h g =
    at_plus z (cut_sum ps w) (dyadic (neg_ℤ (pos (reaching_below ps w))) v) (omega (arith, ints)) h
    ∙ ap (λ (n : ℤ). scale (signed_sum (λ p. units p w) ps) (gap w z) +ℤ n) (scale_neg (pos (reaching_below ps w)) (gap v z))

pub at_upper : (ps : List Part) (w v z : ℤ) → z ≤ℤ v → v ≤ℤ w → at z (upper_at ps w v) ≡ scale (signed_sum (λ p. units p w) ps) (gap w z) +ℤ pos (reaching_below ps w * 2 ^ gap v z)
at_upper ps w v z h g = at_plus z (cut_sum ps w) (dyadic (pos (reaching_below ps w)) v) (omega (arith, ints)) h

module _ (ps : List Part) (w v : ℤ) (g : v ≤ℤ w) (c : AllByRecursion (Clear w v) ps) where
  pub lower_below : lower_at ps w v ≤ᴰ exact_sum ps
  lower_below =
      let z = lesser v (exact_sum ps).weight in
      let V : z ≤ℤ v = omega (arith, ints) in
      let E : z ≤ℤ (exact_sum ps).weight = omega (arith, ints) in
      let r = rest_within ps w v z V g in
      let n = reaching_below ps w in
      let m : n * (2 ^ gap v z - 1) ≤ n * 2 ^ gap v z = mul-le-mul_left n (omega arith) in
      le_at z (lower_at ps w v) (exact_sum ps) (omega (arith, ints)) E
      (rw (at_lower ps w v z V g, at_exact z ps E, upper_clear ps w v z V g c) (omega (arith, ints)))

  pub upper_above : exact_sum ps ≤ᴰ upper_at ps w v
  upper_above =
      let z = lesser v (exact_sum ps).weight in
      let V : z ≤ℤ v = omega (arith, ints) in
      let E : z ≤ℤ (exact_sum ps).weight = omega (arith, ints) in
      let r = rest_within ps w v z V g in
      let n = reaching_below ps w in
      let m : n * (2 ^ gap v z - 1) ≤ n * 2 ^ gap v z = mul-le-mul_left n (omega arith) in
      le_at z (exact_sum ps) (upper_at ps w v) E (omega (arith, ints))
      (rw (at_upper ps w v z V g, at_exact z ps E, upper_clear ps w v z V g c) (omega (arith, ints)))
