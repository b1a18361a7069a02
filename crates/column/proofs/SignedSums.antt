-- Sums over the parts, with their signs.
use Rattle.std.proofs.Common.{◌≡◌, ℕ, ◌+◌, ◌*◌, ◌^◌, ◌≤◌, Bool, cond, List, [], ◌∷◌, ◌++◌, length, pos, ◌+ℤ◌, neg_ℤ, ◌≤ℤ◌, refl, ap, ap₂, arith}
use borrow.Author.Differences.{ints}
use Rattle.std.specs.List.{AllByRecursion}
use Rattle.exact.specs.Integers.{signed, scale}
use Rattle.exact.proofs.Integers.{signed_plus, signed_within}
use Rattle.exact.proofs.Scaling.{scale_plus, scale_signed}
use Rattle.column.specs.Parts.{Part, signed_sum, tally}

pub signed_nothing : (s : Bool) → signed s 0 ≡ pos 0
signed_nothing s = grind (arith, ints)

pub sum_plus : (f g : Part → ℕ) (ps : List Part) → signed_sum (λ p. f p + g p) ps ≡ signed_sum f ps +ℤ signed_sum g ps
sum_plus f g [] = refl
sum_plus f g (p ∷ ps) = omega (arith, ints, signed_plus p.negative (f p) (g p), sum_plus f g ps)

pub sum_scale : (f : Part → ℕ) (k : ℕ) (ps : List Part) → signed_sum (λ p. f p * 2 ^ k) ps ≡ scale (signed_sum f ps) k
sum_scale f k [] = omega (arith, ints)
sum_scale f k (p ∷ ps) = grind (arith, ints, scale_plus, scale_signed, sum_scale f k ps)

pub sum_same : (f g : Part → ℕ) (ps : List Part) → AllByRecursion (λ p. f p ≡ g p) ps → signed_sum f ps ≡ signed_sum g ps
sum_same f g [] h = refl
sum_same f g (p ∷ ps) (e, h) = ap₂ ◌+ℤ◌ (ap (signed p.negative) e) (sum_same f g ps h)

-- at most b for each part that passes, and nothing for the others
pub sum_within : (f : Part → ℕ) (t : Part → Bool) (b : ℕ) (ps : List Part) → AllByRecursion (λ p. f p ≤ cond (t p) 1 0 * b) ps
    → (neg_ℤ (pos (tally t ps * b)) ≤ℤ signed_sum f ps) × (signed_sum f ps ≤ℤ pos (tally t ps * b))
sum_within f t b [] h = (omega (arith, ints), omega (arith, ints))
sum_within f t b (p ∷ ps) (l, h) = omega (arith, ints, signed_within p.negative (f p) (cond (t p) 1 0 * b) l, sum_within f t b ps h)

pub tally_le : (t : Part → Bool) (ps : List Part) → tally t ps ≤ length ps
tally_le t [] = omega arith
tally_le t (p ∷ ps) = let i = tally_le t ps in let b : cond (t p) 1 0 ≤ 1 = grind arith in omega arith

-- one part more, at the end
pub sum_push : (f : Part → ℕ) (ps : List Part) (p : Part) → signed_sum f (ps ++ p ∷ []) ≡ signed_sum f ps +ℤ signed p.negative (f p)
sum_push f [] p = omega (arith, ints)
sum_push f (q ∷ ps) p = let i = sum_push f ps p in omega (arith, ints)

pub tally_push : (t : Part → Bool) (ps : List Part) (p : Part) → tally t (ps ++ p ∷ []) ≡ tally t ps + cond (t p) 1 0
tally_push t [] p = omega arith
tally_push t (q ∷ ps) p = let i = tally_push t ps p in omega arith

pub all_of : {P : Part → Type 0} → ((p : Part) → P p) → (ps : List Part) → AllByRecursion P ps
all_of f [] = tt
all_of f (p ∷ ps) = (f p, all_of f ps)
