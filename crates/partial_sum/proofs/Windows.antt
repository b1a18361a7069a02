-- Windows of totals: one total written, zeros below.
use Rattle.std.proofs.Common.{◌≡◌, ℕ, zero, suc, ◌+◌, ◌*◌, ◌<◌, ◌≤◌, List, ◌∷◌, length, get_or, drop, set, ℤ, pos, ◌+ℤ◌, sym, ap, ◌∙◌, arith}
use Rattle.std.proofs.lemmas.Grind.{common_steps}
use borrow.Author.Differences.{ints}
use Rattle.std.proofs.lemmas.List.{drop_more}
use Rattle.exact.specs.Integers.{scale}
use Rattle.exact.proofs.Scaling.{scale_none, scale_scale}
use Rattle.totals.specs.Totals.{totals_value}

-- one total below others
pub value_below : (t : ℤ) (ts : List ℤ) → totals_value (t ∷ ts) ≡ t +ℤ scale (totals_value ts) 32
value_below t ts = omega (arith, ints)

-- a total changed by a
pub value_changed : (ts : List ℤ) (i : ℕ) (a v : ℤ) → i < length ts → v ≡ get_or ts i (pos 0) +ℤ a → totals_value (drop i (set ts i v)) ≡ totals_value (drop i ts) +ℤ a
value_changed ts i a v inside e = grind (arith, ints, common_steps)

-- zeros below
pub value_zeros : (ts : List ℤ) (i j : ℕ) → i + j ≤ length ts → ((k : ℕ) → k < i + j → get_or ts k (pos 0) ≡ pos 0) → totals_value (drop i ts) ≡ scale (totals_value (drop (i + j) ts)) (32 * j)
value_zeros ts i zero inside none = ap (λ (k : ℕ). totals_value (drop k ts)) (let e : i ≡ i + 0 = omega arith in e) ∙ sym (scale_none (totals_value (drop (i + 0) ts)))
value_zeros ts i (suc j) inside none = grind (arith, ints, common_steps, drop_more ts i (pos 0), none i, value_zeros ts (i + 1) j, scale_scale (totals_value (drop (i + 1 + j) ts)) (32 * j) 32)
