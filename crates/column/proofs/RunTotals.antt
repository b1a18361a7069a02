-- Totals of a run of columns, as more terms are added.
use Rattle.std.proofs.Common.{◌≡◌, ℕ, zero, suc, ◌+◌, ◌^◌, ◌<◌, ◌≤◌, Bool, List, length, replicate, ℤ, pos, ◌+ℤ◌, nat_abs, refl, sym, ap, ◌∙◌, subst, ⊎_elim, arith, w64, to_z, of_z, SFits}
use lib.ListN.{set}
use borrow.Author.Differences.{ints}
use Rattle.std.proofs.lemmas.Bool.{cases_eq}
use Rattle.std.proofs.lemmas.List.{get_or-set_same, get_or-set_other}
use Rattle.exact.specs.Integers.{signed}
use Rattle.column.specs.Runs.{total_at}

signed_small : (s : Bool) (n : ℕ) → n < 2 ^ 32 → nat_abs (signed s n) < 2 ^ 32
signed_small s n h = grind (arith, ints)

pub sum_kept : (x : ℤ) (s : Bool) (n : ℕ) (d : ℤ) → nat_abs x < 2 ^ 42 → n < 2 ^ 32 → d ≡ signed s n → to_z w64 (of_z w64 (to_z w64 (of_z w64 x) +ℤ to_z w64 (of_z w64 d))) ≡ x +ℤ signed s n
sum_kept x s n d h l e =
    let m : nat_abs d < 2 ^ 32 = subst (λ (z : ℤ). nat_abs z < 2 ^ 32) (sym e) (signed_small s n l) in
    omega (arith, ints, e)

-- the same where the sum so far is at hand as a number, and it fits
pub sum_grown : (x : ℤ) (s : Bool) (n : ℕ) (d : ℤ) → nat_abs x < 2 ^ 42 → n < 2 ^ 32 → d ≡ signed s n → SFits w64 (x +ℤ to_z w64 (of_z w64 d)) × (to_z w64 (of_z w64 (x +ℤ to_z w64 (of_z w64 d))) ≡ x +ℤ signed s n)
sum_grown x s n d h l e =
    let m : nat_abs d < 2 ^ 32 = subst (λ (z : ℤ). nat_abs z < 2 ^ 32) (sym e) (signed_small s n l) in
    (grind (arith, ints), omega (arith, ints, e))

-- one place more of a list is known, the others after it as before
pub one_more : (P : ℕ → ℤ) (ys : List ℤ) (j : ℕ) (x : ℤ) → j < length ys → x ≡ P j → ((k : ℕ) → k < j → total_at ys k ≡ P k) → (k : ℕ) → k < j + 1 → total_at (set ys j x) k ≡ P k
one_more P ys j x l e h k u = ⊎_elim
    (λ q. ap (total_at (set ys j x)) q ∙ get_or-set_same ys j x (pos 0) l ∙ e ∙ ap P (sym q))
    (λ q. get_or-set_other ys j k x (pos 0) q ∙ h k (omega arith))
    (cases_eq k j)

pub others_kept : (xs ys : List ℤ) (j : ℕ) (x : ℤ) → ((k : ℕ) → j ≤ k → total_at ys k ≡ total_at xs k) → (k : ℕ) → j + 1 ≤ k → total_at (set ys j x) k ≡ total_at xs k
others_kept xs ys j x h k u = get_or-set_other ys j k x (pos 0) (λ q. omega arith) ∙ h k (omega arith)

-- a list of zeros
pub zeros : (n j : ℕ) → total_at (replicate n (pos 0)) j ≡ pos 0
zeros zero j = refl
zeros (suc n) zero = refl
zeros (suc n) (suc j) = zeros n j
