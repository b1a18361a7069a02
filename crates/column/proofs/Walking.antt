-- The walk from the first column down to the depth.
use Rattle.std.proofs.Common.{◌≡◌, false, List, [], ◌∷◌, ◌++◌, ℤ, ◌<ℤ◌, Some, Option, sym, append_assoc, ◌∙◌, ⊎_elim, arith}
use lib.Signed.{lt_z}
use borrow.Author.Differences.{ints}
use Rattle.std.specs.List.{AllByRecursion}
use Rattle.std.proofs.lemmas.Bool.{cond_both, cases_Bool}
use Rattle.exact.proofs.Order.{≤ᴰ_trans, ≈ᴰ_trans}
use Rattle.grid.specs.Rounding.{rounded, Answer, Alike}
use Rattle.grid.proofs.Everywhere.{laws_everywhere}
use Rattle.grid.proofs.Monotone.{between}
use Rattle.column.specs.Parts.{Part, exact_sum}
use Rattle.column.specs.Columns.{Falling}
use Rattle.column.specs.Ends.{lower_end, upper_end}
use Rattle.column.specs.Depth.{ends_alike, depth, answer}
use Rattle.column.specs.Walk.{first_column, first_below}
use Rattle.column.specs.Claims.{DownFrom, AlikeStays, NextListed, WalkStarts, WalkGoesOn, WalkEnds}
use Rattle.column.proofs.Listing.{columns_fall}
use Rattle.column.proofs.Laws.{ends_nested, sum_enclosed}
use Rattle.column.proofs.Depths.{alike_true}

-- ---- the columns to come
pub from_next : (ps : List Part) (c : ℤ) (cs : List ℤ) → DownFrom ps (c ∷ cs) → DownFrom ps cs
from_next ps c cs (above, e) = (above ++ (c ∷ []), e ∙ sym (append_assoc above (c ∷ []) cs))

-- what stands above a column in a falling list lies above it
above_higher : (x c : ℤ) (above cs : List ℤ) → AllByRecursion (λ d. d <ℤ x) (above ++ (c ∷ cs)) → c <ℤ x
above_higher x c [] cs a = a.0
above_higher x c (y ∷ above) cs a = above_higher x c above cs a.1

-- so the first below a column of the list is the one that follows it
first_after : (above : List ℤ) (c : ℤ) (cs : List ℤ) → Falling (above ++ (c ∷ cs)) → first_below c (above ++ (c ∷ cs)) ≡ first_column cs
first_after [] c cs (a, f) = grind (arith, ints)
first_after (x ∷ above) c cs (a, f) =
    let l = above_higher x c above cs a in
    cond_both (lt_z x c) (Some x) (first_below c (above ++ (c ∷ cs))) (λ (r : Option ℤ). r ≡ first_column cs) (λ e. absurd (omega (arith, ints))) (λ e. first_after above c cs f)

pub next_listed : NextListed
next_listed ps c cs (above, e) = grind (arith, ints, first_after, columns_fall)

-- ---- once alike, always alike
alike_both : (a b c : Answer) → Alike b a → Alike c a → Alike b c
alike_both a b c k l = grind (arith, ints, ≈ᴰ_trans)

pub alike_stays : AlikeStays
alike_stays u W L m ps s c d ds f k =
    let S = laws_everywhere u W L in
    let a = lower_end ps c (d ∷ ds) in
    let b = upper_end ps c (d ∷ ds) in
    let n = ends_nested ps s c d ds f in
    let e = sum_enclosed ps s c (d ∷ ds) f in
    let g = sum_enclosed ps s d ds (from_next ps c (d ∷ ds) f) in
    let x = between u S m a (lower_end ps d ds) b n.lower (≤ᴰ_trans (lower_end ps d ds) (exact_sum ps) b g.lower e.upper) k in
    let y = between u S m a (upper_end ps d ds) b (≤ᴰ_trans a (exact_sum ps) (upper_end ps d ds) e.lower g.upper) n.upper k in
    alike_both (rounded u m a) (rounded u m (lower_end ps d ds)) (rounded u m (upper_end ps d ds)) x y

-- ---- column after column
pub walk_starts : WalkStarts
unfolding depth answer
walk_starts u m ps = grind (arith, ints)

pub walk_goes_on : WalkGoesOn
walk_goes_on u m ps j c cs w n =
    let e : ends_alike u m ps c cs ≡ false =
    ⊎_elim (λ t. absurd (n (alike_true (rounded u m (lower_end ps c cs)) (rounded u m (upper_end ps c cs)) t))) (λ f. f) (cases_Bool (ends_alike u m ps c cs)) in
    record {
      to_come = from_next ps c cs w.to_come;
      deeper = w.deeper ∙ rw e (omega arith);
      same = w.same ∙ rw e;
    }

pub walk_ends : WalkEnds
walk_ends u m ps j c cs w k = grind (arith, ints)
