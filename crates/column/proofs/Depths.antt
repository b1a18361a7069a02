-- The depth, and what the exact sum rounds to there.
use Rattle.std.proofs.Common.{◌≡◌, ℕ, zero, suc, ◌≤◌, true, List, [], ◌∷◌, length, ℤ, pos, refl, arith}
use borrow.Author.Differences.{ints}
use Rattle.std.proofs.lemmas.Bool.{both_ways, cond_both}
use Rattle.exact.specs.Dyadic.{dyadic, total}
use Rattle.exact.proofs.BitLength.{size_pos}
use Rattle.grid.specs.Rounding.{Mode, rounded, Answer, Alike}
use Rattle.grid.proofs.Everywhere.{LawsEverywhere, laws_everywhere}
use Rattle.grid.proofs.Monotone.{between, alike_refl}
use Rattle.column.specs.Parts.{Part, Regular, exact_sum}
use Rattle.column.specs.Columns.{column_of, columns}
use Rattle.column.specs.Ends.{lower_end, upper_end}
use Rattle.column.specs.Depth.{alike, ends_alike, depth_in, answer_in, depth, answer, AlikeAt}
use Rattle.column.specs.Claims.{SumSettled, DepthExists, DepthOfNone, AnswerRight}
use Rattle.column.proofs.Listing.{floor_is, occupied_columns}
use Rattle.column.proofs.Chain.{Link, Chain, chain}
use Rattle.column.proofs.Laws.{link_encloses}

-- ---- where the ends round alike, the exact sum rounds as they do
link_settles : (u : ℤ → ℤ) → LawsEverywhere u → (m : Mode) (ps : List Part) (c : ℤ) (cs : List ℤ) → Link ps c cs
    → Alike (rounded u m (lower_end ps c cs)) (rounded u m (upper_end ps c cs)) → Alike (rounded u m (exact_sum ps)) (rounded u m (lower_end ps c cs))
link_settles u S m ps c cs l = let b = link_encloses ps c cs l in between u S m (lower_end ps c cs) (exact_sum ps) (upper_end ps c cs) b.lower b.upper

pub sum_settled : SumSettled
sum_settled u W L m ps s c cs (above, e) = link_settles u (laws_everywhere u W L) m ps c cs (chain ps s above (c ∷ cs) e).0

-- ---- the test says whether two answers are alike
pub alike_true : (a b : Answer) → alike a b ≡ true → Alike a b
alike_true a b e = grind (arith, ints)

pub true_alike : (a b : Answer) → Alike a b → alike a b ≡ true
true_alike a b k = grind (arith, ints)

-- ---- the first column at which the ends are alike
module _ (u : ℤ → ℤ) (m : Mode) (ps : List Part) where
  -- at the last column both ends are one number
  last_alike : (c : ℤ) → Alike (rounded u m (lower_end ps c [])) (rounded u m (upper_end ps c []))
  last_alike c = alike_refl (rounded u m (upper_end ps c []))

  later : (c : ℤ) (cs : List ℤ) (j : ℕ) → AlikeAt u m ps cs j → AlikeAt u m ps (c ∷ cs) (suc j)
  later c cs j h = grind (arith, ints)

  abbrev Here : List ℤ → ℕ → Type 0
  Here cs j = AlikeAt u m ps cs j × (j ≤ length cs)

  here_one : (c : ℤ) (cs : List ℤ) → ends_alike u m ps c cs ≡ true → Here (c ∷ cs) 1
  here_one c cs e = grind (arith, ints, alike_true)

  here : (c : ℤ) (cs : List ℤ) → Here (c ∷ cs) (depth_in u m ps (c ∷ cs))
  here c [] = grind (arith, ints)
  here c (d ∷ ds) =
      let h = here d ds in
      let j = depth_in u m ps (d ∷ ds) in
      cond_both {A = ℕ} (ends_alike u m ps c (d ∷ ds)) 1 (suc j) (Here (c ∷ d ∷ ds)) (here_one c (d ∷ ds)) (λ e. (later c (d ∷ ds) j h.0, omega (arith, h.1)))

  least : (cs : List ℤ) (j : ℕ) → AlikeAt u m ps cs j → depth_in u m ps cs ≤ j
  least [] j h = elim h [ ]
  least (c ∷ cs) zero h = elim h [ ]
  least (c ∷ cs) (suc zero) h = grind (arith, ints)
  least (c ∷ cs) (suc (suc j)) h =
      let i = least cs (suc j) h in
      cond_both {A = ℕ} (ends_alike u m ps c cs) 1 (suc (depth_in u m ps cs)) (λ n. n ≤ suc (suc j)) (λ e. omega arith) (λ e. omega (arith, i))

  answer_in_right : LawsEverywhere u → (c : ℤ) (cs : List ℤ) → Chain ps (c ∷ cs) → Alike (rounded u m (exact_sum ps)) (answer_in u m ps (c ∷ cs))
  answer_in_right S c [] (l, k) =
      let a = rounded u m (lower_end ps c []) in
      cond_both (ends_alike u m ps c []) a (answer_in u m ps []) (Alike (rounded u m (exact_sum ps)))
      (λ e. link_settles u S m ps c [] l (alike_true a (rounded u m (upper_end ps c [])) e))
      (λ e. absurd (both_ways (ends_alike u m ps c []) e (true_alike a (rounded u m (upper_end ps c [])) (last_alike c))))
  answer_in_right S c (d ∷ ds) (l, k) =
      let a = rounded u m (lower_end ps c (d ∷ ds)) in
      cond_both (ends_alike u m ps c (d ∷ ds)) a (answer_in u m ps (d ∷ ds)) (Alike (rounded u m (exact_sum ps)))
      (λ e. link_settles u S m ps c (d ∷ ds) l (alike_true a (rounded u m (upper_end ps c (d ∷ ds))) e))
      (λ e. answer_in_right S d ds k)

-- a part that is not 0 occupies a column
pub some_column : (p : Part) (ps : List Part) → Regular (p ∷ ps) → columns (p ∷ ps) ≡ [] → ⊥
some_column p ps (h, s) e = grind (arith, ints, floor_is p.weight, size_pos, occupied_columns (p ∷ ps) (column_of p.weight))

here_in : (u : ℤ → ℤ) (m : Mode) (ps : List Part) (cs : List ℤ) → (cs ≡ [] → ⊥) → AlikeAt u m ps cs (depth_in u m ps cs) × (depth_in u m ps cs ≤ length cs)
here_in u m ps [] n = absurd (n refl)
here_in u m ps (c ∷ cs) n = here u m ps c cs

pub depth_exists : DepthExists
unfolding depth
depth_exists u m p ps s =
    let cs = columns (p ∷ ps) in
    let h = here_in u m (p ∷ ps) cs (some_column p ps s) in
    record { alike = h.0; least = least u m (p ∷ ps) cs; within = h.1 }

pub depth_of_none : DepthOfNone
unfolding depth columns
depth_of_none u m = refl

answer_of : (u : ℤ → ℤ) → LawsEverywhere u → (m : Mode) (ps : List Part) (cs : List ℤ) → Chain ps cs → (cs ≡ [] → ⊥) → Alike (rounded u m (exact_sum ps)) (answer_in u m ps cs)
answer_of u S m ps [] k n = absurd (n refl)
answer_of u S m ps (c ∷ cs) k n = answer_in_right u m ps S c cs k

pub answer_right : AnswerRight
unfolding answer columns total
answer_right u W L m [] s = alike_refl (rounded u m (dyadic (pos 0) (pos 0)))
answer_right u W L m (p ∷ ps) s = let cs = columns (p ∷ ps) in answer_of u (laws_everywhere u W L) m (p ∷ ps) cs (chain (p ∷ ps) s [] cs refl) (some_column p ps s)
