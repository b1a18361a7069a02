-- What holds from one occupied column to the next.
use Rattle.std.proofs.Common.{◌≡◌, ℕ, ◌<◌, cond, List, [], ◌∷◌, ◌++◌, ℤ, pos, ◌+ℤ◌, ◌-ℤ◌, ◌≤ℤ◌, ◌<ℤ◌, refl, subst, inl, inr, arith}
use lib.Signed.{lt_z}
use borrow.Author.Differences.{ints}
use Rattle.std.specs.Int.{int_max}
use Rattle.std.specs.List.{AllByRecursion}
use Rattle.std.proofs.lemmas.Int.{by_lt_z, clamps}
use Rattle.exact.proofs.BitLength.{size_pos}
use Rattle.batch.specs.Term.{column_weight}
use Rattle.column.specs.Parts.{Part, Regular, top}
use Rattle.column.specs.Columns.{Occupies, Occupied, column_of, columns, Falling, Listed}
use Rattle.column.specs.Ends.{reaching_below}
use Rattle.column.proofs.Units.{Clear}
use Rattle.column.proofs.SignedSums.{all_of}
use Rattle.column.proofs.Listing.{floor_is, columns_fall, occupied_columns}

-- ---- one part
part_clear : (p : Part) (c d : ℤ) → 0 < p.significand → d <ℤ c → ((k : ℤ) → Occupies p k → d <ℤ k → k <ℤ c → ⊥) → Clear (column_weight c) (column_weight (d +ℤ pos 1)) p
part_clear p c d h g none' =
    let s = size_pos p.significand h in
    let f = floor_is p.weight in
    let k = int_max (d +ℤ pos 1) (column_of p.weight) in
    by_lt_z (column_weight (d +ℤ pos 1)) (top p)
    (λ t. by_lt_z p.weight (column_weight c)
    (λ l. by_lt_z (d +ℤ pos 1) c
    (λ r. absurd (none' k (omega (arith, ints, clamps), omega (arith, ints, clamps)) (omega (arith, ints, clamps)) (omega (arith, ints, clamps))))
    (λ r. inl (omega (arith, ints))))
    (λ l. inr (inr l)))
    (λ t. inr (inl t))

part_none : (p : Part) (c : ℤ) → 0 < p.significand → ((k : ℤ) → Occupies p k → k <ℤ c → ⊥) → ◌≡◌ {A = ℕ} (cond (lt_z p.weight (column_weight c)) 1 0) 0
part_none p c h none' =
    let s = size_pos p.significand h in
    let f = floor_is p.weight in
    let l : column_weight c ≤ℤ p.weight = by_lt_z p.weight (column_weight c) (λ l. absurd (none' (column_of p.weight) (omega (arith, ints), omega (arith, ints)) (omega (arith, ints)))) (λ l. l) in
    grind (arith, ints)

part_top : (p : Part) (c : ℤ) → 0 < p.significand → ((k : ℤ) → Occupies p k → k ≤ℤ c) → top p ≤ℤ column_weight (c +ℤ pos 1)
part_top p c h none' =
    let s = size_pos p.significand h in
    let f = floor_is (top p -ℤ pos 1) in
    let l = none' (column_of (top p -ℤ pos 1)) (omega (arith, ints), omega (arith, ints)) in
    omega (arith, ints)

-- ---- all parts
clear_of : (ps : List Part) (c d : ℤ) → Regular ps → d <ℤ c → ((k : ℤ) → Occupied ps k → d <ℤ k → k <ℤ c → ⊥) → AllByRecursion (Clear (column_weight c) (column_weight (d +ℤ pos 1))) ps
clear_of [] c d s g none' = tt
clear_of (p ∷ ps) c d (h, s) g none' = grind (arith, ints, part_clear, clear_of ps c d s g)

none_of : (ps : List Part) (c : ℤ) → Regular ps → ((k : ℤ) → Occupied ps k → k <ℤ c → ⊥) → reaching_below ps (column_weight c) ≡ 0
none_of [] c s none' = refl
none_of (p ∷ ps) c (h, s) none' = grind (arith, ints, part_none, none_of ps c s)

top_of : (ps : List Part) (c : ℤ) → Regular ps → ((k : ℤ) → Occupied ps k → k ≤ℤ c) → AllByRecursion (λ p. top p ≤ℤ column_weight (c +ℤ pos 1)) ps
top_of [] c s none' = tt
top_of (p ∷ ps) c (h, s) none' = grind (arith, ints, part_top, top_of ps c s)

-- ---- a column and those below it
-- all that the columns below c hold lies below this weight, where cs are those columns
abbrev pub reach : ℤ → List ℤ → ℤ
reach c [] = column_weight c
reach c (d ∷ ds) = column_weight (d +ℤ pos 1)

abbrev pub Final : List Part → ℤ → List ℤ → Type 0
Final ps c [] = reaching_below ps (column_weight c) ≡ 0
Final ps c (d ∷ ds) = d <ℤ c

pub record Link (ps : List Part) (c : ℤ) (cs : List ℤ) : Type 0 where
  pub ordered : reach c cs ≤ℤ column_weight c
  pub clear : AllByRecursion (Clear (column_weight c) (reach c cs)) ps
  pub final : Final ps c cs

abbrev pub Chain : List Part → List ℤ → Type 0
Chain ps [] = Unit {0}
Chain ps (c ∷ cs) = Link ps c cs × Chain ps cs

pub in_below : (c : ℤ) (cs : List ℤ) (k : ℤ) → AllByRecursion (λ d. d <ℤ c) cs → Listed cs k → k <ℤ c
in_below c [] k a i = elim i [ ]
in_below c (d ∷ ds) k (l, a) (inl e) = omega (arith, ints)
in_below c (d ∷ ds) k (l, a) (inr i) = in_below c ds k a i

pub in_upto : (c : ℤ) (cs : List ℤ) (k : ℤ) → AllByRecursion (λ d. d <ℤ c) cs → Listed (c ∷ cs) k → k ≤ℤ c
in_upto c cs k h g = grind (arith, ints, in_below)

pub in_rest : (c : ℤ) (cs : List ℤ) (k : ℤ) → k <ℤ c → Listed (c ∷ cs) k → Listed cs k
in_rest c cs k h g = grind (arith, ints)

-- all occupied columns below c are in the list
abbrev Covers : List Part → ℤ → List ℤ → Type 0
Covers ps c cs = (k : ℤ) → Occupied ps k → k <ℤ c → Listed cs k

chain_from : (ps : List Part) → Regular ps → (c : ℤ) (cs : List ℤ) → Falling (c ∷ cs) → Covers ps c cs → Chain ps (c ∷ cs)
chain_from ps s c [] d v = (record { ordered = omega (arith, ints); clear = all_of (λ p. inl refl) ps; final = none_of ps c s v }, tt)
chain_from ps s c (b ∷ bs) ((l, a), d) v = (
  record {
    ordered = omega (arith, ints);
    clear = clear_of ps c b s l (λ k o g h. let i = in_upto b bs k d.0 (v k o h) in omega (arith, ints));
    final = l;
  },
  chain_from ps s b bs d (λ k o h. in_rest b bs k h (v k o (omega (arith, ints)))),
)

pub first_top : (ps : List Part) → Regular ps → (c : ℤ) (cs : List ℤ) → columns ps ≡ c ∷ cs → AllByRecursion (λ p. top p ≤ℤ column_weight (c +ℤ pos 1)) ps
first_top ps s c cs e = grind (arith, ints, columns_fall, in_upto, occupied_columns, top_of)

chain_of : (ps : List Part) → Regular ps → (cs : List ℤ) → columns ps ≡ cs → Chain ps cs
chain_of ps s [] e = tt
chain_of ps s (c ∷ cs) e =
    chain_from ps s c cs (subst Falling e (columns_fall ps)) (λ k o h. in_rest c cs k h (subst (λ (l : List ℤ). Listed l k) e (occupied_columns ps k o)))

chain_back : (ps : List Part) (front cs : List ℤ) → Chain ps (front ++ cs) → Chain ps cs
chain_back ps [] cs h = h
chain_back ps (c ∷ front) cs (l, h) = chain_back ps front cs h

pub chain : (ps : List Part) → Regular ps → (front cs : List ℤ) → columns ps ≡ front ++ cs → Chain ps cs
chain ps s front cs e = chain_back ps front cs (chain_of ps s (front ++ cs) e)
