-- The columns of parts do not depend on their order.
use Rattle.std.proofs.Common.{◌≡◌, ℕ, ◌+◌, ◌<◌, ◌⊎◌, ◌↔◌, Bool, cond, true, false, drop, length, ⊎_elim, List, [], ◌∷◌, ℤ, pos, ◌+ℤ◌, ◌-ℤ◌, ◌<ℤ◌, sym, refl, ap₂, ◌∙◌, subst, inl, inr, arith}
use lib.Signed.{lt_z}
use borrow.Author.Differences.{ints}
use Rattle.std.specs.List.{AllByRecursion, sum_by, refill}
use Rattle.std.specs.List.Sorted.{IsPermutation}
use Rattle.std.proofs.lemmas.List.{take_all, take-append-le}
use Rattle.std.proofs.lemmas.List.Elements.{All-from_recursion, recursion_from_All}
use Rattle.std.proofs.lemmas.List.Sorted.{IsPermutation-map, All-permutation, length_permutation, sum_by-IsPermutation}
use Rattle.std.proofs.lemmas.List.Sums.{sum_by-cons}
use Rattle.exact.specs.Integers.{signed}
use Rattle.batch.specs.Term.{Term, column_weight}
use Rattle.column.specs.Parts.{Part, low, top, signed_sum, tally}
use Rattle.column.specs.Columns.{digit, Occupies, Occupied, columns, Falling, Listed}
use Rattle.column.specs.ColumnCursor.{SameColumns}
use Rattle.column.specs.Edges.{Spanning, SpansListed}
use Rattle.column.specs.Listed.{listed_part, parts_listed, RegularListed}
use Rattle.column.specs.declared.term.CountedTerm.{CountedTerm}
use Rattle.column.proofs.Chain.{in_below}
use Rattle.column.proofs.Listing.{columns_fall, columns_occupied, occupied_columns}

-- ---- sums
-- what the positive parts have, and what the negative ones have
plus_of : (Part → ℕ) → Part → ℕ
plus_of f p = cond p.negative 0 (f p)

minus_of : (Part → ℕ) → Part → ℕ
minus_of f p = cond p.negative (f p) 0

sum_apart : (f : Part → ℕ) (ps : List Part) → signed_sum f ps ≡ pos (sum_by (plus_of f) ps) -ℤ pos (sum_by (minus_of f) ps)
unfolding plus_of minus_of
sum_apart f [] = refl
sum_apart f (p ∷ ps) = apart _ _ _ _ _ p.negative (f p) (sum_by-cons (plus_of f) p ps) (sum_by-cons (minus_of f) p ps) (sum_apart f ps)
  where
    apart : (a b c d : ℕ) (z : ℤ) (s : Bool) (n : ℕ) → a ≡ cond s 0 n + c → b ≡ cond s n 0 + d → z ≡ pos c -ℤ pos d → signed s n +ℤ z ≡ pos a -ℤ pos b
    apart a b c d z true n p q r = omega (arith, ints)
    apart a b c d z false n p q r = omega (arith, ints)

tally_sum : (t : Part → Bool) (ps : List Part) → tally t ps ≡ sum_by (λ p. cond (t p) 1 0) ps
tally_sum t [] = refl
tally_sum t (p ∷ ps) = omega (arith, sum_by-cons (λ (q : Part). cond (t q) 1 0) p ps, tally_sum t ps)

module _ (ps qs : List Part) (same : IsPermutation ps qs) where
  sum_permuted : (f : Part → ℕ) → signed_sum f qs ≡ signed_sum f ps
  sum_permuted f = sum_apart f qs ∙ ap₂ (λ (a b : ℕ). pos a -ℤ pos b) (sum_by-IsPermutation (plus_of f) ps qs same) (sum_by-IsPermutation (minus_of f) ps qs same) ∙ sym (sum_apart f ps)

  tally_permuted : (t : Part → Bool) → tally t qs ≡ tally t ps
  tally_permuted t = tally_sum t qs ∙ sum_by-IsPermutation (λ p. cond (t p) 1 0) ps qs same ∙ sym (tally_sum t ps)

-- ---- columns
-- does a part occupy the column k?
occupies : ℤ → Part → Bool
occupies k p = cond (lt_z (column_weight k) (top p)) (lt_z (low p) (column_weight k +ℤ pos 32)) false

some_occupies : (k : ℤ) (ps : List Part) → Occupied ps k ↔ (0 < tally (occupies k) ps)
unfolding occupies
some_occupies k [] = (λ o. absurd o, λ l. absurd (omega arith))
some_occupies k (p ∷ ps) = one (lt_z (column_weight k) (top p)) (lt_z (low p) (column_weight k +ℤ pos 32)) refl refl (tally (occupies k) ps) (some_occupies k ps)
  where
    one : (a b : Bool) → lt_z (column_weight k) (top p) ≡ a → lt_z (low p) (column_weight k +ℤ pos 32) ≡ b → (n : ℕ) → (Occupied ps k ↔ (0 < n)) → (Occupies p k ⊎ Occupied ps k) ↔ (0 < cond (cond a b false) 1 0 + n)
    one true true e f n h = (λ o. omega arith, λ l. inl (omega (arith, ints, e), omega (arith, ints, f)))
    one true false e f n h = (λ o. ⊎_elim (λ q. absurd (omega (arith, ints, f, q))) (λ q. let l = h.0 q in omega arith) o, λ l. inr (h.1 (omega arith)))
    one false b e f n h = (λ o. ⊎_elim (λ q. absurd (omega (arith, ints, e, q))) (λ q. let l = h.0 q in omega arith) o, λ l. inr (h.1 (omega arith)))

-- two falling lists of the same columns are the same
falling_same : (cs ds : List ℤ) → Falling cs → Falling ds → ((k : ℤ) → Listed cs k ↔ Listed ds k) → cs ≡ ds
falling_same [] [] f g h = refl
falling_same [] (d ∷ ds) f g h = absurd ((h d).1 (inl refl))
falling_same (c ∷ cs) [] f g h = absurd ((h c).0 (inl refl))
falling_same (c ∷ cs) (d ∷ ds) (a, f) (b, g) h =
    let e : c ≡ d = first_same in
    ap₂ ◌∷◌ e (falling_same cs ds f g (λ k. (λ i. rest c cs d ds e a k i ((h k).0 (inr i)), λ i. rest d ds c cs (sym e) b k i ((h k).1 (inr i)))))
  where
    both : (c ≡ d) ⊎ Listed ds c → (d ≡ c) ⊎ Listed cs d → c ≡ d
    both (inl e) q = e
    both (inr i) (inl e) = sym e
    both (inr i) (inr j) = absurd (let p = in_below d ds c b i in let q = in_below c cs d a j in omega (arith, ints))

    first_same : c ≡ d
    first_same = both ((h c).0 (inl refl)) ((h d).1 (inl refl))

    rest : (c : ℤ) (cs : List ℤ) (d : ℤ) (ds : List ℤ) → c ≡ d → AllByRecursion (λ x. x <ℤ c) cs → (k : ℤ) → Listed cs k → (k ≡ d) ⊎ Listed ds k → Listed ds k
    rest c cs d ds e a k i (inl q) = absurd (let l = in_below c cs k a i in omega (arith, ints))
    rest c cs d ds e a k i (inr j) = j

pub same_columns : (ps qs : List Part) → IsPermutation ps qs → SameColumns ps qs
same_columns ps qs same = record {
  occupied = falling_same (columns qs) (columns ps) (columns_fall qs) (columns_fall ps) (λ k. (λ i. to qs ps k (sym (tally_permuted ps qs same (occupies k))) i, λ i. to ps qs k (tally_permuted ps qs same (occupies k)) i));
  totals = λ k. sum_permuted ps qs same (λ p. digit p k);
  reaching = λ w. tally_permuted ps qs same (λ p. lt_z (low p) w);
}
  where
    to : (ps qs : List Part) (k : ℤ) → tally (occupies k) qs ≡ tally (occupies k) ps → Listed (columns ps) k → Listed (columns qs) k
    to ps qs k e i = occupied_columns qs k ((some_occupies k qs).1 (subst (λ (n : ℕ). 0 < n) (sym e) ((some_occupies k ps).0 (columns_occupied ps k i))))

-- ---- listed terms in another order
module _ (ts : List Term) (xs ys : List CountedTerm) (same : IsPermutation xs ys) where
  parts_permuted : IsPermutation (parts_listed ts xs) (parts_listed ts ys)
  parts_permuted = IsPermutation-map (listed_part ts) xs ys same

  pub listed_columns : SameColumns (parts_listed ts xs) (parts_listed ts ys)
  listed_columns = same_columns (parts_listed ts xs) (parts_listed ts ys) parts_permuted

  pub spans_permuted : SpansListed ts xs → SpansListed ts ys
  spans_permuted = All-permutation (Spanning ts) xs ys same

  pub regular_permuted : RegularListed ts xs → RegularListed ts ys
  regular_permuted h =
      recursion_from_All (λ (p : Part). 0 < p.significand) (parts_listed ts ys)
      (All-permutation (λ (p : Part). 0 < p.significand) (parts_listed ts xs) (parts_listed ts ys) parts_permuted (All-from_recursion (λ (p : Part). 0 < p.significand) (parts_listed ts xs) h))

-- what is written back as a whole
pub refilled : (xs ws : List CountedTerm) → IsPermutation xs ws → refill (length xs) xs ws ≡ ws
refilled xs ws same =
    let long = length_permutation xs ws same in
    take-append-le (length xs) ws (drop (length ws) xs) (omega (arith, long)) ∙ take_all (length xs) ws (omega (arith, long))
