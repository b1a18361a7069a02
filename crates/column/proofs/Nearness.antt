-- The weights of a batch's terms, and the columns of those that are listed, are not far from 0; and no more than 1,024 terms reach below a column.
use Rattle.std.proofs.Common.{◌≡◌, refl, ap, ap₂, ◌∙◌, ◌+ℤ◌, ℕ, zero, suc, ◌≤◌, List, [], ◌∷◌, length, ℤ, pos, ◌-ℤ◌, neg_ℤ, ◌≤ℤ◌, ◌<ℤ◌, inl, inr, arith}
use lib.Signed.{lt_z}
use Rattle.std.proofs.lemmas.List.{length-map}
use borrow.Author.Differences.{ints}
use Rattle.std.specs.List.{AllByRecursion}
use Rattle.batch.specs.Term.{Term, not_a_number, infinite, signed_zero, regular, low_weight, top_weight, Limited, Batchable}
use Rattle.batch.specs.Lookup.{low_of_term, top_of_term}
use Rattle.column.specs.declared.term.CountedTerm.{CountedTerm}
use Rattle.column.specs.Parts.{low, top}
use Rattle.exact.specs.Integers.{signed}
use Rattle.column.specs.Columns.{Occupied, columns, column_total, Listed}
use Rattle.column.specs.Edges.{Spanning}
use Rattle.column.specs.Listed.{listed_part, parts_listed}
use Rattle.column.specs.Ends.{reaching_below}
use Rattle.column.specs.Walk.{first_column, first_below}
use Rattle.column.proofs.Descent.{first_is}
use Rattle.column.proofs.Listing.{floor_is, columns_occupied}
use Rattle.column.proofs.Lookups.{listed_low, listed_top}
use Rattle.column.proofs.SignedSums.{signed_nothing, tally_le}
use Rattle.column.proofs.TermEnds.{digit_above}

-- ---- the weights of a term
-- the low weight is at most 4,096 below the top weight
pub record InReach (low top : ℤ) : Type 0 where
  pub low_from : neg_ℤ (pos 1000004096) ≤ℤ low
  pub low_upto : low ≤ℤ pos 1000000000
  pub top_from : neg_ℤ (pos 1000000000) ≤ℤ top
  pub top_upto : top ≤ℤ pos 1000000000

weights_limited : (t : Term) → Limited t → InReach (low_weight t) (top_weight t)
weights_limited not_a_number l = record { low_from = omega (arith, ints); low_upto = omega (arith, ints); top_from = omega (arith, ints); top_upto = omega (arith, ints) }
weights_limited (infinite s) l = record { low_from = omega (arith, ints); low_upto = omega (arith, ints); top_from = omega (arith, ints); top_upto = omega (arith, ints) }
weights_limited (signed_zero s) l = record { low_from = omega (arith, ints); low_upto = omega (arith, ints); top_from = omega (arith, ints); top_upto = omega (arith, ints) }
weights_limited (regular s m q) l = record {
  low_from = omega (arith, ints, l.few_digits, l.not_below);
  low_upto = omega (arith, ints, l.not_above);
  top_from = omega (arith, ints, l.not_below);
  top_upto = omega (arith, ints, l.not_above);
}

weights_at : (ts : List Term) → AllByRecursion Limited ts → (i : ℕ) → InReach (low_of_term ts i) (top_of_term ts i)
weights_at [] l i = record { low_from = omega (arith, ints); low_upto = omega (arith, ints); top_from = omega (arith, ints); top_upto = omega (arith, ints) }
weights_at (t ∷ ts) (h, l) zero = weights_limited t h
weights_at (t ∷ ts) (h, l) (suc i) = weights_at ts l i

-- ---- the columns of the listed terms
pub record Near (k : ℤ) : Type 0 where
  pub from : neg_ℤ (pos 60000000) ≤ℤ k
  pub upto : k ≤ℤ pos 60000000

module _ (ts : List Term) (b : Batchable ts) where
  pub weights_near : (i : ℕ) → InReach (low_of_term ts i) (top_of_term ts i)
  weights_near = weights_at ts b.each_limited

  pub occupied_near : (xs : List CountedTerm) (k : ℤ) → Occupied (parts_listed ts xs) k → Near k
  occupied_near [] k o = absurd o
  occupied_near (x ∷ xs) k (inl o) = let w = weights_near x.place in record {
    from = omega (arith, ints, o, listed_low ts x, w.low_from);
    upto = omega (arith, ints, o, listed_top ts x, w.top_upto);
  }
  occupied_near (x ∷ xs) k (inr o) = occupied_near xs k o

  pub first_near : (c : CountedTerm) → Spanning ts c → c.first ≤ℤ pos 60000000
  first_near c s = let w = weights_near c.place in omega (arith, ints, s.first, listed_top ts c, w.top_upto, floor_is (top (listed_part ts c) -ℤ pos 1))

  pub last_near : (c : CountedTerm) → Spanning ts c → Near c.last
  last_near c s = let w = weights_near c.place in record {
    from = omega (arith, ints, s.last, listed_low ts c, w.low_from, floor_is (low (listed_part ts c)));
    upto = omega (arith, ints, s.last, listed_low ts c, w.low_upto, floor_is (low (listed_part ts c)));
  }

  -- so all columns lie below the largest number of 32 bits
  pub first_of_all : (xs : List CountedTerm) → first_below (pos 2147483647) (columns (parts_listed ts xs)) ≡ first_column (columns (parts_listed ts xs))
  first_of_all xs = first_is (pos 2147483647) (columns (parts_listed ts xs)) (all_listed (columns (parts_listed ts xs)) (λ k i. let n = occupied_near xs k (columns_occupied (parts_listed ts xs) k i) in omega (arith, ints, n.upto)))
    where
      all_listed : (cs : List ℤ) → ((k : ℤ) → Listed cs k → k <ℤ pos 2147483647) → AllByRecursion (λ k. k <ℤ pos 2147483647) cs
      all_listed [] f = tt
      all_listed (c ∷ cs) f = (f c (inl refl), all_listed cs (λ k i. f k (inr i)))

  -- and none of them has a digit there
  pub none_high : (xs : List CountedTerm) (k : ℤ) → pos 60000000 ≤ℤ k → column_total (parts_listed ts xs) k ≡ pos 0
  none_high [] k h = refl
  none_high (x ∷ xs) k h =
      let w = weights_near x.place in
      ap₂ ◌+ℤ◌ (ap (signed (listed_part ts x).negative) (digit_above (listed_part ts x) k (omega (arith, ints, listed_top ts x, w.top_upto))) ∙ signed_nothing (listed_part ts x).negative) (none_high xs k h)

pub few_reach : (ts : List Term) (xs : List CountedTerm) (w : ℤ) → length xs ≤ 1024 → reaching_below (parts_listed ts xs) w ≤ 1024
few_reach ts xs w few = omega (arith, tally_le (λ p. lt_z (low p) w) (parts_listed ts xs), length-map xs (listed_part ts))
