-- The highest column below a limit that a term's weights lie in, as it is computed in 64 bits from weights of 32 bits; and the highest of all listed terms.
use Rattle.std.proofs.Common.{◌≡◌, true, false, List, [], ◌∷◌, ℤ, pos, ◌-ℤ◌, ◌≤ℤ◌, ◌<ℤ◌, Some, None, refl, ap, ◌∙◌, ap₂, arith, w32, w64, SFits, to_z, of_z}
use lib.Signed.{lt_z, shr_z}
use borrow.Author.Differences.{ints}
use Rattle.std.specs.Int.{int_min}
use Rattle.std.specs.List.{filter_map, reduce}
use Rattle.std.proofs.lemmas.Int.{clamps}
use Rattle.std.proofs.lemmas.Bool.{cond_both}
use Rattle.batch.specs.Term.{Term}
use Rattle.column.specs.declared.term.CountedTerm.{CountedTerm}
use Rattle.column.specs.Parts.{low as low_of, top as top_of}
use Rattle.column.specs.Columns.{Spans, Occupied, column_of}
use Rattle.column.specs.Edges.{picked}
use Rattle.column.specs.Listed.{listed_part, parts_listed, highest_occupied}
use Rattle.column.specs.Walk.{Highest, highest_spanned}
use Rattle.column.proofs.Descent.{Each, greatest_of_all}
use Rattle.column.proofs.Listing.{floor_is}

-- ---- the columns that some weights lie in
module _ (low top below : ℤ) where
  -- the highest of them, or the one just below the limit
  abbrev candidate : ℤ
  candidate = int_min (column_of (top -ℤ pos 1)) (below -ℤ pos 1)

  none_spanned : candidate <ℤ column_of low → Highest below (Spans low top) None
  none_spanned h k (a, b) l = omega (arith, ints, clamps, floor_is low, floor_is (top -ℤ pos 1))

  some_spanned : (c : ℤ) → c ≡ candidate → column_of low ≤ℤ c → Highest below (Spans low top) (Some c)
  some_spanned c e h = omega (arith, ints, clamps, floor_is low, floor_is (top -ℤ pos 1))

  spanned_is : Highest below (Spans low top) (highest_spanned low top below)
  spanned_is = grind (arith, ints, none_spanned, some_spanned)

-- the highest column of all is the greatest of those of each listed term
pub highest_of_all : (ts : List Term) (b : ℤ) (xs : List CountedTerm) → Highest b (Occupied (parts_listed ts xs)) (reduce picked (filter_map (highest_occupied ts b) xs))
highest_of_all ts b xs = greatest_of_all b (listed_part ts) (highest_occupied ts b) xs (each xs)
  where
    each : (xs : List CountedTerm) → Each b (listed_part ts) (highest_occupied ts b) xs
    each [] = tt
    each (x ∷ xs) = (spanned_is (low_of (listed_part ts x)) (top_of (listed_part ts x)) b, each xs)

-- ---- in 64 bits
-- a number as 64 bits keep it, and as 32 bits do
abbrev kept64 : ℤ → ℤ
kept64 z = to_z w64 (of_z w64 z)

abbrev kept32 : ℤ → ℤ
kept32 z = to_z w32 (of_z w32 z)

module _ (low top below : ℤ) (Fits-low : SFits w32 low) (fits-top : SFits w32 top) (Fits-below : SFits w32 below) where
  -- the code's numbers: low, top and below in 64 bits, and the highest column below the limit
  module _ (l t b r : ℤ) (l-is : l ≡ kept32 low) (t-is : t ≡ kept32 top) (b-is : b ≡ kept32 below) (r-is : r ≡ int_min (kept64 (shr_z (kept64 (kept64 t -ℤ pos 1)) 32)) (kept64 (kept64 b -ℤ pos 1))) where
    lowest_is : kept64 (shr_z (kept64 l) 32) ≡ column_of low
    lowest_is =
        let e : kept64 l ≡ low = omega (arith, ints) in
        let f = floor_is low in
        ap (λ (z : ℤ). kept64 (shr_z z 32)) e ∙ omega (arith, ints)

    highest_is : r ≡ candidate low top below
    highest_is =
        let e : kept64 (kept64 t -ℤ pos 1) ≡ top -ℤ pos 1 = omega (arith, ints) in
        let f = floor_is (top -ℤ pos 1) in
        let h : kept64 (shr_z (kept64 (kept64 t -ℤ pos 1)) 32) ≡ column_of (top -ℤ pos 1) = ap (λ (z : ℤ). kept64 (shr_z z 32)) e ∙ omega (arith, ints) in
        let g : kept64 (kept64 b -ℤ pos 1) ≡ below -ℤ pos 1 = omega (arith, ints) in
        r-is ∙ ap₂ int_min h g

    pub spans_none : lt_z (kept64 r) (kept64 (shr_z (kept64 l) 32)) ≡ true → None ≡ highest_spanned low top below
    spans_none h =
        let e = lowest_is in
        let f = highest_is in
        let g = floor_is (top -ℤ pos 1) in
        let k = floor_is low in
        cond_both (lt_z (candidate low top below) (column_of low)) None (Some (candidate low top below)) (λ o. None ≡ o) (λ y. refl) (λ n. absurd (omega (arith, ints, clamps)))

    pub highest_fits : lt_z (kept64 r) (kept64 (shr_z (kept64 l) 32)) ≡ false → SFits w32 (kept64 r)
    highest_fits h =
        let e = lowest_is in
        let f = highest_is in
        let g = floor_is (top -ℤ pos 1) in
        let k = floor_is low in
        omega (arith, ints, clamps)

    pub spans_some : lt_z (kept64 r) (kept64 (shr_z (kept64 l) 32)) ≡ false → Some (kept32 (kept64 r)) ≡ highest_spanned low top below
    spans_some h =
        let e = lowest_is in
        let f = highest_is in
        let g = floor_is (top -ℤ pos 1) in
        let k = floor_is low in
        let c : kept32 (kept64 r) ≡ candidate low top below = omega (arith, ints, clamps) in
        cond_both (lt_z (candidate low top below) (column_of low)) None (Some (candidate low top below)) (λ o. Some (kept32 (kept64 r)) ≡ o) (λ y. absurd (omega (arith, ints, clamps))) (λ n. ap Some c)
