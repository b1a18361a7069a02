-- A descent stands at its first column, and after each column more as long as the ends do not round alike.
use Rattle.std.proofs.Common.{◌≡◌, ℕ, ◌+◌, ◌<◌, ◌≤◌, List, [], ◌∷◌, ◌++◌, ℤ, pos, neg_ℤ, nat_abs, ◌≤ℤ◌, ◌<ℤ◌, Some, None, Option, sym, refl, ap, ◌∙◌, subst, inl, inr, arith}
use borrow.Author.Differences.{ints}
use Rattle.exact.specs.Dyadic.{Dyadic}
use Rattle.exact.specs.Integers.{gap}
use Rattle.grid.specs.Rounding.{Mode, rounded, Alike}
use Rattle.batch.specs.Term.{column_weight}
use Rattle.column.specs.Parts.{Part, Regular}
use Rattle.column.specs.Columns.{columns, Occupied, Listed}
use Rattle.column.specs.Ends.{reaching_below, sum_down_to, upper_end}
use Rattle.column.specs.Walk.{first_column, first_below, Highest}
use Rattle.column.specs.Claims.{DownFrom, StartsWith, GoesOnWith, Walked}
use Rattle.column.proofs.Depths.{some_column}
use Rattle.column.proofs.Listing.{columns_occupied}
use Rattle.column.proofs.Walking.{walk_starts, walk_goes_on}
use Rattle.partial_sum.specs.Holding.{Absorbs}
use Rattle.partial_sum.specs.Limits.{most_total}
use Rattle.partial_sum.specs.Ends.{lower_number, Reached}
use Rattle.partial_sum.specs.Joints.{Holds}
use Rattle.partial_sum.specs.Rounded.{Undecided, UndecidedBefore}
use Rattle.partial_sum.proofs.Joining.{columns_reached, sums_absorbed}
use Rattle.depth.specs.declared.descent.Descent.{Descent}
use Rattle.depth.specs.Descending.{Begun, GoneOn, Stands}
use Rattle.column.proofs.Nearness.{Near}
use Rattle.depth.proofs.Settled.{EndsAlike, next_is, lower_is, upper_is}

-- how many columns there can be from this one down
abbrev pub left : Descent → ℕ
left s = gap s.column (neg_ℤ (pos 60000001))

-- ---- the first column
listed_first : (c : ℤ) (l : List ℤ) → Some c ≡ first_column l → (cs : List ℤ) × (l ≡ c ∷ cs)
listed_first c [] e = let z : ◌≡◌ {A = ℕ} 0 1 = cc in absurd (omega arith)
listed_first c (d ∷ ds) e = let h : d ≡ c = cc in (ds, ap (λ (x : ℤ). x ∷ ds) h)

-- without a first column there is no part
pub no_part : (ps : List Part) → Regular ps → None ≡ first_column (columns ps) → ps ≡ []
no_part [] regular e = refl
no_part (p ∷ ps) regular e = absurd (some_column p ps regular (no_column (columns (p ∷ ps)) e))
  where
    no_column : (l : List ℤ) → None ≡ first_column l → l ≡ []
    no_column [] e = refl
    no_column (c ∷ cs) e = let z : ◌≡◌ {A = ℕ} 0 1 = cc in absurd (omega arith)

-- a column to come is occupied
to_come_occupied : (ps : List Part) (c : ℤ) (cs : List ℤ) → DownFrom ps (c ∷ cs) → Occupied ps c
to_come_occupied ps c cs (above, e) = columns_occupied ps c (subst (λ (l : List ℤ). Listed l c) (sym e) (past above))
  where
    past : (above : List ℤ) → Listed (above ++ (c ∷ cs)) c
    past [] = inl refl
    past (x ∷ above) = inr (past above)

module _ (u : ℤ → ℤ) (m : Mode) (ps : List Part) (regular : Regular ps) (near : (k : ℤ) → Occupied ps k → Near k) where
  pub first_near : (c : ℤ) → Some c ≡ first_column (columns ps) → Near c
  first_near c e = let l = listed_first c (columns ps) e in near c (to_come_occupied ps c l.0 ([], l.1))

  pub begun_stands : (c t : ℤ) (n : ℕ) (s : Descent) → Some c ≡ first_column (columns ps) → StartsWith ps c t → n ≡ reaching_below ps (column_weight c) → Begun t n c s → Stands u m ps s
  begun_stands c t n s e starts reach b =
      let l = listed_first c (columns ps) e in
      let down : Walked u m ps 0 (c ∷ l.0) = subst (Walked u m ps 0) l.1 (walk_starts u m ps) in
      let k = near c (to_come_occupied ps c l.0 down.to_come) in
      record {
        holds = record { value = b.sum ∙ sym (starts regular l.0 l.1) ∙ ap (λ (z : ℤ). (sum_down_to ps z).count) (sym b.at); at = b.sum_at ∙ sym b.at };
        reaching = b.reaching ∙ reach ∙ ap (λ (z : ℤ). reaching_below ps (column_weight z)) (sym b.at);
        passed = 0;
        further = l.0;
        walked = subst (λ (z : ℤ). Walked u m ps 0 (z ∷ l.0)) (sym b.at) down;
        counted = b.first;
        not_high = subst (λ (z : ℤ). z ≤ℤ pos 60000000) (sym b.lowest) k.upto;
        not_far = omega (arith, ints, b.at, b.first, k.upto);
      }

  module _ (s : Descent) (st : Stands u m ps s) where
    pub stands_near : Near s.column
    stands_near = near s.column (to_come_occupied ps s.column st.further st.walked.to_come)

    pub depth_few : s.depth ≤ 120000001
    depth_few = let k = stands_near in omega (arith, ints, k.from, st.not_far)

    pub lowest_near : Near s.sum.lowest
    lowest_near = let k = stands_near in record { from = omega (arith, ints, k.from, s.sum.sound.shaped.order, st.holds.at); upto = st.not_high }

    -- a next column is near too
    pub next_near : (c : ℤ) (below : Option ℤ) → Highest c (Occupied ps) below → (d : ℤ) → below ≡ Some d → Near d
    next_near c below highest d is = near d (subst (Highest c (Occupied ps)) is highest).0

    pub stands_reached : (below : Option ℤ) → Highest s.column (Occupied ps) below → reaching_below ps (column_weight s.column) ≤ 1024 → Reached s.sum s.reaching below
    stands_reached below highest few = subst (λ (n : ℕ). Reached s.sum n below) (sym st.reaching) (columns_reached ps s.sum s.column below st.holds highest few)

    -- ---- one column more: d is the next below the column c of the descent, and the ends do not round alike
    module _ (c : ℤ) (at : c ≡ s.column) (below : Option ℤ) (found : below ≡ first_below c (columns ps)) (highest : Highest c (Occupied ps) below)
        (undecided : Undecided u m s.sum s.reaching below) (d : ℤ) (is : below ≡ Some d) where
      found_next : Some d ≡ first_below s.column (columns ps)
      found_next = sym is ∙ found ∙ ap (λ (z : ℤ). first_below z (columns ps)) at

      highest_next : Highest s.column (Occupied ps) (Some d)
      highest_next = subst (λ (z : ℤ). Highest z (Occupied ps) (Some d)) at (subst (Highest c (Occupied ps)) is highest)

      before : UndecidedBefore u m s.sum s.reaching d
      before = subst (Undecided u m s.sum s.reaching) is undecided

      pub absorbs_next : (t : ℤ) → nat_abs t < most_total → Absorbs s.sum t d
      absorbs_next t small = record {
        further = subst (λ (z : ℤ). d <ℤ z) (sym st.holds.at) highest_next.1;
        total = omega arith;
        rest_few = before.rest_few;
        rest_none = before.rest_none;
      }

      apart : ¬ EndsAlike u m ps s st
      apart a =
          let lower = lower_is u m ps s st (Some d) found_next in
          let upper = upper_is u m ps s st (Some d) found_next in
          let half = subst (λ (x : Dyadic). Alike (rounded u m x) (rounded u m (upper_end ps s.column st.further))) (sym lower) a in
          before.apart (subst (λ (x : Dyadic). Alike (rounded u m (lower_number s.sum s.reaching (Some d))) (rounded u m x)) (sym upper) half)

      pub gone_on_stands : (t : ℤ) (n : ℕ) (q : Descent) → GoesOnWith ps d t → n ≡ reaching_below ps (column_weight d) → GoneOn s t n d q → Stands u m ps q
      gone_on_stands t n q goes reach g =
          let l = listed_first d st.further (next_is u m ps s st (Some d) found_next) in
          let on = walk_goes_on u m ps st.passed s.column st.further st.walked apart in
          let down = subst (Walked u m ps (st.passed + 1)) l.1 on in
          let both = subst (λ (cs : List ℤ). DownFrom ps (s.column ∷ cs)) l.1 st.walked.to_come in
          let holds = sums_absorbed ps s.sum q.sum s.column d t l.0 regular st.holds both goes g.sum in
          let lower = highest_next.1 in
          record {
            holds = subst (Holds ps q.sum) (sym g.at) holds;
            reaching = g.reaching ∙ reach ∙ ap (λ (z : ℤ). reaching_below ps (column_weight z)) (sym g.at);
            passed = st.passed + 1;
            further = l.0;
            walked = subst (λ (z : ℤ). Walked u m ps (st.passed + 1) (z ∷ l.0)) (sym g.at) down;
            counted = g.deeper ∙ ap (λ (k : ℕ). k + 1) st.counted;
            not_high = omega (arith, ints, g.sum.no_higher, st.not_high);
            not_far = omega (arith, ints, g.at, g.deeper, lower, st.not_far);
          }

      -- the columns left above the lowest that there can be are fewer
      pub fewer_left : (q : Descent) → q.column ≡ d → left q < left s
      fewer_left q at = let k = stands_near in let lower = highest_next.1 in omega (arith, ints, k.from)
