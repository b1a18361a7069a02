-- One turn of the descent through the columns of listed terms, with each number as the code passes it on.
use Rattle.std.proofs.Common.{◌≡◌, ℕ, ◌^◌, ◌<◌, ◌≤◌, ℤ, nat_abs, List, Some, None, Option, refl, sym, ap, ap₂, ◌∙◌, subst, arith, w32, w64, to_z, of_z}
use borrow.Author.Differences.{ints}
use Rattle.grid.specs.Spacing.{Lawful}
use Rattle.grid.specs.Rounding.{Mode}
use Rattle.batch.specs.Term.{column_weight}
use Rattle.batch.specs.declared.interface.Batch.{Ghosts}
use Rattle.ends.specs.declared.rounded_end.RoundedEnd.{RoundedEnd}
use Rattle.column.specs.declared.cursor.ColumnCursor.{ColumnCursor}
use Rattle.column.specs.Parts.{Part}
use Rattle.column.specs.Columns.{columns, column_total, Occupied, Listed}
use Rattle.column.specs.ColumnCursor.{listed_parts, standing, SameColumns}
use Rattle.column.specs.Ends.{reaching_below}
use Rattle.column.specs.Walk.{first_column, first_below, Highest}
use Rattle.column.specs.Claims.{StartsWith, GoesOnWith}
use Rattle.column.proofs.Descent.{highest_listed}
use Rattle.column.proofs.Laws.{sum_goes_on}
use Rattle.column.proofs.Listing.{columns_fall, columns_occupied, occupied_columns}
use Rattle.column.proofs.Nearness.{Near, occupied_near, few_reach}
use Rattle.partial_sum.specs.Holding.{Absorbs}
use Rattle.partial_sum.specs.Limits.{most_total, InReach}
use Rattle.partial_sum.specs.Ends.{Reached}
use Rattle.partial_sum.specs.Rounded.{Undecided, Decided}
use Rattle.depth.specs.declared.descent.Descent.{Descent}
use Rattle.depth.specs.Rounded.{RoundedTo}
use Rattle.depth.specs.Descending.{Begun, GoneOn, Stands}
use Rattle.depth.proofs.Settled.{decided_rounds}
use Rattle.depth.proofs.Descending.{left, first_near, begun_stands, depth_few, lowest_near, next_near, stands_reached, absorbs_next, gone_on_stands, fewer_left}

-- a column and a total as they are passed, in 32 and in 64 bits
abbrev pub column_passed : ℤ → ℤ
column_passed k = to_z w32 (of_z w32 k)

abbrev pub total_passed : ℤ → ℤ
total_passed t = to_z w64 (of_z w64 t)

near_passed : (k : ℤ) → Near k → column_passed k ≡ k
near_passed k n = omega (arith, ints, n.from, n.upto)

small_passed : (t : ℤ) → nat_abs t < 2 ^ 42 → total_passed t ≡ t
small_passed t h = omega (arith, ints)

-- the first below a column is the highest of the occupied ones
highest_found : (ps : List Part) (b : ℤ) (r : Option ℤ) → r ≡ first_below b (columns ps) → Highest b (Occupied ps) r
highest_found ps b r e = occupied_too r (subst (Highest b (Listed (columns ps))) (sym e) (highest_listed b (columns ps) (columns_fall ps)))
  where
    occupied_too : (r : Option ℤ) → Highest b (Listed (columns ps)) r → Highest b (Occupied ps) r
    occupied_too None h = λ k o l. h k (occupied_columns ps k o) l
    occupied_too (Some c) h = (columns_occupied ps c h.0, h.1, λ k o l. h.2 k (occupied_columns ps k o) l)

pub same_trans : (ps qs rs : List Part) → SameColumns ps qs → SameColumns qs rs → SameColumns ps rs
same_trans ps qs rs a b = record { occupied = b.occupied ∙ a.occupied; totals = λ k. b.totals k ∙ a.totals k; reaching = λ w. b.reaching w ∙ a.reaching w }

-- before a turn the descent s stands at the column of the terms ds, which have the columns of the parts ps
pub record Turn {B : Type 0} {CAP : ℕ} {G : Ghosts B} (u : ℤ → ℤ) (m : Mode) (ps : List Part) (ds : ColumnCursor B CAP G) (s : Descent) : Type 0 where
  pub stands : Stands u m ps s
  pub same : SameColumns ps (listed_parts ds)
  pub there : standing ds ≡ s.column

module _ {B : Type 0} {CAP : ℕ} {G : Ghosts B} (cs : ColumnCursor B CAP G) (u : ℤ → ℤ) (m : Mode) where
  abbrev parts : List Part
  parts = listed_parts cs

  near : (k : ℤ) → Occupied parts k → Near k
  near = occupied_near (G.terms cs.batch.now) (G.limited cs.batch.now) cs.terms.items

  few : (w : ℤ) → reaching_below parts w ≤ 1024
  few w = few_reach (G.terms cs.batch.now) cs.terms.items w cs.fits

  -- the first column
  pub starts_off : (c t : ℤ) (n : ℕ) (s : Descent) → Some c ≡ first_column (columns parts) → nat_abs t < 2 ^ 42 → StartsWith parts (column_passed c) t
      → n ≡ reaching_below parts (column_weight (column_passed c)) → Begun (total_passed t) n (column_passed c) s → Stands u m parts s
  starts_off c t n s first small starts reach b =
      let at = near_passed c (first_near u m parts cs.regular near c first) in
      begun_stands u m parts cs.regular near (column_passed c) (total_passed t) n s (ap Some at ∙ first)
      (subst (StartsWith parts (column_passed c)) (sym (small_passed t small)) starts) reach b

  module _ (ds : ColumnCursor B CAP G) (s : Descent) (turn : Turn u m parts ds s) where
    abbrev st : Stands u m parts s
    st = turn.stands

    pub reaching_fits : s.reaching ≤ 1024
    reaching_fits = omega (arith, few (column_weight s.column), st.reaching)

    pub lowest_in : InReach s.sum.lowest
    lowest_in = let k = lowest_near u m parts cs.regular near s st in record { from = k.from; upto = k.upto }

    pub depth_in : s.depth ≤ 120000001
    depth_in = depth_few u m parts cs.regular near s st

    -- what is found below the column
    module _ (below : Option ℤ) (told : below ≡ first_below (standing ds) (columns (listed_parts ds))) where
      found : below ≡ first_below s.column (columns parts)
      found = told ∙ ap₂ first_below turn.there turn.same.occupied

      highest : Highest s.column (Occupied parts) below
      highest = highest_found parts s.column below found

      pub reached : Reached s.sum s.reaching below
      reached = stands_reached u m parts cs.regular near s st below highest (few (column_weight s.column))

      pub settles : (W : ℕ) → Lawful u W → (r : RoundedEnd) (a : ℕ) → Decided u m s.sum s.reaching below r a → RoundedTo u m parts r s.depth a
      settles W lawful r a d = decided_rounds u m parts s st W lawful cs.regular below found r a d

      -- the ends do not round alike, and d is the next column
      module _ (undecided : Undecided u m s.sum s.reaching below) (d : ℤ) (is : below ≡ Some d) where
        pub passed : column_passed d ≡ d
        passed = near_passed d (next_near u m parts cs.regular near s st s.column below highest d is)

        next_is : below ≡ Some (column_passed d)
        next_is = is ∙ ap Some (sym passed)

        pub absorbs : (t : ℤ) → nat_abs t < 2 ^ 42 → Absorbs s.sum (total_passed t) (column_passed d)
        absorbs t small =
            let h : nat_abs (total_passed t) < most_total = subst (λ (z : ℤ). nat_abs z < most_total) (sym (small_passed t small)) small in
            absorbs_next u m parts cs.regular near s st s.column refl below found highest undecided (column_passed d) next_is (total_passed t) h

        pub less_left : (q : Descent) → q.column ≡ column_passed d → left q < left s
        less_left q e = fewer_left u m parts cs.regular near s st s.column refl below found highest undecided (column_passed d) next_is q e

        pub goes_on : (es : ColumnCursor B CAP G) (t : ℤ) (n : ℕ) (q : Descent) → nat_abs t < 2 ^ 42 → t ≡ column_total (listed_parts ds) (column_passed d)
            → n ≡ reaching_below (listed_parts ds) (column_weight (column_passed d)) → SameColumns (listed_parts ds) (listed_parts es) → standing es ≡ column_passed d
            → GoneOn s (total_passed t) n (column_passed d) q → Turn u m parts es q
        goes_on es t n q small total reach same there g =
            let k = column_passed d in
            let sum : total_passed t ≡ column_total parts k = small_passed t small ∙ total ∙ turn.same.totals k in
            let goes = subst (GoesOnWith parts k) (sym sum) (sum_goes_on parts k) in
            record {
              stands = gone_on_stands u m parts cs.regular near s st s.column refl below found highest undecided k next_is (total_passed t) n q goes (reach ∙ turn.same.reaching (column_weight k)) g;
              same = same_trans parts (listed_parts ds) (listed_parts es) turn.same same;
              there = there ∙ sym g.at;
            }
