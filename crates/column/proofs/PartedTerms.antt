-- Terms brought before others, one after the other.
use Rattle.std.proofs.Common.{◌≡◌, ◌∙◌, ⊎_elim, ◌⊎◌, ℕ, ◌+◌, ◌<◌, ◌≤◌, List, length, get_or, ℤ, pos, ◌+ℤ◌, ◌≤ℤ◌, ◌<ℤ◌, sym, subst, inl, inr, arith}
use borrow.Author.Differences.{ints}
use Rattle.std.specs.List.{AllWithin, swap}
use Rattle.std.specs.List.Sorted.{IsPermutation}
use Rattle.std.proofs.lemmas.List.Edits.{swapped_from_swap}
use Rattle.std.proofs.lemmas.List.Sorted.{IsPermutation-trans, IsPermutation-swap, length_permutation}
use Rattle.std.proofs.lemmas.Bool.{cases_eq, cases_lt}
use Rattle.column.specs.declared.term.CountedTerm.{CountedTerm}
use Rattle.column.specs.declared.parting.Zones.{Zones}
use Rattle.column.specs.declared.term.Edge.{Edge}
use Rattle.column.specs.declared.term.Edge.TheVariants.{First, Last}
use Rattle.column.specs.Edges.{edge_column, From, Below, SameOutside}
use Rattle.column.specs.Zones.{Zoned}

-- ys is xs with those between the places from and i parted at the place `at`, where h is the highest end of those behind
pub record PartedAsFar (e : Edge) (k : ℤ) (xs ys : List CountedTerm) (from i at : ℕ) (h : ℤ) : Type 0 where
  pub permuted : IsPermutation xs ys
  pub outside : SameOutside xs ys from i
  pub after : from ≤ at
  pub before : at ≤ i
  pub forward : AllWithin (From e k) ys from at
  pub behind : AllWithin (Below e k h) ys at i

module _ (e : Edge) (k : ℤ) (xs ys : List CountedTerm) (from i at : ℕ) (h : ℤ) (w : PartedAsFar e k xs ys from i at h) where
  -- the next stays behind
  pub parted_left : ((d : CountedTerm) → edge_column e (get_or ys i d) <ℤ k) → (g : ℤ) → h ≤ℤ g → ((d : CountedTerm) → edge_column e (get_or ys i d) ≤ℤ g) → PartedAsFar e k xs ys from (i + 1) at g
  parted_left low g more most = record {
    permuted = w.permuted;
    outside = λ j d s. w.outside j d (outer j s);
    after = w.after;
    before = omega (arith, w.before);
    forward = w.forward;
    behind = λ j d a b. ⊎_elim (λ q. subst (λ (m : ℕ). Below e k g (get_or ys m d)) (sym q) (low d, most d)) (λ q. let l = w.behind j d a (omega arith) in (l.0, omega (arith, ints, l.1))) (cases_eq j i);
  }
    where
      outer : (j : ℕ) → (j < from) ⊎ (i + 1 ≤ j) → (j < from) ⊎ (i ≤ j)
      outer j (inl l) = inl l
      outer j (inr l) = inr (omega arith)

  -- the next comes before those behind
  module _ (zs : List CountedTerm) (in_list : i < length ys) (is : zs ≡ swap ys at i) (high : (d : CountedTerm) → k ≤ℤ edge_column e (get_or ys i d)) where
    swapped : (d : CountedTerm) → (get_or zs at d ≡ get_or ys i d) × (get_or zs i d ≡ get_or ys at d) × ((m : ℕ) → (m ≡ at → ⊥) → (m ≡ i → ⊥) → get_or zs m d ≡ get_or ys m d)
    swapped d = swapped_from_swap ys zs at i d (omega (arith, w.before)) in_list is

    outer : (j : ℕ) → (j < from) ⊎ (i + 1 ≤ j) → (d : CountedTerm) → get_or zs j d ≡ get_or xs j d
    outer j (inl l) d = (swapped d).2 j (λ q. omega (arith, w.after)) (λ q. omega (arith, w.after, w.before)) ∙ w.outside j d (inl l)
    outer j (inr l) d = (swapped d).2 j (λ q. omega (arith, w.before)) (λ q. omega arith) ∙ w.outside j d (inr (omega arith))

    pub parted_taken : PartedAsFar e k xs zs from (i + 1) (at + 1) h
    parted_taken = record {
      permuted = IsPermutation-trans xs ys zs w.permuted (IsPermutation-swap ys zs at i (omega (arith, w.before)) in_list is);
      outside = λ j d s. outer j s d;
      after = omega (arith, w.after);
      before = omega (arith, w.before);
      forward = λ j d a b. ⊎_elim
          (λ q. subst (λ (m : ℕ). From e k (get_or zs m d)) (sym q) (subst (From e k) (sym (swapped d).0) (high d)))
          (λ q. subst (From e k) (sym ((swapped d).2 j q (λ r. omega (arith, w.before)))) (w.forward j d a (omega arith)))
          (cases_eq j at);
      behind = λ j d a b. ⊎_elim
          (λ q. subst (λ (m : ℕ). Below e k h (get_or zs m d)) (sym q) (subst (Below e k h) (sym (swapped d).1) (w.behind at d (omega arith) (omega arith))))
          (λ q. subst (Below e k h) (sym ((swapped d).2 j (λ r. omega arith) q)) (w.behind j d (omega arith) (omega arith)))
          (cases_eq j i);
    }

-- ---- the zones for a run of columns from k down to b, below the column at which the terms stood
module _ (xs ys : List CountedTerm) (z : Zones) (from last k b : ℤ) (w : Zoned xs z from last) (lower : k <ℤ from) (permuted : IsPermutation xs ys) (outside : SameOutside xs ys z.ended z.begun) (at : ℕ) (after : z.ended ≤ at)
    (before : at ≤ z.begun) (forward : AllWithin (From Last (k +ℤ pos 1)) ys z.ended at) where
  long : length ys ≡ length xs
  long = length_permutation xs ys permuted

  passed_more : AllWithin (λ c. k <ℤ c.last) ys 0 at
  passed_more j d l u = ⊎_elim
      (λ r. subst (λ (c : CountedTerm). k <ℤ c.last) (sym (outside j d (inl r))) (let h = w.passed j d l r in omega (arith, ints)))
      (λ r. let h = forward j d r u in omega (arith, ints))
      (cases_lt j z.ended)

  -- where none of those that wait reaches the run
  pub zoned_ended : z.next_first <ℤ b → Zoned ys (record { ended = at; begun = z.begun; next_first = z.next_first }) k b
  zoned_ended none = record {
    order = before;
    within = omega (arith, long, w.within);
    passed = passed_more;
    waiting = λ j d l u.
        subst (Below First b z.next_first) (sym (outside j d (inr l))) (let h = (w.waiting j d l (omega (arith, long))).1 in (omega (arith, ints), h));
  }

  -- where those that do are brought forward
  pub zoned_begun : (zs : List CountedTerm) → IsPermutation ys zs → (n i : ℕ) (h : ℤ) → n ≡ length ys → SameOutside ys zs z.begun n → z.begun ≤ i → i ≤ n → AllWithin (Below First b h) zs i n
      → Zoned zs (record { ended = at; begun = i; next_first = h }) k b
  zoned_begun zs again n i h count outer later upto behind =
      let length_zs = length_permutation ys zs again in
      record {
        order = omega (arith, before);
        within = omega (arith, length_zs);
        passed = λ j d l u. subst (λ (c : CountedTerm). k <ℤ c.last) (sym (outer j d (inl (omega (arith, before))))) (passed_more j d l u);
        waiting = λ j d l u. behind j d l (omega (arith, length_zs));
      }

-- ---- the zones at a column further down
pub zoned_lower : (xs : List CountedTerm) (z : Zones) (k j b : ℤ) → j ≤ℤ k → Zoned xs z k b → Zoned xs z j b
zoned_lower xs z k j b h w = record { order = w.order; within = w.within; passed = λ i d l u. let p = w.passed i d l u in omega (arith, ints); waiting = w.waiting }
