-- Where the two ends round alike, the exact sum rounds as they do, and the column's number is the depth.
use Rattle.std.proofs.Common.{◌≡◌, ℕ, List, ℤ, Option, sym, ap, ◌∙◌, subst}
use Rattle.exact.specs.Dyadic.{Dyadic}
use Rattle.exact.proofs.Order.{≈ᴰ_trans}
use Rattle.grid.specs.Spacing.{Lawful}
use Rattle.grid.specs.Rounding.{Mode, Answer, rounded, Alike}
use Rattle.batch.specs.Term.{column_weight}
use Rattle.ends.specs.Directions.{direction_sign}
use Rattle.ends.specs.Outcome.{number_told, RoundsAs}
use Rattle.ends.specs.declared.rounded_end.RoundedEnd.{RoundedEnd}
use Rattle.column.specs.Parts.{Part, Regular, exact_sum}
use Rattle.column.specs.Columns.{columns}
use Rattle.column.specs.Ends.{reaching_below, lower_end, upper_end}
use Rattle.column.specs.Walk.{first_column, first_below}
use Rattle.column.proofs.Depths.{answer_right}
use Rattle.column.proofs.Walking.{next_listed, walk_ends}
use Rattle.partial_sum.specs.Ends.{lower_number, upper_number}
use Rattle.partial_sum.specs.Rounded.{Decided}
use Rattle.partial_sum.proofs.Joining.{ends_are_ends}
use Rattle.depth.specs.declared.descent.Descent.{Descent}
use Rattle.depth.specs.Rounded.{RoundedTo}
use Rattle.depth.specs.Descending.{Stands}

alike_trans : (a b c : Answer) → Alike a b → Alike b c → Alike a c
alike_trans a b c k l = record { values = ≈ᴰ_trans a.value b.value c.value k.values l.values; signs = k.signs ∙ l.signs; directions = k.directions ∙ l.directions }

module _ (u : ℤ → ℤ) (m : Mode) (ps : List Part) (s : Descent) (st : Stands u m ps s) where
  -- the next column that is found is the next of the columns to come
  pub next_is : (below : Option ℤ) → below ≡ first_below s.column (columns ps) → below ≡ first_column st.further
  next_is below e = e ∙ next_listed ps s.column st.further st.walked.to_come

  -- so the ends of the partial sum are those of the parts
  pub lower_is : (below : Option ℤ) → below ≡ first_below s.column (columns ps) → lower_number s.sum s.reaching below ≡ lower_end ps s.column st.further
  lower_is below e =
      ap (λ (n : ℕ). lower_number s.sum n below) st.reaching
      ∙ ap (lower_number s.sum (reaching_below ps (column_weight s.column))) (next_is below e)
      ∙ (ends_are_ends ps s.sum s.column st.further st.holds).lower

  pub upper_is : (below : Option ℤ) → below ≡ first_below s.column (columns ps) → upper_number s.sum s.reaching below ≡ upper_end ps s.column st.further
  upper_is below e =
      ap (λ (n : ℕ). upper_number s.sum n below) st.reaching
      ∙ ap (upper_number s.sum (reaching_below ps (column_weight s.column))) (next_is below e)
      ∙ (ends_are_ends ps s.sum s.column st.further st.holds).upper

  -- the two ends of the parts round alike
  abbrev pub EndsAlike : Type 0
  EndsAlike = Alike (rounded u m (lower_end ps s.column st.further)) (rounded u m (upper_end ps s.column st.further))

  pub decided_rounds : (W : ℕ) → Lawful u W → Regular ps → (below : Option ℤ) → below ≡ first_below s.column (columns ps) → (r : RoundedEnd) (a : ℕ)
      → Decided u m s.sum s.reaching below r a → RoundedTo u m ps r s.depth a
  decided_rounds W lawful regular below e r a d =
      let low = lower_end ps s.column st.further in
      let alike : EndsAlike =
      subst (λ (x : Dyadic). Alike (rounded u m low) (rounded u m x)) (upper_is below e) (subst (λ (x : Dyadic). Alike (rounded u m x) (rounded u m (upper_number s.sum s.reaching below))) (lower_is below e) d.alike) in
      let ends = walk_ends u m ps st.passed s.column st.further st.walked alike in
      let near = subst (λ (x : Dyadic). RoundsAs u m x r.negative r.extent a (direction_sign r.direction)) (lower_is below e) d.rounds in
      let right = subst (Alike (rounded u m (exact_sum ps))) ends.1 (answer_right u W lawful m ps regular) in
      record {
        limbs = d.limbs;
        rounds = alike_trans (rounded u m (exact_sum ps)) (rounded u m low) (record { value = number_told r.negative r.extent a; negative = r.negative; direction = direction_sign r.direction }) right near;
        deep = st.counted ∙ sym ends.0;
      }
