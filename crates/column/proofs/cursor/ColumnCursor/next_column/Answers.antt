-- The column right below, or the highest of the terms' highest columns, is the highest of all below.
use Rattle.std.proofs.Common.{◌≡◌, ◌-◌, List, take, ℤ, pos, ◌-ℤ◌, neg_ℤ, ◌<ℤ◌, Some, arith, rules, sym, ap, ap₂, ◌∙◌, subst, w32, SFits, to_z, of_z}
use borrow.Author.Differences.{ints}
use Rattle.std.specs.List.{list_any, filter_map, reduce}
use Rattle.std.proofs.lemmas.Int.{to_z-of_z}
use Rattle.column.specs.declared.term.CountedTerm.{CountedTerm}
use Rattle.column.specs.ColumnCursor.{listed_parts}
use Rattle.column.specs.Columns.{Occupied}
use Rattle.column.specs.Edges.{occupies_next, highest_below, picked}
use Rattle.column.specs.Walk.{Highest}
use Rattle.column.proofs.Descent.{first_below_is}
use Rattle.column.proofs.NextColumn.{found_next, found_left, sound_listed, sliced_from, all_within}
use Rattle.column.proofs.cursor.ColumnCursor.next_column.Given.{Over}
use Rattle.column.proofs.cursor.ColumnCursor.next_column.Goals as goal

-- where a term that has begun occupies the column right below
right_below : (g : Over) (c : goal.After-result-1 g) → Highest c.args.self.now.column (Occupied (listed_parts c.args.self.now)) (Some (c.args.self.now.column -ℤ pos 1)) × (neg_ℤ (pos 60000000) <ℤ c.args.self.now.column)
right_below g c =
    let x = c.args.self.now in
    let ts = g.B.Batch.terms x.batch.now in
    let limited = g.B.Batch.limited x.batch.now in
    let fits : SFits w32 x.column = search rules in
    let m = x.zones.begun - x.zones.ended in
    let left = sliced_from x.zones.ended c.as_slice.result.now x.terms.items c.as_slice.ensures.value in
    let some = ap₂ (λ (b : ℤ) (ys : List CountedTerm). list_any (occupies_next b) (take m ys)) (sym (to_z-of_z w32 x.column fits)) (sym left) in
    found_next ts limited x.column x.terms.items (sound_listed ts x.terms.items x.spans x.regular) x.zones.ended m (some ∙ sym c.any_occupies_next.ensures ∙ c.if-any_occupies_next.true)

-- the code's number for it
as_kept : (g : Over) (c : goal.After-result-1 g) → c.args.self.now.column -ℤ pos 1 ≡ to_z w32 (of_z w32 (to_z w32 (of_z w32 c.args.self.now.column) -ℤ pos 1))
as_kept g c =
    let r = right_below g c in
    let fits : SFits w32 c.args.self.now.column = search rules in
    omega (arith, ints, r.1, to_z-of_z w32 c.args.self.now.column fits, fits.sfits)

-- else the highest of those that are left
others : (g : Over) (c : goal.After-highest_below g) → Highest c.args.self.now.column (Occupied (listed_parts c.args.self.now)) c.highest_below.result
others g c =
    let x = c.args.self.now in
    let ts = g.B.Batch.terms x.batch.now in
    let limited = g.B.Batch.limited x.batch.now in
    let fits : SFits w32 x.column = search rules in
    let e = x.zones.ended in
    let left = sliced_from e c.as_slice.result.now x.terms.items c.as_slice.ensures.value in
    let found = ap₂ (λ (b : ℤ) (ys : List CountedTerm). reduce picked (filter_map (highest_below b) ys)) (sym (to_z-of_z w32 x.column fits)) (sym left) in
    subst (Highest x.column (Occupied (listed_parts x))) (found ∙ sym c.highest_below.ensures)
    (found_left ts limited x.column x.terms.items (sound_listed ts x.terms.items x.spans x.regular) e (all_within (λ y. x.column <ℤ y.last) e x.terms.items (omega (arith, x.zoned.order, x.zoned.within)) x.zoned.passed))

pub overflow_sub-result : goal.overflow_sub-result
overflow_sub-result g c =
    let r = right_below g c in
    let fits : SFits w32 c.args.self.now.column = search rules in
    omega (arith, ints, r.1, to_z-of_z w32 c.args.self.now.column fits, fits.sfits)

pub returns-then-any_occupies_next-clause-next : goal.returns-then-any_occupies_next-clause-next
returns-then-any_occupies_next-clause-next g c = ap Some (sym (as_kept g c)) ∙ first_below_is c.args.self.now.column (listed_parts c.args.self.now) _ (right_below g c).0

pub returns-then-any_occupies_next-clause-highest : goal.returns-then-any_occupies_next-clause-highest
returns-then-any_occupies_next-clause-highest g c = subst (λ (k : ℤ). Highest c.args.self.now.column (Occupied (listed_parts c.args.self.now)) (Some k)) (as_kept g c) (right_below g c).0

pub returns-else-any_occupies_next-clause-next : goal.returns-else-any_occupies_next-clause-next
returns-else-any_occupies_next-clause-next g c = first_below_is _ _ _ (others g c)

pub returns-else-any_occupies_next-clause-highest : goal.returns-else-any_occupies_next-clause-highest
returns-else-any_occupies_next-clause-highest g c = others g c
