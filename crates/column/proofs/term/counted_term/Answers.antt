-- The batch's weights are the part's, and their columns fit.
use Rattle.std.proofs.Common.{◌≡◌, ℤ, pos, ◌-ℤ◌, sym, ap, ◌∙◌, arith, w32, w64, to_z, of_z}
use borrow.Author.Differences.{ints}
use Rattle.column.specs.declared.term.CountedTerm.{CountedTerm}
use Rattle.column.specs.Columns.{column_of}
use Rattle.column.proofs.Lookups.{listed_low, listed_top}
use Rattle.column.proofs.Nearness.{weights_near}
use Rattle.column.proofs.term.counted_term.Goals as goal

pub column_of-requires : goal.column_of-requires
column_of-requires g c =
    let w = weights_near (g.B.Batch.terms c.args.batch.now) (g.B.Batch.limited c.args.batch.now) c.args.place in
    record { few = omega (arith, ints, c.from.ensures, c.top.ensures, w.top_from, w.top_upto) }

pub column_of-requires-2 : goal.column_of-requires-2
column_of-requires-2 g c =
    let w = weights_near (g.B.Batch.terms c.args.batch.now) (g.B.Batch.limited c.args.batch.now) c.args.place in
    record { few = omega (arith, ints, c.from-2.ensures, c.low.ensures, w.low_from, w.low_upto) }

pub returns-clause-spans : goal.returns-clause-spans
returns-clause-spans g c =
    let ts = g.B.Batch.terms c.args.batch.now in
    let x : CountedTerm = record { place = c.args.place; negative = c.args.negative; first = to_z w32 (of_z w32 c.column_of.result); last = to_z w32 (of_z w32 c.column_of-2.result) } in
    let top : to_z w64 (of_z w64 (to_z w64 (of_z w64 c.from.result) -ℤ pos 1)) ≡ c.top.result -ℤ pos 1 = omega (arith, ints, c.from.ensures, c.top.type_inv) in
    let low : to_z w64 (of_z w64 c.from-2.result) ≡ c.low.result = omega (arith, ints, c.from-2.ensures, c.low.type_inv) in
    let first : to_z w32 (of_z w32 c.column_of.result) ≡ c.column_of.result = omega (arith, ints, c.column_of.type_inv) in
    let last : to_z w32 (of_z w32 c.column_of-2.result) ≡ c.column_of-2.result = omega (arith, ints, c.column_of-2.type_inv) in
    record {
      first = first ∙ c.column_of.ensures ∙ ap column_of (top ∙ ap (λ (z : ℤ). z -ℤ pos 1) (c.top.ensures ∙ sym (listed_top ts x)));
      last = last ∙ c.column_of-2.ensures ∙ ap column_of (low ∙ c.low.ensures ∙ sym (listed_low ts x));
    }
