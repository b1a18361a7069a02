-- One term more: its digit is added with its sign, and no sum overflows.
use Rattle.std.proofs.Common.{◌≡◌, ℕ, ◌^◌, ◌<◌, ◌≤◌, false, length, get_or, take, ℤ, pos, ◌+ℤ◌, nat_abs, sym, ap, ◌∙◌, subst, arith, w32, w64, SFits, to_z, of_z}
use Rattle.std.proofs.lemmas.List.{length-take-le, length-map}
use Rattle.exact.specs.Integers.{signed}
use Rattle.batch.specs.Lookup.{digit_of_term}
use Rattle.column.specs.declared.term.CountedTerm.{CountedTerm}
use Rattle.column.specs.Listed.{listed_part, parts_listed}
use Rattle.column.proofs.Gathering.{total_small, total_more}
use Rattle.column.proofs.RunTotals.{sum_grown}
use Rattle.column.proofs.run.total_of.Given.{Over}
use Rattle.column.proofs.run.total_of.Goals as goal

-- what the list has past its end
abbrev blank : CountedTerm
blank = record { place = 0; negative = false; first = pos 0; last = pos 0 }

-- the sum of the total so far and the next digit
grown : (g : Over) (c : goal.After-signed-total g)
    → SFits w64 (to_z w64 c.loop-term.total-bits +ℤ to_z w64 (of_z w64 c.signed-total.result))
    × (to_z w64 (of_z w64 (to_z w64 c.loop-term.total-bits +ℤ to_z w64 (of_z w64 c.signed-total.result))) ≡ to_z w64 c.loop-term.total-bits +ℤ signed (get_or c.args.terms.now c.loop-term.term-index blank).negative c.digit.result)
grown g c =
    let ts = g.B.Batch.terms c.args.batch.now in
    let xs = c.args.terms.now in
    let i = c.loop-term.term-index in
    let few : length (parts_listed ts (take i xs)) ≤ 1024 = omega (arith, length-map (take i xs) (listed_part ts), length-take-le i xs c.loop-term.auto.term-index-end, c.loop-term.auto.term-index-end, c.requires) in
    let small : nat_abs (to_z w64 c.loop-term.total-bits) < 2 ^ 42 = subst (λ (z : ℤ). nat_abs z < 2 ^ 42) (sym c.loop-term.invariant) (total_small (parts_listed ts (take i xs)) (to_z w32 (of_z w32 c.args.column)) few) in
    sum_grown (to_z w64 c.loop-term.total-bits) (get_or xs i blank).negative c.digit.result c.signed-total.result small c.digit.type_inv c.signed-total.ensures

pub overflow_add-total : goal.overflow_add-total
overflow_add-total g c = (grown g c).0

pub loop-term-preserved : goal.loop-term-preserved
loop-term-preserved g c =
    let ts = g.B.Batch.terms c.args.batch.now in
    let xs = c.args.terms.now in
    let i = c.loop-term.term-index in
    let k = to_z w32 (of_z w32 c.args.column) in
    let r = c.digit.result in
    let digit : r ≡ digit_of_term ts (get_or xs i blank).place k = c.digit.ensures ∙ ap (λ (n : ℕ). digit_of_term ts n k) c.from.ensures in
    (grown g c).1
    ∙ ap (λ (z : ℤ). z +ℤ signed (get_or xs i blank).negative r) c.loop-term.invariant
    ∙ total_more ts xs i blank c.loop-term-test.true k r digit
