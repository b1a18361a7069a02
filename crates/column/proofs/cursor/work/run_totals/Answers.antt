-- No total yet; one term more.
use Rattle.std.proofs.Common.{◌≡◌, ℕ, ◌^◌, ◌<◌, ◌≤◌, false, length, get_or, take, drop, ℤ, pos, ◌+ℤ◌, ◌-ℤ◌, nat_abs, sym, ap, ◌∙◌, subst, arith, rules, w32, to_z, of_z}
use Rattle.std.proofs.lemmas.List.{get_or-take, get_or_append_left, length-take-le, length-map}
use Rattle.exact.specs.Integers.{signed}
use Rattle.batch.specs.Lookup.{digit_of_term}
use Rattle.column.specs.declared.term.CountedTerm.{CountedTerm}
use Rattle.column.specs.Listed.{listed_part, parts_listed}
use Rattle.column.proofs.Gathering.{total_small, total_more}
use Rattle.column.proofs.RunTotals.{zeros}
use Rattle.column.proofs.cursor.work.run_totals.Goals as goal

-- what the list has past its end
abbrev blank : CountedTerm
blank = record { place = 0; negative = false; first = pos 0; last = pos 0 }

pub loop-term-init : goal.loop-term-init
loop-term-init g c j l = zeros 34 j

pub add_signed-requires-clause-small : goal.add_signed-requires-clause-small
add_signed-requires-clause-small g c j l =
    let ts = g.B.Batch.terms c.args.batch.now in
    let xs = c.args.terms.now in
    let i = c.loop-term.term-index in
    let h = c.args.height in
    let long : length c.loop-term.totals ≡ 34 = search rules in
    let within : j < h = omega (arith, length-take-le h c.loop-term.totals (omega (arith, long, c.requires.short)), l) in
    let few : length (parts_listed ts (take i xs)) ≤ 1024 = omega (arith, length-map (take i xs) (listed_part ts), length-take-le i xs c.loop-term.auto.term-index-end, c.loop-term.auto.term-index-end, c.requires.few) in
    subst (λ (z : ℤ). nat_abs z < 2 ^ 42) (sym (get_or-take h c.loop-term.totals j (pos 0) within ∙ c.loop-term.invariant j within)) (total_small (parts_listed ts (take i xs)) (to_z w32 (of_z w32 c.args.top) -ℤ pos j) few)

pub loop-term-preserved : goal.loop-term-preserved
loop-term-preserved g c j l =
    let ts = g.B.Batch.terms c.args.batch.now in
    let xs = c.args.terms.now in
    let i = c.loop-term.term-index in
    let h = c.args.height in
    let k = to_z w32 (of_z w32 c.args.top) -ℤ pos j in
    let long : length c.loop-term.totals ≡ 34 = search rules in
    let wide : length c.loop-term.digits ≡ 34 = search rules in
    let many = length-take-le h c.loop-term.totals (omega (arith, long, c.requires.short)) in
    let within : j < length (take h c.loop-term.totals) = omega (arith, many, l) in
    let read = get_or xs i blank in
    let digit : get_or c.digits.new.digits j 0 ≡ digit_of_term ts read.place k =
    c.digits.ensures.each j (omega (arith, length-take-le h c.loop-term.digits (omega (arith, wide, c.requires.short)), l)) ∙ ap (λ (n : ℕ). digit_of_term ts n k) c.from.ensures in
    get_or_append_left c.add_signed.new.totals (drop h c.loop-term.totals) (pos 0) j (omega (arith, c.add_signed.ensures.many, within))
    ∙ c.add_signed.ensures.each j within
    ∙ ap (λ (z : ℤ). z +ℤ signed read.negative (get_or c.digits.new.digits j 0)) (get_or-take h c.loop-term.totals j (pos 0) l ∙ c.loop-term.invariant j l)
    ∙ total_more ts xs i blank c.loop-term-test.true k (get_or c.digits.new.digits j 0) digit
