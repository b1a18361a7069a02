use Rattle.std.proofs.Common.{◌≡◌, ◌+◌, ◌*◌, ◌/◌, ◌%◌, ◌^◌, pos, ◌+ℤ◌, nat_abs, sym, ap, ◌∙◌, arith, w32, of_z, to_z, rules}
use Rattle.std.proofs.lemmas.Int.{ints}
use Rattle.std.specs.Int.{int_div_euclid, int_rem_euclid}
use Rattle.batch.specs.Term.{regular, digit_at, whole_units, column_weight}
use Rattle.term_writer.proofs.Lookups.{lookup_found}
use Rattle.term_writer.proofs.Columns.{weight_in_column, bits_in_columns}
use Rattle.term_writer.proofs.significand.bits_from.Goals as goal

pub returns : goal.returns
returns g c =
    λ s m q at.
    let ts = g.B.Batch.terms c.args.batch.now in
    let k = c.div_euclid-column.result in
    let (shift, rem, small, splits) = weight_in_column c.args.weight in
    let from : to_z w32 (of_z w32 c.args.weight) ≡ c.args.weight = search rules in
    let found = c.div_euclid-column.ensures ∙ ap (λ y. int_div_euclid y (pos 32)) from in
    let column : to_z w32 (of_z w32 k) ≡ k = search rules in
    let k1 = to_z w32 (of_z w32 (to_z w32 (of_z w32 k) +ℤ pos 1)) in
    let next : k1 ≡ k +ℤ pos 1 = omega (arith, ints, found, splits, small, c.ranges.weight) in
    let low : c.from-low.result ≡ whole_units m q (column_weight k) % 4294967296 =
    c.from-low.ensures ∙ c.digit.ensures ∙ lookup_found (digit_at (to_z w32 (of_z w32 k))) 0 ts c.args.i (regular s m q) at ∙ ap (λ y. digit_at y (regular s m q)) column in
    let high : c.from-high.result ≡ whole_units m q (column_weight (k +ℤ pos 1)) % 4294967296 =
    c.from-high.ensures ∙ c.digit-2.ensures ∙ lookup_found (digit_at k1) 0 ts c.args.i (regular s m q) at ∙ ap (λ y. digit_at y (regular s m q)) next in
    let kept : to_z w32 (of_z w32 c.rem_euclid.result) ≡ c.rem_euclid.result = search rules in
    let amount : nat_abs (to_z w32 (of_z w32 c.rem_euclid.result)) ≡ shift =
    ap nat_abs (kept ∙ c.rem_euclid.ensures.value ∙ ap (λ y. int_rem_euclid y (pos 32)) from ∙ rem) in
    c.bits_at.ensures
    ∙ (λ t. (high t * 4294967296 + low t) / 2 ^ amount t % 4294967296)
    ∙ sym (bits_in_columns m shift q k c.args.weight small (splits ∙ ap (λ y. column_weight y +ℤ pos shift) (sym found)))
