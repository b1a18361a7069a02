-- One total more.
use Rattle.std.proofs.Common.{◌≡◌, ℕ, ◌^◌, ◌<◌, length, get_or, ℤ, ◌+ℤ◌, nat_abs, sym, ap, ◌∙◌, subst, arith}
use Rattle.exact.specs.Integers.{signed}
use Rattle.column.specs.Runs.{total_at}
use Rattle.column.proofs.RunTotals.{sum_kept, one_more, others_kept}
use Rattle.column.proofs.run.add_signed.Goals as goal

pub loop-j-preserved : goal.loop-j-preserved
loop-j-preserved c =
    let xs = c.args.totals.now in
    let ys = c.loop-j.totals in
    let j = c.loop-j.j in
    let digit = get_or c.args.digits.now j 0 in
    let in_list : j < length ys = omega (arith, c.loop-j.auto.totals, c.loop-j-test.true) in
    let before : total_at ys j ≡ total_at xs j = c.loop-j.invariant.others j (omega arith) in
    let small : nat_abs (total_at ys j) < 2 ^ 42 = subst (λ (z : ℤ). nat_abs z < 2 ^ 42) (sym before) (c.requires.small j c.loop-j-test.true) in
    let sum = sum_kept (total_at ys j) c.args.negative digit c.signed.result small (c.type_inv.digits j).fits c.signed.ensures in
    let is = sum ∙ ap (λ (z : ℤ). z +ℤ signed c.args.negative digit) before in
    record {
      added = one_more (λ (k : ℕ). total_at xs k +ℤ signed c.args.negative (get_or c.args.digits.now k 0)) ys j _ in_list is c.loop-j.invariant.added;
      others = others_kept xs ys j _ c.loop-j.invariant.others;
    }
