use Rattle.std.proofs.Common.{◌≡◌, length, drop, ◌∙◌, arith}
use Rattle.std.proofs.lemmas.List.{length-drop, length-take-le}
use Rattle.partial_sum.proofs.Slices.{top_written}
use Rattle.partial_sum.proofs.settling.settle_whole.Goals as goal

pub returns-clause-magnitude : goal.returns-clause-magnitude
returns-clause-magnitude c =
    let n = length c.args.totals.now in
    let rest = drop n c.args.limbs.now in
    let low : length c.settle-settled.new.limbs ≡ n = omega (arith, c.settle-settled.auto.limbs, c.requires.room, length-take-le n c.args.limbs.now (omega (arith, c.requires.room))) in
    let one : length rest ≡ 1 = length-drop n c.args.limbs.now ∙ omega (arith, c.requires.room) in
    top_written c.settle-settled.new.limbs rest n c.settle-settled.result.top low one ∙ c.settle-settled.ensures.magnitude
