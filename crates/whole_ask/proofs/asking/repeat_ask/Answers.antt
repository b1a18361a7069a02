-- The same ask gets the same again.
use Rattle.std.proofs.Common.{length, refl, arith}
use Rattle.sheet.specs.Shown.{shown}
use Rattle.whole_ask.proofs.Repeated.{with_room, refused_again}
use Rattle.whole_ask.proofs.asking.repeat_ask.Goals as goal

pub loop-init : goal.loop-init
loop-init g c =
    let ts = g.B.Batch.terms c.args.batch.now in
    let u = g.G.Grid.spacing c.args.grid.now in
    let w = g.G.Grid.widest c.args.grid.now in
    (with_room (shown c.args.sheet.now.marks) ts u w c.args.mode _ _ _ c.ask-result.ensures.equals (omega arith), λ _. refl)

pub loop-preserved : goal.loop-preserved
loop-preserved g c =
    let ts = g.B.Batch.terms c.args.batch.now in
    let u = g.G.Grid.spacing c.args.grid.now in
    let w = g.G.Grid.widest c.args.grid.now in
    let asks = c.ask-result-in-loop.ensures in (
      with_room (shown c.args.sheet.now.marks) ts u w c.args.mode _ _ _ asks.equals (omega arith),
      refused_again _ c.loop.result _ _ _ _ c.loop.invariant.0 asks.equals c.loop.invariant.1 asks.refused,
    )

pub returns : goal.returns
returns g c =
    let ts = g.B.Batch.terms c.args.batch.now in
    let u = g.G.Grid.spacing c.args.grid.now in
    let w = g.G.Grid.widest c.args.grid.now in
    let asks = c.ask-result.ensures in
    let equals = with_room (shown c.args.sheet.now.marks) ts u w c.args.mode (length c.loop.limbs) (length c.args.limbs.now) _ c.loop.invariant.0 (omega arith) in
    record {
      equals = equals;
      refused = refused_again _ c.ask-result.result _ _ _ _ asks.equals equals asks.refused c.loop.invariant.1;
    }
