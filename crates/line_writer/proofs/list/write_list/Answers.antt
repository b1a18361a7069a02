use Rattle.std.proofs.Common.{[], ◌∷◌, map, append_assoc, arith, length-append}
use Rattle.std.proofs.lemmas.List.{take_all}
use Rattle.std.specs.List.{join_with_byte}
use Rattle.line_writer.proofs.Joined.{join_with_byte-item, length-join_with_byte-item}
use Rattle.line_writer.proofs.Writes.{then, length-new}
use Rattle.line_writer.proofs.list.write_list.Goals as goal

pub write_separator-end-requires : goal.write_separator-end-requires
write_separator-end-requires g c =
    let text = g.T.Spelled.text in
    let fits = length-join_with_byte-item text c.args.items.now c.loop-i.i c.index-items-i.result c.loop-i-test.true c.index-items-i.is in
    omega (arith, fits, c.requires, length-append (join_with_byte 32 (map text c.args.items.now)) (41 ∷ []), length-new c.loop-i.invariant)

pub write-end-requires : goal.write-end-requires
write-end-requires g c =
    let text = g.T.Spelled.text in
    let fits = length-join_with_byte-item text c.args.items.now c.loop-i.i c.index-items-i.result c.loop-i-test.true c.index-items-i.is in
    omega (
      arith,
      fits,
      c.requires,
      length-append (join_with_byte 32 (map text c.args.items.now)) (41 ∷ []),
      length-new c.loop-i.invariant,
      length-new c.write_separator-end.ensures,
    )

pub loop-i-preserved : goal.loop-i-preserved
loop-i-preserved g c =
    let text = g.T.Spelled.text in
    let step = join_with_byte-item text c.args.items.now c.loop-i.i c.index-items-i.result c.loop-i-test.true c.index-items-i.is in
    rw (step, ← append_assoc) (then (then c.loop-i.invariant c.write_separator-end.ensures) c.write-end.ensures)

pub returns : goal.returns
returns g c =
    let whole = take_all c.loop-i.i c.args.items.now (omega arith) in
    rw whole at (then c.loop-i.invariant c.put.ensures)
