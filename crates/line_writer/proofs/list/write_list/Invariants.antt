use Rattle.std.proofs.Common.{◌∷◌, map, take}
use Rattle.std.specs.List.{join_with_byte}
use Rattle.line_writer.specs.Wrote.{Wrote}
use Rattle.line_writer.proofs.list.write_list.Given as goal

abbrev pub invariant-loop-i : goal.invariant-loop-i
invariant-loop-i g l = Wrote l.fn.out l.fn.at (40 ∷ join_with_byte 32 (map g.T.Spelled.text (take l.i l.items))) l.out l.end
