-- What is written so far: the head, and a text for each limb so far.
use Rattle.std.proofs.Common.{◌≡◌, ◌++◌, string_bytes, map}
use Rattle.std.specs.List.{flat_map}
use Rattle.vectors.specs.Lines.{limb_text}
use Rattle.vectors.proofs.writing.write_answer.Given as goal

abbrev pub invariant-loop-limb : goal.invariant-loop-limb
invariant-loop-limb l = string_bytes l.line ≡ string_bytes l.initial.line ++ flat_map limb_text (map (λ x. x.now) l.yielded)
