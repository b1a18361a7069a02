use Rattle.std.proofs.Common.{sym, ◌∙◌, arith, rules}
use Rattle.fields.proofs.Naturals.{natural_full}
use Rattle.fields.proofs.numbers.natural.Goals as goal

pub returns-then-not-has_room : goal.returns-then-not-has_room
returns-then-not-has_room c = sym (natural_full c.loop-place.value c.loop-place.place c.args.word.now (omega arith) (search rules)) ∙ c.loop-place.invariant.rest
