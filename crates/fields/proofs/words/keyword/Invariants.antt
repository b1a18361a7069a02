use Rattle.std.proofs.Common.{◌≡◌, drop}
use Rattle.fields.specs.Checking.{break_from, in_keyword}
use Rattle.fields.proofs.words.keyword.Given as goal

-- no byte so far breaks
abbrev pub invariant-loop-place : goal.invariant-loop-place
invariant-loop-place l = break_from (in_keyword l.keyword) l.place (drop l.place l.word) ≡ break_from (in_keyword l.keyword) 0 l.word
