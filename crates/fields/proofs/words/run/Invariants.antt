use Rattle.std.proofs.Common.{◌≡◌, drop}
use Rattle.forms.specs.Parts.{is_alphanumeric}
use Rattle.fields.specs.Checking.{break_from}
use Rattle.fields.proofs.words.run.Given as goal

-- no byte so far breaks
abbrev pub invariant-loop-place : goal.invariant-loop-place
invariant-loop-place l = break_from (λ place b. is_alphanumeric b) l.place (drop l.place l.word) ≡ break_from (λ place b. is_alphanumeric b) 0 l.word
