use Rattle.std.proofs.Common.{◌≡◌, ◌<◌, ◌≤◌, ◌^◌, drop}
use Rattle.fields.specs.Checking.{natural_from, natural_of}
use Rattle.fields.proofs.numbers.natural.Given as goal

-- the digits so far are of this value, and reading goes on from it
abbrev pub invariant-loop-place : goal.invariant-loop-place
invariant-loop-place l = record {
  small : l.value < 10 ^ l.place;
  short : l.place ≤ 10;
  rest : natural_from l.value l.place (drop l.place l.word) ≡ natural_of l.word;
}
