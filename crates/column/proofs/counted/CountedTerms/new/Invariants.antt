-- What the list stands for after some places.
use Rattle.std.proofs.Common.{◌≡◌, ◌≤◌, length, take}
use Rattle.sheet.specs.Shown.{shown}
use Rattle.column.specs.PartsOf.{parts_of}
use Rattle.column.specs.Listed.{parts_listed}
use Rattle.column.proofs.counted.CountedTerms.new.Given as goal

-- the list so far stands for the parts of the terms so far
abbrev pub invariant-loop-place : goal.invariant-loop-place
invariant-loop-place g l = record {
  stands : parts_listed (g.B.Batch.terms l.batch) l.terms.items ≡ parts_of (shown l.marks) (take l.place (g.B.Batch.terms l.batch));
  few : length l.terms.items ≤ l.place;
}
