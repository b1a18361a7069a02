use Rattle.std.proofs.Common.{◌≡◌, false, map, get_or, take}
use Rattle.batch.specs.TermKinds.{kind_of, kind_number}
use Rattle.batch.specs.declared.kind.Kind.{Kind}
use Rattle.sheet.specs.Shown.{shown}
use Rattle.survey.specs.Kinds.{kinds_from, has}
use Rattle.survey.proofs.kinds.KindsCounted.new.Given as goal

-- what has been found is what the terms so far count as
abbrev pub invariant-loop-place : goal.invariant-loop-place
invariant-loop-place g l =
    (k : Kind) → get_or l.kinds.present (kind_number k) false ≡ has (kinds_from (shown l.marks) 0 (take l.place (map kind_of (g.B.Batch.terms l.batch)))) k
