-- What the code holds of the kinds that count.
use Rattle.std.specs.Prelude.{Bool, false, slice_index_or}
use Rattle.batch.specs.TermKinds.{kind_number}
use Rattle.batch.specs.declared.kind.Kind.{Kind}
use Rattle.survey.specs.declared.kinds.KindsCounted.{KindsCounted}

-- has a term been found that counts as this kind?
abbrev pub found : KindsCounted → Kind → Bool
found f k = slice_index_or f.present (kind_number k) false
