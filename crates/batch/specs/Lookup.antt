-- What a batch answers of its term i, for any number i: past the last term the kind is Absent and the rest is 0.
use Rattle.std.specs.Prelude.{ℕ, List, map, ℤ, pos, slice_index, slice_index_or}
use Rattle.batch.specs.Term.{Term, low_weight, top_weight, digit_at}
use Rattle.batch.specs.TermKinds.{kind_of}
use Rattle.batch.specs.declared.kind.Kind.{Kind}
use Rattle.batch.specs.declared.kind.Kind.TheVariants.{Absent}

-- the kind of term i
abbrev pub kind_of_term : List Term → ℕ → Kind
kind_of_term ts i = slice_index_or (map kind_of ts) i Absent

-- the top weight of term i
abbrev pub top_of_term : List Term → ℕ → ℤ
top_of_term ts i = slice_index_or (map top_weight ts) i (pos 0)

-- the low weight of term i
abbrev pub low_of_term : List Term → ℕ → ℤ
low_of_term ts i = slice_index_or (map low_weight ts) i (pos 0)

-- the digit of term i in column k
abbrev pub digit_of_term : List Term → ℕ → ℤ → ℕ
digit_of_term ts i k = slice_index (map (digit_at k) ts) i
