use Rattle.std.proofs.Common.{◌≡◌, ℕ, ◌*◌, ◌/◌, ◌%◌, ◌^◌, ◌<◌, Bool, get_or, ℤ, Some}
use Rattle.std.specs.List.{slice_get}
use Rattle.batch.specs.Term.{regular, whole_units}
use Rattle.term_writer.proofs.significand.read_limbs.Given as goal

abbrev pub invariant-loop-j : goal.invariant-loop-j
invariant-loop-j g l =
    (s : Bool) (m : ℕ) (q : ℤ) → slice_get (g.B.Batch.terms l.batch) l.i ≡ Some (regular s m q)
    → (k : ℕ) → k < l.j → get_or l.limbs k 0 ≡ whole_units m q l.fn.weight / 2 ^ (32 * k) % 4294967296
