-- What writing a term comes to.
use Rattle.std.specs.Prelude.{ℕ, cond, List, ◌++◌, length, drop, Some, None, Option, nat_lt}
use Rattle.batch.specs.Term.{Term}
use Rattle.term_writer.specs.Lines.{term_line}

-- how many bytes a buffer must have, whatever the term
abbrev pub least_buffer : ℕ
least_buffer = 1280

-- the number of the refusal of a shorter buffer
abbrev pub buffer_too_short : ℕ
buffer_too_short = 23

-- how many bytes are written of term i into a buffer of this length; none where it is refused
abbrev pub bytes_written : List Term → ℕ → ℕ → Option ℕ
bytes_written ts i room = cond (nat_lt room least_buffer) None (Some (length (term_line ts i)))

-- the buffer after that
abbrev pub buffer_after : List Term → ℕ → List ℕ → List ℕ
buffer_after ts i old = cond (nat_lt (length old) least_buffer) old (term_line ts i ++ drop (length (term_line ts i)) old)
