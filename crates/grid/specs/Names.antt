-- The formats of the code, by number.
use Rattle.std.specs.Prelude.{ℕ}
use Rattle.grid.specs.declared.named.format.Format.{Format}
use Rattle.grid.specs.declared.named.format.Format.TheVariants.{Binary16, Bfloat16, Binary32, Binary64, Extended80, Binary128, Binary256}

-- the number of a format
abbrev pub format_number : Format → ℕ
format_number Binary16 = 0
format_number Bfloat16 = 1
format_number Binary32 = 2
format_number Binary64 = 3
format_number Extended80 = 4
format_number Binary128 = 5
format_number Binary256 = 6
