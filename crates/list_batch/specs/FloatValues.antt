-- When a term is what a float is worth.
use Rattle.std.specs.Prelude.{◌≡◌, ◌*◌, pos, Float}
use Rattle.std.specs.Float.{nan, inf, fin}
use Rattle.std.specs.Float.Ieee.{up, down}
use Rattle.std.specs.Float.Ieee.Exact.{HasValue}
use Rattle.batch.specs.Term.{Term, not_a_number, infinite, signed_zero, regular}

-- the same class and sign; of a regular term, the same number m * 2 ^ q
abbrev pub IsWorth : Float → Term → Type 0
IsWorth x not_a_number = x ≡ nan
IsWorth x (infinite s) = x ≡ inf s
IsWorth x (signed_zero s) = x ≡ fin s 0 (pos 0)
IsWorth x (regular s m q) = HasValue x s (m * up q) (down q)
