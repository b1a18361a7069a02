-- What is left to read gives what the whole does.
use Rattle.std.proofs.Common.{◌≡◌, ◌-◌}
use Rattle.vectors.specs.Words.{words_of}
use Rattle.vectors.specs.Cases.{with_limbs, with_significand}
use Rattle.vectors.proofs.reading.read_limbs.Given as goal

abbrev pub invariant-loop : goal.invariant-loop
invariant-loop l = with_significand l.fn.precision l.fn.pool.items (words_of l.fn.words.rest.now) ≡ with_limbs (l.end - l.counter) l.pool.items (words_of l.words.rest.now)
