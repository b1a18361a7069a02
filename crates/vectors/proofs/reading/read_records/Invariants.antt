-- What is left to read gives what the whole does.
use Rattle.std.proofs.Common.{◌≡◌, ◌-◌, []}
use Rattle.vectors.specs.Words.{words_of}
use Rattle.vectors.specs.Cases.{with_records}
use Rattle.vectors.proofs.reading.read_records.Given as goal

abbrev pub invariant-loop : goal.invariant-loop
invariant-loop l = with_records 1025 [] [] (words_of l.fn.words.rest.now) ≡ with_records (1025 - l.counter) l.records.items l.pool.items (words_of l.words.rest.now)
