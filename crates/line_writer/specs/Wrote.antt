-- What a writer leaves in the buffer that it is lent.
use Rattle.std.specs.Prelude.{◌≡◌, ℕ, ◌+◌, ◌≤◌, List, ◌++◌, length, take, drop}

-- bytes were written over old from the place at on, up to end, which left new: what stood before and behind them is as it was
pub record Wrote (old : List ℕ) (at : ℕ) (bytes new : List ℕ) (end : ℕ) : Type 0 where
  pub ends : end ≡ at + length bytes
  pub room : end ≤ length old
  pub after : new ≡ take at old ++ (bytes ++ drop end old)
