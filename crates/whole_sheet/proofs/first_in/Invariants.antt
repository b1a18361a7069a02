-- The places so far are in, and the trail is full only where the next place empties it.
use Rattle.std.proofs.Common.{◌≡◌, ℕ, ◌%◌, ◌<◌}
use Rattle.whole_sheet.specs.FirstPlaces.{InFirst}
use Rattle.whole_sheet.proofs.first_in.Given as goal

abbrev pub invariant-loop-place : goal.invariant-loop-place
invariant-loop-place l = (h : ℕ) × InFirst l.place h l.sheet × (0 < l.place % 256 → h ≡ l.place % 256)
