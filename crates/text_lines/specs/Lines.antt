-- The lines of a text.
use Rattle.std.specs.Prelude.{◌≡◌, ℕ, ◌<◌, Bool, true, false, cond, List, [], ◌∷◌, ◌++◌, length, ◌==◌}
use Rattle.std.specs.List.{AllByRecursion, flat_map}

-- A line without its byte 10, and whether it has one.
pub record Line : Type 0 where
  pub bytes : List ℕ
  pub ended : Bool

-- a byte before the first line; before no line it is one that does not end
abbrev pub before_line : ℕ → List Line → List Line
before_line b [] = record { bytes = b ∷ []; ended = false } ∷ []
before_line b (l ∷ ls) = record { bytes = b ∷ l.bytes; ended = l.ended } ∷ ls

-- the lines, in order: each ends with byte 10, but for the last one perhaps
abbrev pub lines_of : List ℕ → List Line
lines_of [] = []
lines_of (b ∷ bs) = cond (b == 10) (record { bytes = []; ended = true } ∷ lines_of bs) (before_line b (lines_of bs))

-- the bytes of a line, with its byte 10 if it has one
abbrev pub line_bytes : Line → List ℕ
line_bytes l = l.bytes ++ cond l.ended (10 ∷ []) []

-- byte 10 stands nowhere in a line
abbrev pub NoEnd : List ℕ → Type 0
NoEnd bytes = AllByRecursion (λ b. ¬ (b ≡ 10)) bytes

-- no line holds a byte 10, and only the last may not end
abbrev pub AreLines : List Line → Type 0
AreLines [] = Unit {0}
AreLines (l ∷ ls) = NoEnd l.bytes × (l.ended ≡ false → (ls ≡ []) × (0 < length l.bytes)) × AreLines ls

-- What is proved of lines: they are the text, in pieces, cut behind each byte 10.
abbrev pub LinesAreText : Type 0
LinesAreText = (text : List ℕ) → (flat_map line_bytes (lines_of text) ≡ text) × AreLines (lines_of text)
