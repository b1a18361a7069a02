-- Where a text is cut into its lines.
use Rattle.std.proofs.Common.{◌≡◌, ℕ, zero, suc, ◌<◌, Bool, true, false, eqb, List, [], ◌∷◌, length, get_or, take, drop, sym, refl, ap, ◌∙◌, arith}
use Rattle.std.specs.List.{flat_map}
use borrow.Author.Tests.{eqb-true, eqb-false}
use Rattle.text_lines.specs.Lines.{Line, before_line, lines_of, line_bytes, AreLines, LinesAreText}

-- the line before the first byte 10
pub lines_of-ended : (text : List ℕ) (end : ℕ) → end < length text → ((k : ℕ) → k < end → eqb (get_or text k 0) 10 ≡ false) → eqb (get_or text end 0) 10 ≡ true
    → lines_of text ≡ record { bytes = take end text; ended = true } ∷ lines_of (drop (suc end) text)
lines_of-ended [] end h none here = absurd (omega arith)
lines_of-ended (b ∷ bs) zero h none here = rw here refl
lines_of-ended (b ∷ bs) (suc end) h none here = rw (none zero (omega arith)) (ap (before_line b) (lines_of-ended bs end (omega arith) (λ k l. none (suc k) (omega arith)) here))

-- a text without a byte 10 is one line, which does not end
pub lines_of-unended : (text : List ℕ) → 0 < length text → ((k : ℕ) → k < length text → eqb (get_or text k 0) 10 ≡ false) → lines_of text ≡ record { bytes = text; ended = false } ∷ []
lines_of-unended [] some none = absurd (omega arith)
lines_of-unended (b ∷ []) some none = rw (none zero (omega arith)) refl
lines_of-unended (b ∷ c ∷ cs) some none = rw (none zero (omega arith)) (ap (before_line b) (lines_of-unended (c ∷ cs) (omega arith) (λ k l. none (suc k) (omega arith))))

-- a byte before the first line stands before all their bytes
before_line-bytes : (b : ℕ) (ls : List Line) → flat_map line_bytes (before_line b ls) ≡ b ∷ flat_map line_bytes ls
before_line-bytes b [] = refl
before_line-bytes b (l ∷ ls) = refl

-- a byte other than 10 before the first line leaves them lines
before_line-lines : (b : ℕ) (ls : List Line) → ¬ (b ≡ 10) → AreLines ls → AreLines (before_line b ls)
before_line-lines b [] other are = ((other, tt), (λ _. (refl, omega arith)), tt)
before_line-lines b (l ∷ ls) other are = ((other, are.0), (λ e. ((are.1 e).0, omega arith)), are.2)

-- the bytes of the lines are the text
flat_map-lines_of : (text : List ℕ) → flat_map line_bytes (lines_of text) ≡ text
flat_map-lines_of [] = refl
flat_map-lines_of (b ∷ bs) = by_end (eqb b 10) refl (flat_map-lines_of bs) where
  by_end : (e : Bool) → eqb b 10 ≡ e → flat_map line_bytes (lines_of bs) ≡ bs → flat_map line_bytes (lines_of (b ∷ bs)) ≡ b ∷ bs
  by_end true is rest = rw is (ap (λ n. n ∷ flat_map line_bytes (lines_of bs)) (sym (eqb-true b 10 is)) ∙ ap (λ l. b ∷ l) rest)
  by_end false is rest = rw is (before_line-bytes b (lines_of bs) ∙ ap (λ l. b ∷ l) rest)

-- they are lines
are_lines : (text : List ℕ) → AreLines (lines_of text)
are_lines [] = tt
are_lines (b ∷ bs) = by_end (eqb b 10) refl (are_lines bs) where
  by_end : (e : Bool) → eqb b 10 ≡ e → AreLines (lines_of bs) → AreLines (lines_of (b ∷ bs))
  by_end true is rest = rw is (tt, (λ (e : true ≡ false). let z : ◌≡◌ {A = ℕ} 0 1 = cc in absurd (omega arith)), rest)
  by_end false is rest = rw is (before_line-lines b (lines_of bs) (eqb-false b 10 is) rest)

pub lines_are_text : LinesAreText
lines_are_text text = (flat_map-lines_of text, are_lines text)
