-- What it is for a text to be refused at a byte, said by the texts of a language alone.
use Rattle.std.specs.Prelude.{◌≡◌, ℕ, ◌+◌, ◌<◌, ◌≤◌, List, ◌++◌, length, take}

-- p is the beginning of some text of the language L
abbrev pub Begins : (List ℕ → Type 0) → List ℕ → Type 0
Begins L p = (s : List ℕ) × L (p ++ s)

-- k is the first place of the text t, counted from 0, at which no text of L can go on
pub record Refuses (L : List ℕ → Type 0) (t : List ℕ) (k : ℕ) : Type 0 where
  pub within : k < length t
  pub goes : Begins L (take k t)
  pub stuck : ¬ Begins L (take (k + 1) t)

-- w, as a whole, is no word of the language F: k is the first place at which none can go on, or the end of w
pub record Refused (F : List ℕ → Type 0) (w : List ℕ) (k : ℕ) : Type 0 where
  pub within : k ≤ length w
  pub goes : Begins F (take k w)
  pub stuck : k < length w → ¬ Begins F (take (k + 1) w)
  pub ends : k ≡ length w → ¬ F w
