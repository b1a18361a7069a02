-- What is to be believed of the reading of a field.
use Rattle.std.specs.Prelude.{◌≡◌, ℕ, List, Result, Ok, Err}
use Rattle.forms.specs.Languages.{Refused}
use Rattle.fields.specs.Words.{IsWord}

-- a word of a field: the spelling of some value
abbrev pub AnyWord : {A : Type 0} → (A → List ℕ → Type 0) → List ℕ → Type 0
AnyWord {A} Spells word = (a : A) × Spells a word

-- reading gives the value that a word spells, and refuses any other word at the first place at which none can go on
pub record Checks {A : Type 0} (Spells : A → List ℕ → Type 0) (of : List ℕ → Result A ℕ) : Type 0 where
  pub accepted : (a : A) (word : List ℕ) → of word ≡ Ok a → Spells a word
  pub refused : (k : ℕ) (word : List ℕ) → of word ≡ Err k → Refused (AnyWord Spells) word k
  pub complete : (a : A) (word : List ℕ) → Spells a word → of word ≡ Ok a

-- the words of a field consist of letters, digits, + and -
abbrev pub AreWords : {A : Type 0} → (A → List ℕ → Type 0) → Type 0
AreWords {A} Spells = (a : A) (word : List ℕ) → Spells a word → IsWord word
