-- What is to be believed of forms and their lines.
use Rattle.std.specs.Prelude.{◌≡◌, List, ◌++◌, ℕ, ◌<◌, ◌-◌, length, slice_index}
use Rattle.forms.specs.Parts.{bracketed}
use Rattle.forms.specs.Forms.{Form, fields, spelling, WellFormed}

-- the text is this form, without the byte 10 that ends its line
abbrev pub Spells : Form → List ℕ → Type 0
Spells f s = WellFormed f × (s ≡ bracketed (fields f))

-- a form, without the byte 10 that ends its line
abbrev pub IsForm : List ℕ → Type 0
IsForm s = (f : Form) × Spells f s

-- A text that begins with the spelling of a form begins with that of no other, and what follows is the same: so a line has one reading.
abbrev pub OneReading : Type 0
OneReading = (f g : Form) (s t : List ℕ) → WellFormed f → WellFormed g → spelling f ++ s ≡ spelling g ++ t → (f ≡ g) × (s ≡ t)

-- byte 10 ends a spelling, and stands nowhere else in it
abbrev pub OneEnd : Type 0
OneEnd = (f : Form) (i : ℕ) → WellFormed f → i < length (spelling f) - 1 → ¬ (slice_index (spelling f) i ≡ 10)
