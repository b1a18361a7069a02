-- The forms that are read: what each holds, and its one spelling.
use Rattle.std.specs.Prelude.{◌≡◌, ℕ, Bool, List, [], ◌∷◌, ◌++◌, codes, ℤ, Option}
use Rattle.std.specs.Fmt.{decimal, signed_decimal}
use Rattle.forms.specs.Parts.{bracketed, sign_text, limbs_text, floor_text, TenDigits, TenSigned, TenFloor, IsRun, AreLimbs}

-- A form. A Bool says whether a sign is -. The letters of a mark and of a mode, and the name of a grid, stand as they were read.
pub data Form : Type 0 where
  not_a_number : Form
  infinity : Bool → Form
  signed_zero : Bool → Form
  -- sign, exponent, precision, and the limbs of the significand, the least significant first
  term : Bool → ℤ → ℕ → List ℕ → Form
  -- the place, and the letter of the mark
  mark : ℕ → List ℕ → Form
  back : Form
  set : Form
  reopen : Form
  -- the width of a grid, its floor if it has one, and the letter of the mode
  ask : ℕ → Option ℤ → List ℕ → Form
  -- the name of a grid, and the letter of the mode
  ask_named : List ℕ → List ℕ → Form

-- the texts of a form
abbrev pub fields : Form → List (List ℕ)
fields not_a_number = codes "nan" ∷ []
fields (infinity negative) = codes "inf" ∷ sign_text negative ∷ []
fields (signed_zero negative) = codes "zero" ∷ sign_text negative ∷ []
fields (term negative exponent precision limbs) = codes "term" ∷ sign_text negative ∷ signed_decimal exponent ∷ decimal precision ∷ limbs_text limbs ∷ []
fields (mark place letter) = codes "mark" ∷ decimal place ∷ letter ∷ []
fields back = codes "back" ∷ []
fields set = codes "set" ∷ []
fields reopen = codes "reopen" ∷ []
fields (ask width floor mode) = codes "ask" ∷ decimal width ∷ floor_text floor ∷ mode ∷ []
fields (ask_named name mode) = codes "ask" ∷ name ∷ mode ∷ []

-- its spelling: a line, with the byte 10 that ends it
abbrev pub spelling : Form → List ℕ
spelling f = bracketed (fields f) ++ (10 ∷ [])

-- the forms that have a spelling
abbrev pub WellFormed : Form → Type 0
WellFormed not_a_number = Unit {0}
WellFormed (infinity negative) = Unit {0}
WellFormed (signed_zero negative) = Unit {0}
WellFormed (term negative exponent precision limbs) = TenSigned exponent × TenDigits precision × AreLimbs limbs
WellFormed (mark place letter) = TenDigits place × IsRun letter
WellFormed back = Unit {0}
WellFormed set = Unit {0}
WellFormed reopen = Unit {0}
WellFormed (ask width floor mode) = TenDigits width × TenFloor floor × IsRun mode
WellFormed (ask_named name mode) = IsRun name × IsRun mode

-- a line: the spelling of a form
abbrev pub IsLine : List ℕ → Type 0
IsLine s = (f : Form) × WellFormed f × (s ≡ spelling f)
