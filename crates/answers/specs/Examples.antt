-- Worked entries, which the checker computes from the definitions.
use Rattle.std.specs.Prelude.{◌≡◌, ℕ, true, false, List, [], ◌∷◌, ℤ, pos, neg_ℤ, slice_index_or}
use Rattle.std.specs.List.{AllByRecursion}
use Rattle.grid.specs.Spacing.{free, floored}
use Rattle.grid.specs.Rounding.{Mode, nearest, downward, upward, toward_zero, away_from_zero}
use Rattle.batch.specs.Term.{Term, infinite, signed_zero, regular}
use Rattle.batch.specs.declared.kind.Kind.TheVariants.{NotANumber, PositiveZero, NegativeZero, Positive, Negative}
use Rattle.batch.specs.TermKinds.{kind_number}
use Rattle.batch.specs.declared.kind.Kind.{Kind}
use Rattle.sheet.specs.declared.mark.Mark.{Mark}
use Rattle.sheet.specs.declared.mark.Mark.TheVariants.{Out, In, Turned}
use Rattle.answers.specs.Published.{Published, plain, answer}

-- an entry: the marks of the first places, the terms, a grid and a mode, with the answer that is right, in two limbs
pub record Entry : Type 0 where
  pub marks : List Mark
  pub terms : List Term
  pub spacing : ℤ → ℤ
  pub mode : Mode
  pub answer : Published

abbrev pub entry : List Mark → List Term → (ℤ → ℤ) → Mode → Published → Entry
entry ks ts u m a = record { marks = ks; terms = ts; spacing = u; mode = m; answer = a }

-- one to three terms, all in
abbrev pub all_in : List Mark
all_in = In ∷ In ∷ In ∷ []

-- an answer that is not regular: its kind, direction and depth
abbrev pub special : Kind → ℤ → ℕ → Published
special k d n = plain k d n 2

-- a regular answer of at most 32 bits: its kind, exponent, precision, limb, direction and depth
abbrev pub short : Kind → ℤ → ℕ → ℕ → ℤ → ℕ → Published
short k e p limb d n = record { kind = kind_number k; exponent = e; precision = p; direction = d; depth = n; limbs = limb ∷ 0 ∷ [] }

-- the limb whose top bit alone is set, and that whose top two bits are
abbrev pub one_half : ℕ
one_half = 2147483648

abbrev pub three_quarters : ℕ
three_quarters = 3221225472

-- m * 2 ^ q, and its opposite
abbrev pub plus_term : ℕ → ℤ → Term
plus_term m q = regular false m q

abbrev pub minus_term : ℕ → ℤ → Term
minus_term m q = regular true m q

abbrev pub binary64 : ℤ → ℤ
binary64 = floored 53 (neg_ℤ (pos 1074))

-- nothing; -0 alone; an infinity in, and the same turned: in each mode
abbrev pub nothing : Mode → Entry
nothing m = entry all_in [] (free 1) m (special PositiveZero (pos 0) 0)

abbrev pub minus_zero : Mode → Entry
minus_zero m = entry all_in (signed_zero true ∷ []) (free 1) m (special NegativeZero (pos 0) 0)

abbrev pub opposite_infinities : Mode → Entry
opposite_infinities m = entry (In ∷ Turned ∷ []) (infinite false ∷ infinite false ∷ []) (free 1) m (special NotANumber (pos 0) 0)

abbrev pub entries : List Entry
entries =
    nothing nearest ∷ nothing downward ∷ nothing upward ∷ nothing toward_zero ∷ nothing away_from_zero
    ∷ minus_zero nearest ∷ minus_zero downward ∷ minus_zero upward ∷ minus_zero toward_zero ∷ minus_zero away_from_zero
    ∷ opposite_infinities nearest ∷ opposite_infinities downward ∷ opposite_infinities upward ∷ opposite_infinities toward_zero ∷ opposite_infinities away_from_zero
    -- zeros of both signs
    ∷ entry all_in (signed_zero false ∷ signed_zero true ∷ []) (free 1) downward (special NegativeZero (pos 0) 0)
    -- 1 - 1
    ∷ entry all_in (plus_term 1 (pos 0) ∷ minus_term 1 (pos 0) ∷ []) (free 1) downward (special NegativeZero (pos 0) 1)
    ∷ entry all_in (plus_term 1 (pos 0) ∷ minus_term 1 (pos 0) ∷ []) (free 1) nearest (special PositiveZero (pos 0) 1)
    -- 5 gives 4, and 7 gives 8, of two digits; -3 gives -4, of one
    ∷ entry all_in (plus_term 5 (pos 0) ∷ []) (free 2) nearest (short Positive (pos 3) 2 one_half (neg_ℤ (pos 1)) 1)
    ∷ entry all_in (plus_term 7 (pos 0) ∷ []) (free 2) nearest (short Positive (pos 4) 2 one_half (pos 1) 1)
    ∷ entry all_in (minus_term 3 (pos 0) ∷ []) (free 1) nearest (short Negative (pos 3) 1 one_half (neg_ℤ (pos 1)) 1)
    -- half of the least number of binary64
    ∷ entry all_in (plus_term 1 (neg_ℤ (pos 1075)) ∷ []) binary64 nearest (special PositiveZero (neg_ℤ (pos 1)) 1)
    ∷ entry all_in (plus_term 1 (neg_ℤ (pos 1075)) ∷ []) binary64 upward (short Positive (neg_ℤ (pos 1073)) 1 one_half (pos 1) 1)
    -- 1 - 1 + 2 ^ -1000
    ∷ entry all_in (plus_term 1 (pos 0) ∷ minus_term 1 (pos 0) ∷ plus_term 1 (neg_ℤ (pos 1000)) ∷ []) (free 1) downward (short Positive (neg_ℤ (pos 999)) 1 one_half (pos 0) 2)
    -- 3 - 2 ^ -2000
    ∷ entry all_in (plus_term 3 (pos 0) ∷ minus_term 1 (neg_ℤ (pos 2000)) ∷ []) (free 2) downward (short Positive (pos 2) 2 one_half (neg_ℤ (pos 1)) 2)
    ∷ entry all_in (plus_term 3 (pos 0) ∷ minus_term 1 (neg_ℤ (pos 2000)) ∷ []) (free 2) nearest (short Positive (pos 2) 2 three_quarters (pos 1) 2)
    -- 5 * 2 ^ 38 + 2 ^ -5
    ∷ entry all_in (plus_term 5 (pos 38) ∷ plus_term 1 (neg_ℤ (pos 5)) ∷ []) (free 1) downward (short Positive (pos 41) 1 one_half (neg_ℤ (pos 1)) 1)
    ∷ []

-- the definition gives the answer
abbrev pub Holds : Entry → Type 0
Holds x = answer (λ p. slice_index_or x.marks p Out) x.terms x.spacing x.mode 2 ≡ x.answer

abbrev pub EntriesHold : Type 0
EntriesHold = AllByRecursion Holds entries
