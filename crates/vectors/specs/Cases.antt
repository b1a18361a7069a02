-- The case that a line means, by its words.
use Rattle.std.specs.Prelude.{ℕ, zero, suc, List, [], ◌∷◌, ◌++◌, length, nat_lt, if◌then◌else◌, ℤ, pos, Some, None, Option, option_and_then, option_map}
use Rattle.batch.specs.TermKinds.{kind_numbered, kind_is_regular}
use Rattle.limb_batch.specs.Records.{limbs_for}
use Rattle.limb_batch.specs.declared.record.LimbRecord.{LimbRecord}
use Rattle.vectors.specs.declared.case.Case.{Case}
use Rattle.vectors.specs.Words.{words_of, number_of, integer_of}

-- what f makes of what is there, or nothing
infixl 10 ◌>>=◌
abbrev pub ◌>>=◌ : {A B : Type 0} → Option A → (A → Option B) → Option B
o >>= f = option_and_then f o

-- the number that the first word spells in the radix, and the words behind it
abbrev pub number_first : ℕ → List (List ℕ) → Option (ℕ × List (List ℕ))
number_first radix [] = None
number_first radix (w ∷ ws) = option_map (λ n. (n, ws)) (number_of radix w)

-- so of an integer
abbrev pub integer_first : List (List ℕ) → Option (ℤ × List (List ℕ))
integer_first [] = None
integer_first (w ∷ ws) = option_map (λ z. (z, ws)) (integer_of w)

-- the pool with so many limbs behind it, and the words behind those
unfoldable pub with_limbs : ℕ → List ℕ → List (List ℕ) → Option (List ℕ × List (List ℕ))
with_limbs zero pool ws = Some (pool, ws)
with_limbs (suc n) pool ws = do
  (limb, others) ← number_first 16 ws
  with_limbs n (pool ++ limb ∷ []) others

-- the same of the limbs that a precision takes, where it has no more digits than are read
unfoldable pub with_significand : ℕ → List ℕ → List (List ℕ) → Option (List ℕ × List (List ℕ))
with_significand precision pool ws = if nat_lt 8192 precision then None else with_limbs (limbs_for precision) pool ws

-- a regular record of this kind: its exponent, its precision and its limbs follow
unfoldable pub regular_record : ℕ → List ℕ → List (List ℕ) → Option (LimbRecord × List ℕ × List (List ℕ))
regular_record kind pool ws = do
  (exponent, behind_exponent) ← integer_first ws
  (precision, limbs) ← number_first 10 behind_exponent
  (filled, others) ← with_significand precision pool limbs
  Some (record { kind = kind; exponent = exponent; precision = precision; place = length pool }, filled, others)

-- a record of this kind, the pool with its limbs, and the words behind it; nothing follows the kind of one that is not regular
unfoldable pub record_of_kind : ℕ → List ℕ → List (List ℕ) → Option (LimbRecord × List ℕ × List (List ℕ))
record_of_kind kind pool ws = if kind_is_regular (kind_numbered kind) then regular_record kind pool ws
    else Some (record { kind = kind; exponent = pos 0; precision = 0; place = length pool }, pool, ws)

-- the first record, whose limbs go behind the pool
unfoldable pub record_first : List ℕ → List (List ℕ) → Option (LimbRecord × List ℕ × List (List ℕ))
record_first pool ws = do
  (kind, others) ← number_first 10 ws
  record_of_kind kind pool others

-- the records and the pool with those of the words, n records at most, behind them
unfoldable pub with_records : ℕ → List LimbRecord → List ℕ → List (List ℕ) → Option (List LimbRecord × List ℕ)
with_records zero rs pool ws = Some (rs, pool)
with_records (suc n) rs pool [] = Some (rs, pool)
with_records (suc n) rs pool (w ∷ ws) = do
  (r, filled, others) ← record_first pool (w ∷ ws)
  with_records n (rs ++ r ∷ []) filled others

-- What a case shows: its mode, its width, its records and their limbs.
pub record Shown : Type 0 where
  pub mode : ℕ
  pub width : ℕ
  pub records : List LimbRecord
  pub pool : List ℕ

abbrev pub shown : Case → Shown
shown c = record { mode = c.mode; width = c.width; records = c.records.items; pool = c.pool.items }

-- the case that a line means; of more than 1,025 terms the first 1,025 are read
unfoldable pub case_of : List ℕ → Option Shown
case_of line = do
  (mode, behind_mode) ← number_first 10 (words_of line)
  (width, terms) ← number_first 10 behind_mode
  (records, pool) ← with_records 1025 [] [] terms
  Some (record { mode = mode; width = width; records = records; pool = pool })
