-- A line read step by step, from the words that are left.
use Rattle.std.proofs.Common.{◌≡◌, ◌≢◌, ℕ, zero, suc, ◌+◌, ◌-◌, ◌<◌, ◌≤◌, true, false, List, [], ◌∷◌, ◌++◌, length, ltb, ℤ, pos, Some, None, Ok, Err, Result, IfErr, IsErrAnd, refl, ◌∙◌, arith}
use Rattle.std.proofs.lemmas.Bool.Decides.{nat_tests}
use Rattle.batch.specs.TermKinds.{kind_numbered, kind_is_regular}
use Rattle.limb_batch.specs.Records.{limbs_for}
use Rattle.limb_batch.specs.declared.record.LimbRecord.{LimbRecord}
use Rattle.vectors.specs.declared.fault.CaseFault.{CaseFault}
use Rattle.vectors.specs.declared.fault.CaseFault.TheVariants.{OutOfMemory}
use Rattle.vectors.specs.Words.{first_word, other_words, words_of, number_of}
use Rattle.vectors.specs.Cases.{number_first, integer_first, with_limbs, with_significand, regular_record, record_of_kind, record_first, with_records, case_of, ◌>>=◌}
use Rattle.vectors.proofs.WordLists.{number_first-words, words_of-cons}

-- ---- errors
-- there is nothing to read, whatever the error
pub refused : {A P : Type 0} (r : Result A CaseFault) → P → IfErr r (λ e. e ≢ OutOfMemory → P)
refused (Ok x) h = tt
refused (Err e) h = λ _. h

-- the error of a step, handed on
pub refused_as : {A P : Type 0} (r : Result A CaseFault) (d : CaseFault) → IsErrAnd r (λ e. e ≡ d) → (d ≢ OutOfMemory → P) → IfErr r (λ e. e ≢ OutOfMemory → P)
refused_as (Ok x) d same h = tt
refused_as (Err e) d same h = λ other. h (λ q. other (same ∙ q))

-- ---- limbs
-- n limbs from the i-th on, where the next word is none, or is a limb
pub with_limbs-none : (n i : ℕ) (pool bs : List ℕ) → i < n → number_of 16 (first_word bs) ≡ None → with_limbs (n - i) pool (words_of bs) ≡ None
unfolding with_limbs
with_limbs-none n i pool bs left none =
    let e : n - i ≡ suc (n - (i + 1)) = omega arith in
    rw (e, number_first-words 16 bs, none)

pub with_limbs-more : (n i : ℕ) (pool filled bs rest : List ℕ) (limb : ℕ) → i < n → number_of 16 (first_word bs) ≡ Some limb → filled ≡ pool ++ limb ∷ [] → rest ≡ other_words bs
    → with_limbs (n - i) pool (words_of bs) ≡ with_limbs (n - (i + 1)) filled (words_of rest)
unfolding with_limbs
with_limbs-more n i pool filled bs rest limb left some full behind =
    let e : n - i ≡ suc (n - (i + 1)) = omega arith in
    rw (e, number_first-words 16 bs, some, full, behind)

pub with_limbs-all : (n i : ℕ) (pool : List ℕ) (ws : List (List ℕ)) → n ≤ i → with_limbs (n - i) pool ws ≡ Some (pool, ws)
unfolding with_limbs
with_limbs-all n i pool ws all =
    let e : n - i ≡ 0 = omega arith in
    rw e

pub with_significand-within : (p : ℕ) (pool : List ℕ) (ws : List (List ℕ)) → p ≤ 8192 → with_significand p pool ws ≡ with_limbs (limbs_for p) pool ws
unfolding with_significand
with_significand-within p pool ws within =
    let e : ltb 8192 p ≡ false = grind (arith, nat_tests) in
    rw e

pub with_significand-past : (p : ℕ) (pool : List ℕ) (ws : List (List ℕ)) → 8192 < p → with_significand p pool ws ≡ None
unfolding with_significand
with_significand-past p pool ws past =
    let e : ltb 8192 p ≡ true = grind (arith, nat_tests) in
    rw e

-- ---- one record
pub record_first-none : (pool : List ℕ) (ws : List (List ℕ)) → number_first 10 ws ≡ None → record_first pool ws ≡ None
unfolding record_first
record_first-none pool ws none = rw none

pub record_first-bare : (kind place : ℕ) (pool : List ℕ) (ws others : List (List ℕ)) → number_first 10 ws ≡ Some (kind, others) → kind_is_regular (kind_numbered kind) ≡ false → place ≡ length pool
    → record_first pool ws ≡ Some (record { kind = kind; exponent = pos 0; precision = 0; place = place }, pool, others)
unfolding record_first record_of_kind
record_first-bare kind place pool ws others some bare at = rw (some, bare, at)

pub record_first-regular : (kind : ℕ) (pool : List ℕ) (ws others : List (List ℕ)) → number_first 10 ws ≡ Some (kind, others) → kind_is_regular (kind_numbered kind) ≡ true
    → record_first pool ws ≡ regular_record kind pool others
unfolding record_first record_of_kind
record_first-regular kind pool ws others some regular = rw (some, regular)

pub regular_record-no_exponent : (kind : ℕ) (pool : List ℕ) (ws : List (List ℕ)) → integer_first ws ≡ None → regular_record kind pool ws ≡ None
unfolding regular_record
regular_record-no_exponent kind pool ws none = rw none

pub regular_record-no_precision : (kind : ℕ) (exponent : ℤ) (pool : List ℕ) (ws vs : List (List ℕ)) → integer_first ws ≡ Some (exponent, vs) → number_first 10 vs ≡ None
    → regular_record kind pool ws ≡ None
unfolding regular_record
regular_record-no_precision kind exponent pool ws vs some none = rw (some, none)

pub regular_record-no_limbs : (kind precision : ℕ) (exponent : ℤ) (pool : List ℕ) (ws vs us : List (List ℕ)) → integer_first ws ≡ Some (exponent, vs) → number_first 10 vs ≡ Some (precision, us)
    → with_significand precision pool us ≡ None → regular_record kind pool ws ≡ None
unfolding regular_record
regular_record-no_limbs kind precision exponent pool ws vs us some also none = rw (some, also, none)

pub regular_record-whole : (kind precision p place : ℕ) (exponent z : ℤ) (pool filled : List ℕ) (ws vs us others : List (List ℕ)) → integer_first ws ≡ Some (exponent, vs)
    → number_first 10 vs ≡ Some (precision, us) → with_significand precision pool us ≡ Some (filled, others) → z ≡ exponent → p ≡ precision → place ≡ length pool
    → regular_record kind pool ws ≡ Some (record { kind = kind; exponent = z; precision = p; place = place }, filled, others)
unfolding regular_record
regular_record-whole kind precision p place exponent z pool filled ws vs us others some also limbs same equal at = rw (some, also, limbs, same, equal, at)

-- ---- all records
pub with_records-done : (n : ℕ) (rs : List LimbRecord) (pool bs : List ℕ) → length bs ≡ 0 → with_records n rs pool (words_of bs) ≡ Some (rs, pool)
unfolding with_records words_of
with_records-done zero rs pool bs done = refl
with_records-done (suc n) rs pool [] done = refl
with_records-done (suc n) rs pool (b ∷ bs) done = absurd (omega arith)

pub with_records-all : (n i : ℕ) (rs : List LimbRecord) (pool : List ℕ) (ws : List (List ℕ)) → n ≤ i → with_records (n - i) rs pool ws ≡ Some (rs, pool)
unfolding with_records
with_records-all n i rs pool ws all =
    let e : n - i ≡ 0 = omega arith in
    rw e

step : (n : ℕ) (rs : List LimbRecord) (pool bs : List ℕ) → 0 < length bs
    → with_records (suc n) rs pool (words_of bs) ≡ (record_first pool (words_of bs) >>= λ r. with_records n (rs ++ r.0 ∷ []) r.1 r.2)
unfolding with_records
step n rs pool [] more = absurd (omega arith)
step n rs pool (b ∷ bs) more = rw (words_of-cons b bs)

pub with_records-none : (n i : ℕ) (rs : List LimbRecord) (pool bs : List ℕ) → i < n → 0 < length bs → record_first pool (words_of bs) ≡ None → with_records (n - i) rs pool (words_of bs) ≡ None
with_records-none n i rs pool bs left more none =
    let e : n - i ≡ suc (n - (i + 1)) = omega arith in
    rw (e, step _ rs pool bs more, none)

pub with_records-more : (n i : ℕ) (rs more_rs : List LimbRecord) (pool filled bs : List ℕ) (r : LimbRecord) (others : List (List ℕ)) → i < n → 0 < length bs
    → record_first pool (words_of bs) ≡ Some (r, filled, others) → more_rs ≡ rs ++ r ∷ [] → with_records (n - i) rs pool (words_of bs) ≡ with_records (n - (i + 1)) more_rs filled others
with_records-more n i rs more_rs pool filled bs r others left more some full =
    let e : n - i ≡ suc (n - (i + 1)) = omega arith in
    rw (e, step _ rs pool bs more, some, full)

-- ---- the case
pub case_of-no_mode : (bs : List ℕ) → number_first 10 (words_of bs) ≡ None → case_of bs ≡ None
unfolding case_of
case_of-no_mode bs none = rw none

pub case_of-no_width : (mode : ℕ) (bs : List ℕ) (ws : List (List ℕ)) → number_first 10 (words_of bs) ≡ Some (mode, ws) → number_first 10 ws ≡ None → case_of bs ≡ None
unfolding case_of
case_of-no_width mode bs ws some none = rw (some, none)

pub case_of-no_records : (mode width : ℕ) (bs : List ℕ) (ws vs : List (List ℕ)) → number_first 10 (words_of bs) ≡ Some (mode, ws) → number_first 10 ws ≡ Some (width, vs)
    → with_records 1025 [] [] vs ≡ None → case_of bs ≡ None
unfolding case_of
case_of-no_records mode width bs ws vs some also none = rw (some, also, none)

pub case_of-whole : (mode width : ℕ) (bs pool : List ℕ) (rs : List LimbRecord) (ws vs : List (List ℕ)) → number_first 10 (words_of bs) ≡ Some (mode, ws) → number_first 10 ws ≡ Some (width, vs)
    → with_records 1025 [] [] vs ≡ Some (rs, pool) → case_of bs ≡ Some (record { mode = mode; width = width; records = rs; pool = pool })
unfolding case_of
case_of-whole mode width bs pool rs ws vs some also all = rw (some, also, all)
