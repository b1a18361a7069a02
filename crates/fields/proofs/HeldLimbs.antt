-- Limbs that are held, and each of them.
use Rattle.std.proofs.Common.{◌≡◌, ℕ, ◌+◌, ◌*◌, ◌/◌, ◌<◌, ◌≤◌, List, take, drop, arith}
use Rattle.std.specs.Prelude.{◌==◌, ◌%◌, length, slice_index}
use Rattle.std.specs.Str.Parse.{digits_value, AllDigits}
use Rattle.std.proofs.lemmas.Bool.{eqb-true}
use Rattle.fields.specs.Words.{IsLimbsText}
use Rattle.fields.specs.Checking.{break_from, in_limbs, limbs_in}
use Rattle.fields.specs.Held.{limbs_held}
use Rattle.fields.specs.declared.held.Limbs.{Limbs}
use Rattle.fields.proofs.ByPlaces.{unbroken-ok}
use Rattle.fields.proofs.LimbTexts.{standing-text, length-first_limbs, get_or-first_limbs, limb-all_digits}

-- ---- one limb of a text
-- how many there are
pub length_limbs_in : (text : List ℕ) → length (limbs_in text) ≡ (length text + 1) / 9
length_limbs_in text = length-first_limbs ((length text + 1) / 9) text

-- limb i lies within the text
pub limb_within : (i : ℕ) (text : List ℕ) → i < length (limbs_in text) → 9 * i + 8 ≤ length text
limb_within i text l = omega (arith, length_limbs_in text)

-- it is what its digits write
pub limb_read : (i : ℕ) (text : List ℕ) → i < length (limbs_in text) → slice_index (limbs_in text) i ≡ digits_value 16 (take 8 (drop (9 * i) text))
limb_read i text l = get_or-first_limbs ((length text + 1) / 9) i text (omega (arith, length_limbs_in text))

-- which are digits
pub limb_digits : (i : ℕ) (limbs : Limbs) → i < length (limbs_held limbs) → AllDigits 16 (take 8 (drop (9 * i) limbs.text.now))
limb_digits i limbs l = limb-all_digits i limbs.text.now limbs.spelled (limb_within i limbs.text.now l)

-- ---- all of them
-- they are those that their text spells, each of 32 bits
pub held_spelled : (limbs : Limbs) → IsLimbsText (limbs_held limbs) limbs.text.now
held_spelled limbs =
    let text = limbs.text.now in
    let stands = unbroken-ok (break_from in_limbs 0 text) (length text % 9 == 8) (length text) (limbs_in text) limbs.spelled in
    standing-text text stands.0 (eqb-true (length text % 9) 8 stands.1)
