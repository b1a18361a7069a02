-- What a batch answers of a term that is there.
use Rattle.std.proofs.Common.{◌≡◌, ℕ, zero, suc, Bool, true, false, List, [], ◌∷◌, map, get_or, ℤ, pos, neg_ℤ, ◌-ℤ◌, ◌≤ℤ◌, Some, refl, ap, ◌∙◌, arith}
use Rattle.std.proofs.lemmas.Int.{ints}
use Rattle.std.specs.List.{slice_get, AllByRecursion}
use Rattle.std.specs.Option.{option_map}
use Rattle.std.proofs.lemmas.Option.{slice_get-map, get_or_from_slice_get}
use Rattle.batch.specs.Term.{Term, not_a_number, infinite, signed_zero, regular, Limited, RegularLimits, low_weight, top_weight, most_digits, farthest_top}
use Rattle.batch.specs.TermKinds.{kind_of, kind_is_regular, number_of_sign}
use Rattle.forms.specs.Forms as Forms
use Rattle.forms.specs.Forms.{spelling}
use Rattle.term_writer.specs.Lines.{text_of_term, term_line}
use Rattle.batch.specs.Lookup.{kind_of_term, low_of_term, top_of_term}
use Rattle.batch.specs.declared.kind.Kind.{Kind}
use Rattle.batch.specs.declared.kind.Kind.TheVariants.{NotANumber, PositiveInfinity, NegativeInfinity, PositiveZero, NegativeZero, Positive, Negative, Absent}

-- the answer F of term i, which is t
pub lookup_found : {Y : Type 0} (F : Term → Y) (y : Y) (ts : List Term) (i : ℕ) (t : Term) → slice_get ts i ≡ Some t → get_or (map F ts) i y ≡ F t
lookup_found F y ts i t e = get_or_from_slice_get (map F ts) i (F t) y (slice_get-map F ts i ∙ ap (option_map F) e)

-- term i is regular, with this sign
pub record RegularThere (ts : List Term) (i : ℕ) (negative : Bool) : Type 0 where
  pub m : ℕ
  pub q : ℤ
  pub at : slice_get ts i ≡ Some (regular negative m q)
  pub limits : RegularLimits m q

-- the first of some terms, by its kind
regular_of : (ts : List Term) (t : Term) (negative : Bool) → Limited t → kind_of t ≡ number_of_sign negative → RegularThere (t ∷ ts) zero negative
regular_of ts not_a_number true l e = cc
regular_of ts not_a_number false l e = cc
regular_of ts (infinite true) true l e = cc
regular_of ts (infinite true) false l e = cc
regular_of ts (infinite false) true l e = cc
regular_of ts (infinite false) false l e = cc
regular_of ts (signed_zero true) true l e = cc
regular_of ts (signed_zero true) false l e = cc
regular_of ts (signed_zero false) true l e = cc
regular_of ts (signed_zero false) false l e = cc
regular_of ts (regular true m q) true l e = record { m = m; q = q; at = refl; limits = l }
regular_of ts (regular true m q) false l e = cc
regular_of ts (regular false m q) true l e = cc
regular_of ts (regular false m q) false l e = record { m = m; q = q; at = refl; limits = l }

-- a term of the kind of a number is regular
pub regular_there : (ts : List Term) (i : ℕ) (negative : Bool) → AllByRecursion Limited ts → kind_of_term ts i ≡ number_of_sign negative → RegularThere ts i negative
regular_there [] i true l e = cc
regular_there [] i false l e = cc
regular_there (t ∷ ts) zero negative (h, l) e = regular_of ts t negative h e
regular_there (t ∷ ts) (suc i) negative (h, l) e =
    let r = regular_there ts i negative l e in
    record { m = r.m; q = r.q; at = r.at; limits = r.limits }

-- of either sign
pub regular_by_kind : (ts : List Term) (i : ℕ) → AllByRecursion Limited ts → kind_is_regular (kind_of_term ts i) ≡ true → (negative : Bool) × RegularThere ts i negative
regular_by_kind ts i l e = by_kind (kind_of_term ts i) refl e
  where
    by_kind : (k : Kind) → kind_of_term ts i ≡ k → kind_is_regular k ≡ true → (negative : Bool) × RegularThere ts i negative
    by_kind Positive f r = (false, regular_there ts i false l f)
    by_kind Negative f r = (true, regular_there ts i true l f)
    by_kind NotANumber f r = cc
    by_kind PositiveInfinity f r = cc
    by_kind NegativeInfinity f r = cc
    by_kind PositiveZero f r = cc
    by_kind NegativeZero f r = cc
    by_kind Absent f r = cc

-- two weights of a number within the limits
pub record WeightsNear (low top : ℤ) : Type 0 where
  pub order : low ≤ℤ top
  pub near : (top -ℤ low) ≤ℤ pos most_digits
  pub not_below : neg_ℤ (pos farthest_top) ≤ℤ top
  pub not_above : top ≤ℤ pos farthest_top

-- the weights of a regular term are such
pub weights_near : (ts : List Term) (i : ℕ) → AllByRecursion Limited ts → kind_is_regular (kind_of_term ts i) ≡ true → WeightsNear (low_of_term ts i) (top_of_term ts i)
weights_near ts i l e =
    let (negative, r) = regular_by_kind ts i l e in
    let limits = r.limits in
    let low = lookup_found low_weight (pos 0) ts i (regular negative r.m r.q) r.at in
    let top = lookup_found top_weight (pos 0) ts i (regular negative r.m r.q) r.at in
    record { order = omega (arith, ints, low, top, limits); near = omega (arith, ints, low, top, limits); not_below = omega (arith, ints, top, limits); not_above = omega (arith, ints, top, limits) }

-- the line of a kind that is not regular, and nothing for that of no term
abbrev pub special_line : Kind → List ℕ
special_line NotANumber = spelling Forms.not_a_number
special_line PositiveInfinity = spelling (Forms.infinity false)
special_line NegativeInfinity = spelling (Forms.infinity true)
special_line PositiveZero = spelling (Forms.signed_zero false)
special_line NegativeZero = spelling (Forms.signed_zero true)
special_line Positive = []
special_line Negative = []
special_line Absent = []

-- the line of one term that is not regular
special_text : (t : Term) → kind_is_regular (kind_of t) ≡ false → text_of_term t ≡ special_line (kind_of t)
special_text not_a_number h = refl
special_text (infinite true) h = refl
special_text (infinite false) h = refl
special_text (signed_zero true) h = refl
special_text (signed_zero false) h = refl
special_text (regular true m q) h = cc
special_text (regular false m q) h = cc

-- the line of a term that is not regular, by its kind
pub line_of_special : (ts : List Term) (i : ℕ) (k : Kind) → kind_of_term ts i ≡ k → kind_is_regular k ≡ false → term_line ts i ≡ special_line k
line_of_special [] i k e h = ap special_line e
line_of_special (t ∷ ts) zero k e h = special_text t (ap kind_is_regular e ∙ h) ∙ ap special_line e
line_of_special (t ∷ ts) (suc i) k e h = line_of_special ts i k e h
