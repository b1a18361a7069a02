-- The list of the counted terms grows with each place as the parts do.
use Rattle.std.proofs.Common.{◌≡◌, ℕ, suc, ◌+◌, ◌<◌, Bool, true, false, ◌==◌, List, [], ◌∷◌, ◌++◌, map, length, get_or, take, pos, sym, refl, ap, ◌∙◌, ap₂, append_assoc, append-nil, arith}
use borrow.Author.Differences.{ints}
use denote.Enum.Bare.{sameb}
use Rattle.std.specs.List.{AllByRecursion}
use Rattle.std.proofs.ByRecursion.{All-map, All-append}
use Rattle.std.proofs.lemmas.List.{take_more, get_or-map, map-append, length-take-le}
use Rattle.exact.proofs.BitLength.{pos_of_size}
use Rattle.batch.specs.Term.{Term, not_a_number, Limited}
use Rattle.batch.specs.TermKinds.{kind_of, kind_number, kind_is_regular}
use Rattle.batch.specs.Lookup.{kind_of_term}
use Rattle.batch.specs.contracts.kind.Kind.{the_type}
use Rattle.batch.specs.declared.kind.Kind.{Kind}
use Rattle.batch.specs.declared.kind.Kind.TheVariants.{NotANumber, PositiveInfinity, NegativeInfinity, PositiveZero, NegativeZero, Positive, Negative, Absent}
use Rattle.sheet.specs.declared.mark.Mark.{Mark}
use Rattle.column.specs.declared.term.CountedTerm.{CountedTerm}
use Rattle.column.specs.Parts.{Part, part, Regular}
use Rattle.column.specs.PartsOf.{regular_part, counted_part, parts_from, parts_of}
use Rattle.survey.specs.Kinds.{counted_kind}
use Rattle.column.specs.Listed.{signed_part, listed_part, parts_listed}

-- ---- one term
-- is this the kind of the numbers below 0?
abbrev pub below_0 : Kind → Bool
below_0 q = kind_number q == 6

-- `==` with that kind
pub is_below_0 : (q : Kind) → sameb the_type q Negative ≡ below_0 q
is_below_0 = elim [
  | NotANumber ↦ refl
  | PositiveInfinity ↦ refl
  | NegativeInfinity ↦ refl
  | PositiveZero ↦ refl
  | NegativeZero ↦ refl
  | Positive ↦ refl
  | Negative ↦ refl
  | Absent ↦ refl
]

counted_some : (k : Mark) (t : Term) → kind_is_regular (counted_kind k (kind_of t)) ≡ true → counted_part k t ≡ signed_part (below_0 (counted_kind k (kind_of t))) t ∷ []
counted_some k t h = grind (arith, ints)

counted_none : (k : Mark) (t : Term) → kind_is_regular (counted_kind k (kind_of t)) ≡ false → counted_part k t ≡ []
counted_none k t h = grind (arith, ints)

-- ---- one place more
parts_push : (marks : ℕ → Mark) (j : ℕ) (ts : List Term) (t : Term) → parts_from marks j (ts ++ t ∷ []) ≡ parts_from marks j ts ++ counted_part (marks (j + length ts)) t
parts_push marks j [] t = grind (arith, ints)
parts_push marks j (x ∷ ts) t =
    let e : suc j + length ts ≡ j + suc (length ts) = omega arith in
    ap (λ (ps : List Part). counted_part (marks j) x ++ ps) (parts_push marks (suc j) ts t ∙ ap (λ (i : ℕ). parts_from marks (suc j) ts ++ counted_part (marks i) t) e)
    ∙ sym (append_assoc (counted_part (marks j) x) (parts_from marks (suc j) ts) (counted_part (marks (j + suc (length ts))) t))

module _ (ts : List Term) (marks : ℕ → Mark) (i : ℕ) (h : i < length ts) where
  at_place : Term
  at_place = get_or ts i not_a_number

  parts_more : parts_of marks (take (i + 1) ts) ≡ parts_of marks (take i ts) ++ counted_part (marks i) at_place
  unfolding at_place
  parts_more =
      let e : 0 + length (take i ts) ≡ i = omega (arith, length-take-le i ts (omega arith)) in
      ap (parts_of marks) (take_more ts i not_a_number h) ∙ parts_push marks 0 (take i ts) (get_or ts i not_a_number)
      ∙ ap (λ (n : ℕ). parts_of marks (take i ts) ++ counted_part (marks n) (get_or ts i not_a_number)) e

  kind_at : kind_of_term ts i ≡ kind_of at_place
  unfolding at_place
  kind_at = get_or-map kind_of ts i not_a_number Absent h

  -- the kind that is read there, as it counts
  module _ (q : Kind) (kind : q ≡ counted_kind (marks i) (kind_of_term ts i)) where
    counts : q ≡ counted_kind (marks i) (kind_of at_place)
    counts = kind ∙ ap (counted_kind (marks i)) kind_at

    pub listed_none : (cs : List CountedTerm) → parts_listed ts cs ≡ parts_of marks (take i ts) → kind_is_regular q ≡ false → parts_listed ts cs ≡ parts_of marks (take (i + 1) ts)
    listed_none cs l e =
        let n = counted_none (marks i) at_place (sym (ap kind_is_regular counts) ∙ e) in
        l ∙ sym (parts_more ∙ ap (λ (ps : List Part). parts_of marks (take i ts) ++ ps) n ∙ append-nil (parts_of marks (take i ts)))

    pub listed_one : (cs ds : List CountedTerm) (c : CountedTerm) → parts_listed ts cs ≡ parts_of marks (take i ts) → kind_is_regular q ≡ true → c.place ≡ i → c.negative ≡ below_0 q → ds ≡ cs ++ c ∷ []
        → parts_listed ts ds ≡ parts_of marks (take (i + 1) ts)
    unfolding at_place
    listed_one cs ds c l e there b f =
        let s = c.negative in
        let r = below_0 (counted_kind (marks i) (kind_of at_place)) in
        let is : s ≡ r = b ∙ ap below_0 counts in
        let n = counted_some (marks i) at_place (sym (ap kind_is_regular counts) ∙ e) in
        let p : listed_part ts c ≡ signed_part r at_place =
        ap (λ (j : ℕ). get_or (map (signed_part s) ts) j (part s 0 (pos 0))) there ∙ get_or-map (signed_part s) ts i not_a_number (part s 0 (pos 0)) h ∙ ap (λ (x : Bool). signed_part x at_place) is in
        ap (map (listed_part ts)) f ∙ map-append (listed_part ts) cs (c ∷ []) ∙ ap₂ (λ (ps : List Part) (x : Part). ps ++ x ∷ []) l p
        ∙ sym (parts_more ∙ ap (λ (ps : List Part). parts_of marks (take i ts) ++ ps) n)

-- ---- no part is 0
regular_not_zero : (t : Term) → Limited t → Regular (regular_part t)
regular_not_zero t h = grind (arith, ints, pos_of_size)

counted_regular : (k : Mark) (t : Term) → Limited t → Regular (counted_part k t)
counted_regular k t h = grind (arith, ints, All-map, regular_not_zero)

pub parts_regular : (marks : ℕ → Mark) (i : ℕ) (ts : List Term) → AllByRecursion Limited ts → Regular (parts_from marks i ts)
parts_regular marks i [] l = tt
parts_regular marks i (t ∷ ts) (h, l) = grind (arith, ints, All-append, counted_regular, parts_regular marks (suc i) ts l)
