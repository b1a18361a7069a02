-- What an answer is made of: where only finite terms count it is the exact sum, rounded once, and its depth.
use Rattle.std.proofs.Common.{◌≡◌, ℕ, ◌≤◌, Bool, true, false, eqb, List, ℤ, pos, sym, refl, ap, ◌∙◌, inl, ⊎_elim, arith}
use borrow.Author.Differences.{ints}
use Rattle.std.proofs.lemmas.Bool.{cond_both}
use Rattle.exact.specs.Integers.{signed, gap}
use Rattle.exact.specs.Dyadic.{Dyadic, ◌≈ᴰ◌, Nonzero, exponent}
use Rattle.grid.specs.Spacing.{Lawful}
use Rattle.grid.specs.Rounding.{Mode, Answer, rounded}
use Rattle.grid.proofs.Outcomes.{exact}
use Rattle.grid.proofs.Theorems.{right}
use Rattle.limbs.specs.Bits.{limbs_for}
use Rattle.batch.specs.Term.{Term, Batchable}
use Rattle.batch.specs.TermKinds.{kind_number, zero_of_sign}
use Rattle.batch.specs.declared.kind.Kind.{Kind}
use Rattle.sheet.specs.declared.mark.Mark.{Mark}
use Rattle.column.specs.Parts.{exact_sum}
use Rattle.column.specs.PartsOf.{parts_of}
use Rattle.column.specs.Depth.{depth}
use Rattle.column.proofs.Ranges.{sum_close}
use Rattle.survey.specs.Kinds.{class_of_sum, zero_negative, has, counted_kinds}
use Rattle.survey.specs.declared.class.SumClass.TheVariants.{Number}
use Rattle.answers.specs.Published.{Published, plain, is_zero, is_downward, regular_answer, rounded_answer, finite_answer, answer}
use Rattle.answers.specs.Laws.{answer_value}
use Rattle.answers.proofs.Equals.{wanted_on}
use Rattle.answers.proofs.LimbLists.{value_of_none}
use Rattle.answers.proofs.Values.{value_of_steps}
use Rattle.answers.proofs.Exponents.{few_digits}

-- two zeros are equal
zeros_≈ : (x y : Dyadic) → x.count ≡ pos 0 → y.count ≡ pos 0 → x ≈ᴰ y
zeros_≈ x y e f = grind (arith, ints)

signed_none : (s : Bool) → signed s 0 ≡ pos 0
signed_none s = grind (arith, ints)

-- what is not regular is 0
plain_count : (k : Kind) (d : ℤ) (n room : ℕ) → (answer_value (plain k d n room)).count ≡ pos 0
plain_count k d n room = let s = eqb (kind_number k) 6 in ap (signed s) (value_of_none room) ∙ signed_none s

pub zero_count : (x : Dyadic) → is_zero x ≡ true → x.count ≡ pos 0
zero_count x e = grind (arith, ints)

pub nonzero_count : (x : Dyadic) → is_zero x ≡ false → Nonzero x
nonzero_count x e z = grind (arith, ints)

-- the number, the direction and the depth of an answer
pub record Made (r : Answer) (n : ℕ) (a : Published) : Type 0 where
  pub value : answer_value a ≈ᴰ r.value
  pub direction : a.direction ≡ r.direction
  pub depth : a.depth ≡ n

module _ (u : ℤ → ℤ) (W : ℕ) (L : Lawful u W) (m : Mode) (marks : ℕ → Mark) (ts : List Term) (B : Batchable ts) (room : ℕ) (R : limbs_for W ≤ room) where
  abbrev x : Dyadic
  x = exact_sum (parts_of marks ts)

  abbrev r : Answer
  r = rounded u m x

  abbrev d : ℕ
  d = depth u m (parts_of marks ts)

  zero_made : (k : Kind) → x.count ≡ pos 0 → Made r d (plain k (pos 0) d room)
  zero_made k z =
      let e = exact u m x (inl z) in
      record { value = zeros_≈ (answer_value (plain k (pos 0) d room)) r.value (plain_count k (pos 0) d room) (ap (λ (y : Dyadic). y.count) e.0 ∙ z); direction = sym e.1; depth = refl }

  -- a sum that is not 0
  regular_made : Nonzero x → Nonzero r.value → Made r d (regular_answer u r.value r.direction d room)
  regular_made N V =
      let c = sum_close marks ts B in
      let f = few_digits u W L m x N (omega (arith, ints)) (omega (arith, ints)) V in
      let n : limbs_for (gap (exponent r.value) (u (exponent r.value))) ≤ room = omega arith in
      record {
        value = ⊎_elim (λ z. absurd (V z)) (λ s. value_of_steps u r.value V s.0 s.1 r.direction d room n) (wanted_on u m x r.value (right u W L m x));
        direction = refl;
        depth = refl;
      }

  rounded_made : Nonzero x → Made r d (rounded_answer u r d room)
  rounded_made N =
      let p = plain (zero_of_sign r.negative) r.direction d room in
      cond_both (is_zero r.value) p (regular_answer u r.value r.direction d room) (Made r d)
      (λ e. record { value = zeros_≈ (answer_value p) r.value (plain_count (zero_of_sign r.negative) r.direction d room) (zero_count r.value e); direction = refl; depth = refl })
      (λ e. regular_made N (nonzero_count r.value e))

  finite_made : Made r d (finite_answer marks ts u m room)
  finite_made =
      let k = zero_of_sign (zero_negative (is_downward m) (has (counted_kinds marks ts))) in
      cond_both (is_zero x) (plain k (pos 0) d room) (rounded_answer u r d room) (Made r d) (λ e. zero_made k (zero_count x e)) (λ e. rounded_made (nonzero_count x e))

  pub answer_made : class_of_sum marks ts ≡ Number → Made r d (answer marks ts u m room)
  unfolding answer
  answer_made e = grind (arith, ints, finite_made)
