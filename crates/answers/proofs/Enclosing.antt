-- Two answers, one downward and one upward, enclose the exact sum.
use Rattle.std.proofs.Common.{◌≡◌, ℕ, ◌≤◌, List, ℤ, Some, sym, refl, ap, ◌∙◌, subst, arith}
use borrow.Author.Differences.{ints}
use mathlib.Core.Path.{fun_ext}
use Rattle.exact.specs.Dyadic.{Dyadic, ◌≈ᴰ◌}
use Rattle.exact.proofs.Order.{≈ᴰ_trans}
use Rattle.grid.specs.Spacing.{Lawful}
use Rattle.grid.specs.Rounding.{Mode, downward, upward, mode_numbered, rounded}
use Rattle.grid.specs.Claims.{Enclosed}
use Rattle.grid.proofs.Theorems.{enclosure}
use Rattle.limbs.specs.Bits.{limbs_for}
use Rattle.batch.specs.Term.{Term, Batchable}
use Rattle.sheet.specs.declared.mark.Mark.{Mark}
use Rattle.survey.specs.Kinds.{class_of_sum}
use Rattle.survey.specs.declared.class.SumClass.TheVariants.{Number}
use Rattle.column.specs.Parts.{exact_sum}
use Rattle.column.specs.PartsOf.{parts_of}
use Rattle.answers.specs.Published.{Published, answer}
use Rattle.answers.specs.Asked.{Question}
use Rattle.answers.specs.Laws.{answer_value, sum_asked, Proper, Twins, AnswersEnclose}
use Rattle.answers.proofs.Equals.{lt_left, lt_right, lower_≈, upper_≈}
use Rattle.answers.proofs.Made.{Made, answer_made}
use Rattle.answers.proofs.Asked.{when_answered}

-- what encloses a number still does if equal numbers stand for the two sides
enclosed_≈ : (u : ℤ → ℤ) (x lo hi v w : Dyadic) → lo ≈ᴰ v → hi ≈ᴰ w → Enclosed u x lo hi → Enclosed u x v w
enclosed_≈ u x lo hi v w e f E = record {
  agree = λ o. ≈ᴰ_trans v lo w (sym e) (≈ᴰ_trans lo hi w (E.agree o) f);
  agreed = λ s. E.agreed (≈ᴰ_trans lo v hi e (≈ᴰ_trans v w hi s (sym f)));
  lower = λ n. (lower_≈ u x lo v e (E.lower n).0, lt_left lo v e x (E.lower n).1);
  upper = λ n. (upper_≈ u x hi w f (E.upper n).0, lt_right hi w f x (E.upper n).1);
}

-- the answer to a question in a mode is what the sum rounds to
module _ (u : ℤ → ℤ) (W : ℕ) (L : Lawful u W) (marks : ℕ → Mark) (ts : List Term) (B : Batchable ts) (F : class_of_sum marks ts ≡ Number) where
  value_is : (m : Mode) (room : ℕ) (a : Published) → limbs_for W ≤ room → answer marks ts u m room ≡ a → (rounded u m (exact_sum (parts_of marks ts))).value ≈ᴰ answer_value a
  value_is m room a R e = grind (arith, ints, Made, answer_made)

-- the mode of a number that is known
mode_is : (n k : ℕ) (m o : Mode) → mode_numbered n ≡ Some m → n ≡ k → mode_numbered k ≡ Some o → m ≡ o
mode_is n k m o e f g = grind (arith, ints)

pub answers_enclose : AnswersEnclose
answers_enclose marks p q down up P t e f F =
    let k = when_answered marks p down e in
    let l = when_answered marks q up f in
    let u = q.spacing in
    let ts = q.terms in
    let x = sum_asked marks q in
    let W = q.width in
    let first : answer marks ts u downward p.limbs ≡ down =
    ap (λ (m : Mode). answer marks ts u m p.limbs) (sym (mode_is p.mode 1 k.mode downward k.numbered t.down refl))
    ∙ ap (λ (s : ℤ → ℤ). answer marks ts s k.mode p.limbs) (sym (fun_ext t.spacing))
    ∙ ap (λ (y : List Term). answer marks y p.spacing k.mode p.limbs) (sym t.terms) ∙ k.is in
    let second : answer marks ts u upward q.limbs ≡ up = ap (λ (m : Mode). answer marks ts u m q.limbs) (sym (mode_is q.mode 2 l.mode upward l.numbered t.up refl)) ∙ l.is in
    enclosed_≈ u x (rounded u downward x).value (rounded u upward x).value (answer_value down) (answer_value up)
    (value_is u W P.lawful marks ts P.batchable F downward p.limbs down (subst (λ (n : ℕ). limbs_for n ≤ p.limbs) t.width k.room) first)
    (value_is u W P.lawful marks ts P.batchable F upward q.limbs up l.room second)
    (enclosure u W P.lawful x)

-- what one of two such questions keeps to, the other does
pub twin_proper : (p q : Question) → Twins p q → Proper p → Proper q
twin_proper p q t P = record {
  batchable = subst Batchable t.terms P.batchable;
  lawful = subst (λ (n : ℕ). Lawful q.spacing n) t.width (subst (λ (s : ℤ → ℤ). Lawful s p.width) (fun_ext t.spacing) P.lawful);
}
