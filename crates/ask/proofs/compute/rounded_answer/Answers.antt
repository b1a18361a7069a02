-- The answer of a number, and those of a zero.
use Rattle.std.proofs.Common.{◌≡◌, Bool, ◌⊎◌, length, pos, sym, refl, ap, ◌∙◌, inl, inr, arith, w32, rules}
use Rattle.std.proofs.lemmas.Int.{ints, to_z-of_z}
use Rattle.exact.specs.Limbs.{limbs_value}
use Rattle.batch.specs.TermKinds.{kind_number, zero_of_sign}
use Rattle.batch.specs.declared.kind.Kind.{Kind}
use Rattle.ends.specs.Directions.{direction_sign}
use Rattle.ends.specs.declared.direction.Direction.{Direction}
use Rattle.ends.specs.declared.direction.Direction.TheVariants.{Below, Above}
use Rattle.answers.specs.Published.{plain}
use Rattle.ask.proofs.Placing.{answer_of_number, answer_of_exact_zero, answer_of_inexact_zero, published_alike}
use Rattle.ask.proofs.compute.rounded_answer.Goals as goal
use Rattle.ask.proofs.compute.rounded_answer.Goals.{in-Exact, in-Below}

inexact : (d : Direction) → (d ≡ Below) ⊎ (d ≡ Above) → ¬ (direction_sign d ≡ pos 0)
inexact d (inl e) z = let h = sym (ap direction_sign e) ∙ z in omega (arith, ints)
inexact d (inr e) z = let h = sym (ap direction_sign e) ∙ z in omega (arith, ints)

pub returns-in-Some : goal.returns-in-Some
returns-in-Some c u m ps told =
    let r = c.args.rounded.end in
    let x = c.in-Some.extent in
    published_alike (direction_sign r.direction) (direction_sign r.direction)
    (ap kind_number c.regular.ensures) (to_z-of_z w32 x.exponent (search rules)) refl refl refl c.copy_limbs.ensures
    ∙ answer_of_number c.args.exact_zero_negative u m ps (length c.args.limbs.now) r c.args.rounded.depth (limbs_value c.args.sum.now) told x c.in-Some.is

pub returns : goal.returns
returns c u m ps told =
    let r = c.args.rounded.end in
    let d = c.args.rounded.depth in
    let a = limbs_value c.args.sum.now in
    let n = length c.args.limbs.now in
    c.plain_answer.ensures
    ∙ ap (λ (k : Kind). plain k (direction_sign r.direction) d n) c.zero.ensures
    ∙ elim c.match-end-2.branch [
      | in-Exact w ↦ ap (λ (b : Bool). plain (zero_of_sign b) (direction_sign r.direction) d n) w.negative-is
          ∙ answer_of_exact_zero c.args.exact_zero_negative u m ps n r d a told c.in_default.is w.in-Exact.is
      | in-Below w ↦ ap (λ (b : Bool). plain (zero_of_sign b) (direction_sign r.direction) d n) w.negative-is
          ∙ answer_of_inexact_zero c.args.exact_zero_negative u m ps n r d a told c.in_default.is (inexact r.direction w.in-Below.is)
    ]
