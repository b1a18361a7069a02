-- The bit below the spacing is the one at the distance less one.
use Rattle.std.proofs.Common.{◌≡◌, ℕ, ◌-◌, ap, ◌∙◌, arith}
use Rattle.std.proofs.lemmas.Int.{ints}
use Rattle.exact.specs.Limbs.{limbs_value}
use Rattle.ends.specs.Ends.{raises, left_out}
use Rattle.grid.specs.Modes.{mode_of}
use Rattle.ends.proofs.rounding.decide_at.Goals as goal

pub returns : goal.returns
returns c =
    let n = limbs_value c.args.end.whole.now in
    let r = c.distance.result in
    record {
      fine = λ h. absurd (omega (arith, ints, c.if-place.false));
      coarse = λ i h.
          let e : r - 1 ≡ i = omega (arith, ints, c.distance.ensures.is) in (
            c.decide.ensures.raise ∙ ap (λ (y : ℕ). raises (mode_of c.args.mode) c.args.end.negative c.args.end.partial n y) e,
            c.decide.ensures.inexact ∙ ap (λ (y : ℕ). left_out c.args.end.partial n y) e,
          );
    }
