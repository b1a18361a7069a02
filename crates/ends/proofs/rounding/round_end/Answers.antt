-- The laws of the grid at the end's exponent, and the answer of the spacings there.
use Rattle.std.proofs.Common.{◌≡◌, ℕ, ◌*◌, ◌≤◌, true, length, ℤ, pos, ◌+ℤ◌, ◌*ℤ◌, ◌≤ℤ◌, ◌<ℤ◌, ap, ◌∙◌, subst, arith, w32, SFits, to_z, of_z, rules}
use lib.Ieee.{size}
use Rattle.std.proofs.lemmas.Int.{ints, to_z-of_z}
use Rattle.std.proofs.lemmas.Bool.{both_ways}
use Rattle.exact.specs.Limbs.{limbs_value}
use Rattle.grid.specs.Spacing.{lowest, highest, InRange, Lawful}
use Rattle.grid.specs.Modes.{mode_of}
use Rattle.grid.proofs.Everywhere.{laws_everywhere}
use Rattle.ends.specs.Ends.{spacing_there}
use Rattle.ends.specs.Outcome.{Right}
use Rattle.ends.proofs.Borders.{fine_bordered, coarse_not_bordered}
use Rattle.ends.proofs.AnswersOfEnds.{laws_there, unused_limbs, answered_at}
use Rattle.ends.proofs.rounding.round_end.Goals as goal
use Rattle.ends.proofs.rounding.round_end.Goals.{else-end-via-then-end+else-unit-base, else-end-via-else-end}

-- a number of 32 bits, as it is read
abbrev read : ℤ → ℤ
read z = to_z w32 (of_z w32 z)

-- the spacings v and x at the exponent e and at the next one
module _ (u : ℤ → ℤ) (W len : ℕ) (L : Lawful u W) (e v x : ℤ) (ef : SFits w32 e) (vf : SFits w32 v) (xf : SFits w32 x) (from : lowest ≤ℤ e) (upto : e <ℤ highest)
    (at_e : v ≡ u (read e)) (at_next : x ≡ u (read (read e +ℤ pos 1))) (room : W ≤ 32 * len) where
  here : InRange e
  here = record { from = from; upto = omega (arith, ints) }

  spacing_here : v ≡ u e
  spacing_here = at_e ∙ ap u (to_z-of_z w32 e ef)

  spacing_next : x ≡ u (e +ℤ pos 1)
  spacing_next = at_next ∙ ap u (let n : read (read e +ℤ pos 1) ≡ e +ℤ pos 1 = omega (arith, ints) in n)

  laws : (v <ℤ e → x ≤ℤ e) × (e ≤ℤ (v +ℤ pos (32 * len))) × ((e +ℤ pos 1) ≤ℤ (x +ℤ pos (32 * len)))
  laws = laws_there u W len L e v x here record { from = omega (arith, ints); upto = omega (arith, ints) } spacing_here spacing_next room

  laws_read : (read v <ℤ highest) × (read v <ℤ read e → read x ≤ℤ read e) × (read e ≤ℤ (read v +ℤ pos (32 * len))) × ((read e +ℤ pos 1) ≤ℤ (read x +ℤ pos (32 * len)))
  laws_read =
      let below = L.below e here in
      let is = spacing_here in
      rw (to_z-of_z w32 e ef, to_z-of_z w32 v vf, to_z-of_z w32 x xf) (omega (arith, ints), laws.0, laws.1, laws.2)

pub round_at-requires : goal.round_at-requires
round_at-requires g c =
    let s = c.args.rounding.grid.now in
    let e = c.exponent_of-exponent in
    let L = g.G.Grid.lawful s in
    let (unit, inside, fits, next) = laws_read (g.G.Grid.spacing s) (g.G.Grid.widest s) (length c.args.answer.now) L e.result c.spacing-unit.result c.spacing-next.result (search rules) (search rules) (search rules)
    e.ensures.from e.ensures.upto c.spacing-unit.ensures c.spacing-next.ensures c.requires.room in
    record {
      bits = search rules;
      exponent = omega (arith, ints, e.ensures.is, c.bit_length-bits.ensures.is);
      cap = search rules;
      unit = unit;
      inside = inside;
      fits = fits;
      next = next;
      some = omega (arith, c.requires.room, L.width_low);
      few = search rules;
      nonzero = search rules;
      determined = λ p. elim c.else-end.branch [
        | else-end-via-then-end+else-unit-base k ↦ omega (arith, ints, k.if-unit-base.false)
        | else-end-via-else-end k ↦ absurd (both_ways c.args.end.partial k.if-end.false p)
      ];
    }

-- the spacing v at the exponent e of n units of 2 ^ w
there : (u : ℤ → ℤ) (n : ℕ) (w e v : ℤ) → SFits w32 e → v ≡ u (read e) → e ≡ w +ℤ pos (size n) → v ≡ spacing_there u n w
there u n w e v ef at_e is = at_e ∙ ap u (to_z-of_z w32 e ef ∙ is)

pub returns-then-unit-base-clause-undetermined : goal.returns-then-unit-base-clause-undetermined
returns-then-unit-base-clause-undetermined g c =
    let s = c.args.rounding.grid.now in
    let u = g.G.Grid.spacing s in
    let n = limbs_value c.args.end.whole.now in
    let e = c.exponent_of-exponent.result in
    let v = c.spacing-unit.result in
    let h = pos 32 *ℤ c.args.end.column in
    let ef : SFits w32 e = search rules in
    let vf : SFits w32 v = search rules in
    let wf : SFits w32 c.exponent_of-base.result = search rules in
    let V : v ≡ spacing_there u n h = there u n h e v ef c.spacing-unit.ensures (omega (arith, ints, c.exponent_of-exponent.ensures.is, c.bit_length-bits.ensures.is)) in
    let l : v ≤ℤ h = omega (arith, ints, c.if-unit-base.true, c.exponent_of-base.ensures.is) in
    fine_bordered u (laws_everywhere u (g.G.Grid.widest s) (g.G.Grid.lawful s)) c.args.end.negative n h (subst (λ (z : ℤ). z ≤ℤ h) V l)

pub returns : goal.returns
returns g c =
    let s = c.args.rounding.grid.now in
    let u = g.G.Grid.spacing s in
    let L = g.G.Grid.lawful s in
    let n = limbs_value c.args.end.whole.now in
    let m = mode_of c.args.rounding.mode in
    let w = c.exponent_of-base.result in
    let e = c.exponent_of-exponent.result in
    let v = c.spacing-unit.result in
    let x = c.spacing-next.result in
    let h = pos 32 *ℤ c.args.end.column in
    let ef : SFits w32 e = search rules in
    let vf : SFits w32 v = search rules in
    let xf : SFits w32 x = search rules in
    let wf : SFits w32 w = search rules in
    let V : v ≡ spacing_there u n h = there u n h e v ef c.spacing-unit.ensures (omega (arith, ints, c.exponent_of-exponent.ensures.is, c.bit_length-bits.ensures.is)) in
    let R : read v ≡ spacing_there u n h = to_z-of_z w32 v vf ∙ V in
    let next : read (read e +ℤ pos 1) ≡ read e +ℤ pos 1 = omega (arith, ints, c.exponent_of-exponent.ensures.upto) in
    let B : read w ≡ h = omega (arith, ints, c.exponent_of-base.ensures.is) in
    let r = c.round_at.result in
    let right = c.round_at.ensures u (g.G.Grid.widest s) L (to_z-of_z w32 v vf ∙ c.spacing-unit.ensures) (to_z-of_z w32 x xf ∙ c.spacing-next.ensures ∙ ap u next) in
    let a = subst (λ (z : ℤ). Right u m c.args.end.negative c.args.end.partial n z r (limbs_value c.round_at.new.answer)) B right in
    let coarse : c.args.end.partial ≡ true → h <ℤ spacing_there u n h = λ p. elim c.else-end.branch [
      | else-end-via-then-end+else-unit-base k ↦
          let l : h <ℤ v = omega (arith, ints, k.if-unit-base.false, c.exponent_of-base.ensures.is) in
          subst (λ (z : ℤ). h <ℤ z) V l
      | else-end-via-else-end k ↦ absurd (both_ways c.args.end.partial k.if-end.false p)
    ] in
    record {
      outcome = (coarse, a);
      undetermined = λ p. coarse_not_bordered u (laws_everywhere u (g.G.Grid.widest s) L) c.args.end.negative n h (coarse p);
      unused = unused_limbs u m c.args.end.negative c.args.end.partial n h r.extent _ c.round_at.new.answer (λ i l. (c.type_inv.answer i).fits) a.1;
      spacing = R;
      told = (a.0, answered_at u m c.args.end.negative c.args.end.partial n h r.extent _ (limbs_value c.round_at.new.answer) (read v) R a.1);
    }
