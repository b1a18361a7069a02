-- Only the first place reaches up to the lowest bit.
use Rattle.std.proofs.Common.{◌≡◌, ◌*◌, get_or, pos, ◌-ℤ◌, ap, ◌∙◌, inl, inr, eq-zero-or-pos, w64, arith, rules}
use borrow.Author.Differences.{ints}
use Rattle.std.proofs.lemmas.Int.{to_z-of_z}
use Rattle.std.proofs.lemmas.List.{get_or-set_other}
use Rattle.std.proofs.lemmas.Grind.{get_or-set_at}
use Rattle.exact.specs.Limbs.{limbs_value}
use Rattle.limbs.specs.Bits.{bits_at_weight}
use Rattle.limbs.proofs.Runs.{none_below}
use Rattle.limbs.proofs.run.bits_below.Goals as goal

pub returns-then-not-is_empty-clause-each : goal.returns-then-not-is_empty-clause-each
returns-then-not-is_empty-clause-each c j l = elim (eq-zero-or-pos j) [
  | inl z ↦
      let first = rw (to_z-of_z w64 c.args.from c.ranges.from) at c.bits_from.ensures in
      get_or-set_at c.fill.new.self 0 j _ 0 z (search rules) ∙ first ∙ ap (bits_at_weight (limbs_value c.args.limbs.now)) (omega (arith, ints))
  | inr p ↦
      let none : get_or c.fill.new.self j 0 ≡ 0 = search rules in
      get_or-set_other c.fill.new.self 0 j _ 0 (λ e. absurd (omega arith)) ∙ none ∙ none_below (limbs_value c.args.limbs.now) (c.args.from -ℤ pos (32 * j)) (let h = c.requires in omega (arith, ints))
]
