use Rattle.std.proofs.Common.{◌≡◌, Option, option_map, sym, ◌∙◌, subst, rules}
use Rattle.std.proofs.lemmas.Bool.{false≢true}
use Rattle.exact.specs.Limbs.{limbs_value}
use Rattle.grid.specs.Modes.{mode_of}
use Rattle.batch.specs.Term.{column_weight}
use Rattle.ends.specs.declared.rounded_end.PlacedEnd.{PlacedEnd}
use Rattle.ends.specs.declared.rounded_end.RoundedEnd.{RoundedEnd}
use Rattle.partial_sum.specs.Rounded.{RoundedAt}
use Rattle.partial_sum.proofs.Determined.{as_rounded, nothing_rounds}
use Rattle.partial_sum.proofs.Meaning.{no_bits, some_bits}
use Rattle.partial_sum.proofs.settling.round_settled.Goals as goal
use Rattle.partial_sum.proofs.settling.round_settled.Goals.{else-not-end-via-then-not-end+else-bits-eq0, else-not-end-via-else-not-end}

pub returns-then-bits-eq0 : goal.returns-then-bits-eq0
returns-then-bits-eq0 g c = λ v meant. nothing_rounds _ _ c.args.end.negative c.args.end.partial (limbs_value c.args.end.whole.now) v _ _ c.if-not-end.true (no_bits (limbs_value c.args.end.whole.now) (sym c.bit_length-bits.ensures.is ∙ c.if-bits-eq0.true)) c.write_power.ensures meant

pub round_end-requires : goal.round_end-requires
round_end-requires g c = record {
  whole = c.requires.magnitude;
  few = c.requires.few;
  room = c.requires.room;
  from = c.requires.reach.from;
  upto = c.requires.reach.upto;
  nonzero = λ whole.
      elim c.else-not-end.branch [
        | else-not-end-via-then-not-end+else-bits-eq0 w ↦ some_bits (limbs_value c.args.end.whole.now) (λ none. w.if-bits-eq0.false (c.bit_length-bits.ensures.is ∙ none))
        | else-not-end-via-else-not-end w ↦ absurd (false≢true (sym whole ∙ w.if-not-end.false))
      ];
}

pub returns : goal.returns
returns g c = λ v meant.
    let u = g.G.Grid.spacing c.args.rounding.grid.now in
    let m = mode_of c.args.rounding.mode in
    let w = column_weight c.args.end.column in
    let a = limbs_value c.round_end.new.answer in
    let rounded : option_map (λ (r : PlacedEnd). r.rounded) c.round_end.result ≡ c.map.result = search rules in
    let told = c.round_end.ensures in
    subst (λ (r : Option RoundedEnd). RoundedAt u m c.args.end.partial v w r a) rounded (as_rounded u m c.args.end.negative c.args.end.partial (limbs_value c.args.end.whole.now) v w _ a meant told.outcome told.undetermined)
