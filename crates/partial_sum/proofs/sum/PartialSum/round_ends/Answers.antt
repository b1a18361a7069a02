use Rattle.std.proofs.Common.{◌≡◌, ℕ, ◌^◌, ◌<◌, true, false, get_or, Option, sym, ap, ◌∙◌, subst, arith, rules}
use Rattle.std.proofs.lemmas.Bool.{false≢true}
use Rattle.std.proofs.lemmas.Slice.Eq.{slice_eq-Decides}
use Rattle.std.proofs.lemmas.Bool.Decides.{Decides-eqb}
use Rattle.exact.specs.Limbs.{limbs_value}
use Rattle.grid.specs.Modes.{mode_of}
use Rattle.ends.specs.declared.rounded_end.RoundedEnd.{RoundedEnd}
use Rattle.partial_sum.specs.Rounded.{BothRounded}
use Rattle.partial_sum.proofs.LimbLists.{limbs_same}
use Rattle.partial_sum.proofs.Same.{same_when, when_same, same_end}
use Rattle.partial_sum.proofs.Assembling.{undecided_at, decided, decided_at_once, undecided}
use Rattle.partial_sum.proofs.Shortness.{undecided_yet}
use Rattle.partial_sum.proofs.sum.PartialSum.round_ends.Goals as goal
use Rattle.partial_sum.proofs.sum.PartialSum.round_ends.Goals.{else-eq-2-via-then-eq-2+else-eq-3, else-eq-2-via-else-eq-2}

pub returns-then-too_short_to_decide : goal.returns-then-too_short_to_decide
returns-then-too_short_to_decide g c =
    let grid = c.args.rounding.grid.now in
    let short = c.if-too_short_to_decide.true in
    undecided_yet (g.G.Grid.spacing grid) (g.G.Grid.widest grid) (g.G.Grid.lawful grid) (mode_of c.args.rounding.mode) c.args.self.now c.args.below.reaching c.args.below.column c.requires.reached
    (sym c.if-is_some.ensures) (c.too_short_to_decide.ensures.whole short) (c.too_short_to_decide.ensures.member short)

pub round_at-requires-clause-room : goal.round_at-requires-clause-room
round_at-requires-clause-room g c =
    let lawful = g.G.Grid.lawful c.args.rounding.grid.now in
    omega (arith, c.requires.room, lawful.width_high)

pub returns-in_err-first : goal.returns-in_err-first
returns-in_err-first g c =
    let grid = c.args.rounding.grid.now in
    subst (λ (o : Option RoundedEnd). BothRounded (g.G.Grid.spacing grid) (mode_of c.args.rounding.mode) c.args.self.now c.args.below.reaching c.args.below.column o (limbs_value c.round_at.new.answer)) (sym c.from_residual.ensures)
    (undecided_at (g.G.Grid.spacing grid) (g.G.Grid.widest grid) (g.G.Grid.lawful grid) (mode_of c.args.rounding.mode) c.args.self.now c.requires.reach c.args.below.reaching
    false c.args.below.column c.requires.reached c.ends.result.0 c.ends.ensures.lower_small c.ends.ensures.lower c.in_err-first.ensures.rounded)

pub returns-then-eq : goal.returns-then-eq
returns-then-eq g c =
    let grid = c.args.rounding.grid.now in
    let same : c.ends.result.0 ≡ c.ends.result.1 = search rules in
    decided_at_once (g.G.Grid.spacing grid) (g.G.Grid.widest grid) (g.G.Grid.lawful grid) (mode_of c.args.rounding.mode) c.args.self.now c.requires.reach c.args.below.reaching
    c.args.below.column c.requires.reached c.ends.result.0 c.ends.result.1 c.ends.ensures.lower c.ends.ensures.upper
    c.in_ok-first.first (limbs_value c.round_at.new.answer) c.in_ok-first.ensures.rounded same

pub round_at-requires-2-clause-room : goal.round_at-requires-2-clause-room
round_at-requires-2-clause-room g c =
    let lawful = g.G.Grid.lawful c.args.rounding.grid.now in
    lawful.width_high

pub returns-in_err-second : goal.returns-in_err-second
returns-in_err-second g c =
    let grid = c.args.rounding.grid.now in
    subst (λ (o : Option RoundedEnd). BothRounded (g.G.Grid.spacing grid) (mode_of c.args.rounding.mode) c.args.self.now c.args.below.reaching c.args.below.column o (limbs_value c.round_at.new.answer)) (sym c.from_residual-in_err-second.ensures)
    (undecided_at (g.G.Grid.spacing grid) (g.G.Grid.widest grid) (g.G.Grid.lawful grid) (mode_of c.args.rounding.mode) c.args.self.now c.requires.reach c.args.below.reaching
    true c.args.below.column c.requires.reached c.ends.result.1 c.ends.ensures.upper_small c.ends.ensures.upper c.in_err-second.ensures.rounded)

pub returns-then-eq-3 : goal.returns-then-eq-3
returns-then-eq-3 g c =
    let grid = c.args.rounding.grid.now in
    let fields = same_when c.in_ok-first.first c.in_ok-second.second (sym c.eq-2.ensures ∙ c.if-eq-2.true) in
    let decides = slice_eq-Decides Decides-eqb c.round_at.new.answer c.round_at-2.new.answer c.eq-then-eq-2.result c.eq-then-eq-2.ensures in
    let limbs = ap limbs_value (decides.0 c.if-eq-3.true) in
    decided (g.G.Grid.spacing grid) (g.G.Grid.widest grid) (g.G.Grid.lawful grid) (mode_of c.args.rounding.mode) c.args.self.now c.requires.reach c.args.below.reaching
    c.args.below.column c.requires.reached c.ends.result.0 c.ends.result.1 c.ends.ensures.lower c.ends.ensures.upper
    c.in_ok-first.first c.in_ok-second.second (limbs_value c.round_at.new.answer) (limbs_value c.round_at-2.new.answer) c.in_ok-first.ensures.rounded c.in_ok-second.ensures.rounded fields limbs

pub returns-else-eq-2 : goal.returns-else-eq-2
returns-else-eq-2 g c =
    let grid = c.args.rounding.grid.now in
    let a = limbs_value c.round_at.new.answer in
    let b = limbs_value c.round_at-2.new.answer in
    let ends : ¬ (c.ends.result.0 ≡ c.ends.result.1) = λ same. false≢true (sym c.if-eq.false ∙ c.eq.ensures ∙ same_end _ _ same) in
    let low : (i : ℕ) → get_or c.round_at.new.answer i 0 < 2 ^ 32 = c.round_at.ensures.limbs in
    let high : (i : ℕ) → get_or c.round_at-2.new.answer i 0 < 2 ^ 32 = c.round_at-2.ensures.limbs in
    let differ : ¬ ((c.in_ok-first.first ≡ c.in_ok-second.second) × (a ≡ b)) = λ (fields, limbs).
    elim c.else-eq-2.branch [
      | else-eq-2-via-then-eq-2+else-eq-3 w ↦
          false≢true (sym w.if-eq-3.false ∙ (slice_eq-Decides Decides-eqb c.round_at.new.answer c.round_at-2.new.answer w.eq-then-eq-2.result w.eq-then-eq-2.ensures).1
          (limbs_same c.round_at.new.answer c.round_at-2.new.answer (omega (arith, c.requires.room)) low high limbs))
      | else-eq-2-via-else-eq-2 w ↦ false≢true (sym w.if-eq-2.false ∙ c.eq-2.ensures ∙ when_same _ _ fields)
    ] in
    undecided (g.G.Grid.spacing grid) (g.G.Grid.widest grid) (g.G.Grid.lawful grid) (mode_of c.args.rounding.mode) c.args.self.now c.requires.reach c.args.below.reaching
    c.args.below.column c.requires.reached c.ends.result.0 c.ends.result.1 c.ends.ensures.lower c.ends.ensures.upper
    c.in_ok-first.first c.in_ok-second.second a b c.in_ok-first.ensures.rounded c.in_ok-second.ensures.rounded ends differ
