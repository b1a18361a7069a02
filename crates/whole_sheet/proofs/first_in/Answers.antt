-- Each turn empties the trail in time, so that only a place past the last is refused.
use Rattle.std.proofs.Common.{ℕ, ◌+◌, ◌%◌, ap, ◌∙◌, arith, rules}
use Rattle.whole_sheet.specs.FirstPlaces.{first_in}
use Rattle.whole_sheet.proofs.Marking.{set_shows}
use Rattle.whole_sheet.proofs.first_in.Goals as goal

pub returns-in_err-mark_next : goal.returns-in_err-mark_next
returns-in_err-mark_next c =
    let place = c.loop-place.place in
    let inv = c.loop-place.invariant in
    let told = c.in_err-mark_next.ensures (place % 256) (omega arith) (c.with_room-sheet.ensures place inv.0 inv.1 inv.2) in
    search rules

pub loop-place-preserved : goal.loop-place-preserved
loop-place-preserved c =
    let place = c.loop-place.place in
    let inv = c.loop-place.invariant in (
      place % 256 + 1,
      c.in_ok-mark_next.ensures (place % 256) (omega arith) (c.with_room-sheet.ensures place inv.0 inv.1 inv.2),
      (λ some. omega (arith, some)),
    )

pub returns : goal.returns
returns c = λ p.
    set_shows c.loop-place.place c.loop-place.invariant.0 c.loop-place.sheet c.set.result c.loop-place.invariant.1 c.set.ensures.reached p
    ∙ ap (λ (n : ℕ). first_in n p) (omega (arith, c.loop-place-test.false, c.loop-place.auto.place-end))
