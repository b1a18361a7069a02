-- One term more, brought forward or left behind.
use Rattle.std.proofs.Common.{◌≡◌, ◌≤ℤ◌, ◌<ℤ◌, arith, ◌∙◌, sym, ap, w32, to_z, of_z, get_or, ◌<◌, length}
use borrow.Author.Differences.{ints}
use Rattle.std.proofs.lemmas.Int.{clamps}
use Rattle.std.proofs.lemmas.List.{get_or_default}
use Rattle.column.specs.declared.term.CountedTerm.{CountedTerm}
use Rattle.column.specs.Edges.{edge_column}
use Rattle.column.proofs.PartedTerms.{parted_left, parted_taken}
use Rattle.column.proofs.parting.bring_forward.Goals as goal
use Rattle.column.proofs.parting.bring_forward.Goals.{then-here-column, else-here-column}

pub loop-place-preserved : goal.loop-place-preserved
loop-place-preserved c =
    let i = c.loop-place.place in
    let e = c.args.edge in
    let ys = c.loop-place.terms in
    let h = c.loop-place.parted.highest in
    let k = to_z w32 (of_z w32 c.args.column) in
    let r = c.edge-here.result in
    let in_list : i < length ys = omega (arith, c.loop-place.auto.terms, c.requires.within, c.loop-place-test.true) in
    let kept : to_z w32 (of_z w32 r) ≡ r = omega (arith, ints, c.edge-here.type_inv) in
    let here : (d : CountedTerm) → edge_column e (get_or ys i d) ≡ r = λ d. ap (edge_column e) (get_or_default ys i d _ in_list) ∙ sym c.edge-here.ensures in
    elim c.if-here-column.branch [
      | then-here-column w ↦
          let high : k ≤ℤ r = omega (arith, ints, kept, w.if-here-column.true) in
          rw w.terms-is (rw w.parted-is (parted_taken e k _ ys _ i _ h c.loop-place.invariant _ in_list w.swap.ensures.after (λ d. rw (here d) high)))
      | else-here-column w ↦
          let m = w.max.result in
          let low : r <ℤ k = omega (arith, ints, kept, w.if-here-column.false) in
          let same : to_z w32 (of_z w32 m) ≡ m = omega (arith, ints, w.max.type_inv) in
          let more : h ≤ℤ to_z w32 (of_z w32 m) = omega (arith, ints, clamps, same, w.max.ensures.value) in
          let most : r ≤ℤ to_z w32 (of_z w32 m) = omega (arith, ints, clamps, same, kept, w.max.ensures.value) in
          rw w.terms-is (rw w.parted-is (parted_left e k _ ys _ i _ h c.loop-place.invariant (λ d. rw (here d) low) _ more (λ d. rw (here d) most)))
    ]
