-- Each next column lies lower: it is found below the one before.
use Rattle.std.proofs.Common.{rules, ℤ, ◌<◌, Some, Option, sym, ap, ◌∙◌, subst, w32}
use Rattle.std.proofs.lemmas.Int.{to_z-of_z}
use Rattle.walkthrough.proofs.Heights.{height, lower}
use Rattle.walkthrough.proofs.columns.down.Goals as goal

pub loop-here-smaller : goal.loop-here-smaller
loop-here-smaller g c =
    let next = c.next_column-next.result in
    let here = ap Some (to_z-of_z w32 c.in-Some.column (search rules)) ∙ sym c.in-Some.is in
    subst (λ (o : Option ℤ). height next < height o) here (lower _ _ next (search rules) c.next_column-next.ensures.highest)
