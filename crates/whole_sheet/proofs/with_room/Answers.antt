-- Setting and reopening leaves the marks and nothing to undo, as many as the place asks for.
use Rattle.std.proofs.Common.{◌≡◌, ℕ, ◌%◌, sym, subst, rules}
use Rattle.whole_sheet.specs.FirstPlaces.{InFirst}
use Rattle.whole_sheet.proofs.Marking.{reopened}
use Rattle.whole_sheet.proofs.with_room.Goals as goal

pub returns-then-place-eq0 : goal.returns-then-place-eq0
returns-then-place-eq0 c = λ n h at _.
    let none : c.args.place % 256 ≡ 0 = search rules in
    subst (λ (k : ℕ). InFirst n k c.reopen.result) (sym none) (reopened n h c.args.sheet c.set.result c.reopen.result at c.set.ensures.reached c.reopen.ensures.reached)
