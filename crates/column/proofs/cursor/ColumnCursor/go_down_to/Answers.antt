-- In the run nothing moves.
use Rattle.std.proofs.Common.{◌≤ℤ◌, arith, rules, w32, SFits, to_z, of_z}
use borrow.Author.Differences.{ints}
use Rattle.std.proofs.lemmas.Int.{to_z-of_z}
use Rattle.column.proofs.PartedTerms.{zoned_lower}
use Rattle.column.proofs.cursor.ColumnCursor.go_down_to.Goals as goal

pub invariant_of-self : goal.invariant_of-self
invariant_of-self g c =
    let x = c.args.self.now in
    let k = to_z w32 (of_z w32 c.args.column) in
    let here = to_z-of_z w32 c.args.column c.ranges.column in
    let bottom : SFits w32 x.run.bottom = search rules in
    let b = to_z-of_z w32 x.run.bottom bottom in
    let lower : k ≤ℤ x.column = omega (arith, ints, here, c.requires.down) in
    record {
      within_run = omega (arith, ints, here, b, c.if-column-self.false);
      not_above = omega (arith, ints, lower, x.not_above);
      short_run = x.short_run;
      fits = x.fits;
      regular = x.regular;
      spans = x.spans;
      zoned = zoned_lower x.terms.items x.zones x.column k x.run.bottom lower x.zoned;
      ends = x.ends;
      totalled = x.totalled;
    }
