-- The theory, at the grid's own spacing.
use Rattle.std.proofs.Common.{rules}
use Rattle.grid.proofs.Theorems as theorems
use Rattle.grid.proofs.Widths.{digits}
use Rattle.grid.proofs.precision.precision_at.Goals as goal

pub returns : goal.returns
returns g c =
    let s = c.args.g.now in
    let u = g.G.Grid.spacing s in
    let W = g.G.Grid.widest s in
    let L = g.G.Grid.lawful s in
    record {
      precision = search rules;
      within = search rules;
      neighbours = theorems.neighbours u W L;
      right = theorems.right u W L;
      distance = theorems.distance u W L;
      monotone = theorems.monotone u W L;
      between = theorems.between u W L;
      apart = theorems.apart u W L;
      exact = theorems.exact u W L;
      enclosure = theorems.enclosure u W L;
      direction = theorems.direction u W L;
      sign = theorems.sign u W L;
      congruent = theorems.congruent u W L;
      digits = digits u W L;
    }
