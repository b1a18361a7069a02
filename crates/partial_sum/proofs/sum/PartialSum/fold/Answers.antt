use Rattle.std.proofs.Common.{◌≡◌, set, ℤ, ◌+ℤ◌, refl, ap, arith, w32, w64, SFits, to_z, of_z, rules}
use Rattle.std.proofs.lemmas.Int.{ints, to_z-of_z}
use Rattle.exact.specs.Integers.{scale}
use Rattle.partial_sum.specs.Holding.{slot}
use Rattle.partial_sum.proofs.sum.PartialSum.fold.Goals as goal
use Rattle.partial_sum.proofs.Absorbing.{folded}

pub invariant_of-self-clause-sound : goal.invariant_of-self-clause-sound
invariant_of-self-clause-sound c =
    let p = c.args.self.now in
    let v = c.joined.result in
    let fits : SFits w64 v = search rules in
    let high : SFits w64 (slot p 129) = search rules in
    let e : to_z w64 (of_z w64 v) ≡ scale (slot p 129) 32 +ℤ c.args.total = omega (arith, ints, c.joined.ensures) in
    let d = to_z-of_z w32 c.args.column c.ranges.column in
    (folded p _ c.args.total c.args.column c.requires.absorbs c.requires.folds (ap (λ (z : ℤ). set p.totals 129 z) e) refl d d refl).1

pub returns : goal.returns
returns c =
    let p = c.args.self.now in
    let v = c.joined.result in
    let fits : SFits w64 v = search rules in
    let high : SFits w64 (slot p 129) = search rules in
    let e : to_z w64 (of_z w64 v) ≡ scale (slot p 129) 32 +ℤ c.args.total = omega (arith, ints, c.joined.ensures) in
    let d = to_z-of_z w32 c.args.column c.ranges.column in
    let took = (folded p _ c.args.total c.args.column c.requires.absorbs c.requires.folds (ap (λ (z : ℤ). set p.totals 129 z) e) refl d d refl).0 in
    record { value = took.value; at = took.at; no_higher = took.no_higher }
