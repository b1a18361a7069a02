use Rattle.std.proofs.Common.{◌≡◌, true, ℤ, pos, negsuc, ◌≤ℤ◌, ◌<ℤ◌, subst, inl, arith, w32, w64, SFits, rules}
use lib.Signed.{lt_z}
use Rattle.std.proofs.lemmas.Int.{ints, to_z-of_z}
use Rattle.partial_sum.specs.Holding.{slot}
use Rattle.partial_sum.proofs.sum.PartialSum.folds_into_head.Goals as goal
use Rattle.partial_sum.proofs.Heads.{small_below, small_above}

pub returns-then-head-lt0-clause-folds : goal.returns-then-head-lt0-clause-folds
returns-then-head-lt0-clause-folds c =
    let p = c.args.self.now in
    let h = slot p 129 in
    let column : SFits w32 p.column = search rules in
    let fits : SFits w64 h = search rules in
    let minus : h <ℤ pos 0 = omega (arith, ints, c.if-head-lt0.true) in
    λ e. record { alone = search rules; small = small_below h minus (subst (λ (z : ℤ). lt_z (negsuc 1048575) z ≡ true) (to_z-of_z w64 h fits) e); next = inl (omega (arith, ints, c.if-column-self.false)) }

pub returns-clause-folds : goal.returns-clause-folds
returns-clause-folds c =
    let p = c.args.self.now in
    let h = slot p 129 in
    let column : SFits w32 p.column = search rules in
    let fits : SFits w64 h = search rules in
    let plus : pos 0 ≤ℤ h = omega (arith, ints, c.if-head-lt0.false) in
    λ e. record { alone = search rules; small = small_above h plus (subst (λ (z : ℤ). lt_z z (pos 1048576) ≡ true) (to_z-of_z w64 h fits) e); next = inl (omega (arith, ints, c.if-column-self.false)) }
