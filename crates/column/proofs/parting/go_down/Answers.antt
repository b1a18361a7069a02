-- Both zones hold at the column further down.
use Rattle.std.proofs.Common.{ℤ, pos, ◌+ℤ◌, ◌<ℤ◌, ◌≡◌, length, refl, arith, rules, sym, subst, w32, SFits, to_z, of_z}
use borrow.Author.Differences.{ints}
use Rattle.std.specs.List.{AllWithin}
use Rattle.std.proofs.lemmas.Int.{to_z-of_z}
use Rattle.std.proofs.lemmas.List.Sorted.{IsPermutation-trans}
use Rattle.column.specs.declared.term.Edge.TheVariants.{First, Last}
use Rattle.column.specs.Edges.{From, Below}
use Rattle.column.specs.Zones.{Zoned}
use Rattle.column.proofs.PartedTerms.{zoned_ended, zoned_begun}
use Rattle.column.proofs.parting.go_down.Goals as goal

pub overflow_add-top : goal.overflow_add-top
overflow_add-top c = search rules

pub returns-then-zones-bottom-clause-zoned : goal.returns-then-zones-bottom-clause-zoned
returns-then-zones-bottom-clause-zoned c =
    let e = c.bring_forward-ended.ensures in
    let z = c.args.zones in
    let k = c.args.top in
    let b = c.args.bottom in
    let d = c.requires.down in
    let at = c.bring_forward-ended.result.at in
    let fits : SFits w32 z.next_first = search rules in
    let kept = to_z-of_z w32 z.next_first fits in
    let here = to_z-of_z w32 k c.ranges.top in
    let low = to_z-of_z w32 b c.ranges.bottom in
    let next : to_z w32 (of_z w32 (to_z w32 (of_z w32 k) +ℤ pos 1)) ≡ k +ℤ pos 1 = omega (arith, ints, here, c.ranges.top, c.requires.below_all) in
    let forward = subst (λ (x : ℤ). AllWithin (From Last x) c.bring_forward-ended.new.terms z.ended at) next e.forward in
    let none : z.next_first <ℤ b = omega (arith, ints, kept, low, c.if-zones-bottom.true) in
    subst (λ (h : ℤ). Zoned c.bring_forward-ended.new.terms (record { ended = at; begun = z.begun; next_first = h }) k b) (sym kept)
    (zoned_ended c.args.terms.now _ z d.0 d.1 k b d.2 d.3 e.permuted e.outside at e.after e.before forward none)

pub returns-clause-permuted : goal.returns-clause-permuted
returns-clause-permuted c = IsPermutation-trans _ _ _ c.bring_forward-ended.ensures.permuted c.bring_forward-begun.ensures.permuted

pub returns-clause-zoned : goal.returns-clause-zoned
returns-clause-zoned c =
    let e = c.bring_forward-ended.ensures in
    let f = c.bring_forward-begun.ensures in
    let z = c.args.zones in
    let k = c.args.top in
    let b = c.args.bottom in
    let d = c.requires.down in
    let at = c.bring_forward-ended.result.at in
    let high = c.bring_forward-begun.result.highest in
    let fits : SFits w32 high = search rules in
    let kept = to_z-of_z w32 high fits in
    let here = to_z-of_z w32 k c.ranges.top in
    let low = to_z-of_z w32 b c.ranges.bottom in
    let next : to_z w32 (of_z w32 (to_z w32 (of_z w32 k) +ℤ pos 1)) ≡ k +ℤ pos 1 = omega (arith, ints, here, c.ranges.top, c.requires.below_all) in
    let forward = subst (λ (x : ℤ). AllWithin (From Last x) c.bring_forward-ended.new.terms z.ended at) next e.forward in
    let behind = subst (λ (x : ℤ). AllWithin (Below First x high) c.bring_forward-begun.new.terms c.bring_forward-begun.result.at (length c.bring_forward-ended.new.terms)) low f.behind in
    subst (λ (h : ℤ). Zoned c.bring_forward-begun.new.terms (record { ended = at; begun = c.bring_forward-begun.result.at; next_first = h }) k b) (sym kept)
    (zoned_begun c.args.terms.now _ z d.0 d.1 k b d.2 d.3 e.permuted e.outside at e.after e.before forward _ f.permuted _ _ high refl f.outside f.after f.before behind)
