-- One term more among the kinds that have been found.
use Rattle.std.proofs.Common.{◌≡◌, ◌<◌, true, cond, eqb, map, length, get_or, sym, ◌∙◌, ap₂, arith}
use Rattle.std.proofs.lemmas.List.{length-map}
use Rattle.batch.specs.TermKinds.{kind_of, kind_number}
use Rattle.batch.specs.declared.kind.Kind.{Kind}
use Rattle.batch.specs.declared.kind.Kind.TheVariants.{Absent}
use Rattle.sheet.specs.Shown.{shown}
use Rattle.survey.specs.Kinds.{counted_kind}
use Rattle.survey.proofs.Surveying.{has_more}
use Rattle.survey.proofs.kinds.KindsCounted.new.Goals as goal

pub loop-place-preserved : goal.loop-place-preserved
loop-place-preserved g c =
    let ks = map kind_of (g.B.Batch.terms c.args.batch.now) in
    let marks = shown c.args.marks.now in
    let i = c.loop-place.place in
    let kind : c.counted_kind-kind.result ≡ counted_kind (marks i) (get_or ks i Absent) = c.counted_kind-kind.ensures ∙ ap₂ counted_kind c.at.ensures c.kind.ensures in
    let within : c.loop-place.place < length (map kind_of (g.B.Batch.terms c.args.batch.now)) = omega (arith, length-map (g.B.Batch.terms c.args.batch.now) kind_of) in
    λ k.
    c.add.ensures k
    ∙ ap₂ (λ (j : Kind) b. cond (eqb (kind_number j) (kind_number k)) true b) kind (c.loop-place.invariant k)
    ∙ sym (has_more marks ks i within k)
