-- A part of a record, and no such record.
use Rattle.std.proofs.Common.{◌≡◌, ◌%◌, None, sym, ap, ◌∙◌, rules, tests}
use Rattle.std.specs.List.{slice_get}
use Rattle.std.specs.Option.{option_map}
use Rattle.list_batch.specs.WordTerms.{spelled}
use Rattle.list_batch.proofs.Places.{flat_here, flat_past}
use Rattle.list_batch.proofs.list.ListBatch.term.Goals as goal

pub returns-in_err-get : goal.returns-in_err-get
returns-in_err-get g c =
    let none : option_map spelled c.from_residual.result ≡ None = search (rules, tests) in
    none ∙ sym (flat_past g.R.Record.lawful c.args.self.now.records.now c.args.i _ c.TERMS.ensures c.in_err-get.ensures.lookup.3)

pub returns : goal.returns
returns g c =
    let found = c.in_ok-get.ensures.lookup.3 in
    let r = c.in_ok-get.field-0.now in
    c.term.ensures
    ∙ ap (λ x. slice_get (g.R.Record.parts x) (c.args.i % c.TERMS-2.result)) (found.1 r)
    ∙ sym (flat_here g.R.Record.lawful c.args.self.now.records.now c.args.i _ _ r c.TERMS.ensures c.TERMS-2.ensures found.0)
