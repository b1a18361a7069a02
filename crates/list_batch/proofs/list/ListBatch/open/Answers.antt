-- How many terms there are, and their order.
use Rattle.list_batch.proofs.Places.{refused_many, few_enough, in_order}
use Rattle.list_batch.proofs.list.ListBatch.open.Goals as goal

pub returns-then-records-TERMS-clause-refuses : goal.returns-then-records-TERMS-clause-refuses
returns-then-records-TERMS-clause-refuses g c = refused_many g.R.Record.lawful _ _ c.TERMS.ensures c.if-records-TERMS.true

pub invariant_of-result : goal.invariant_of-result
invariant_of-result g c = record { few = few_enough g.R.Record.lawful _ _ c.TERMS.ensures c.if-records-TERMS.false }

pub returns-clause-places : goal.returns-clause-places
returns-clause-places g c = in_order g.R.Record.lawful _
