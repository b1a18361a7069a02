-- The terms of a list, and what a push leaves of them.
use Rattle.std.specs.Prelude.{ℕ, ◌+◌, List, [], ◌∷◌, ◌++◌, cond, length, take, drop, Some, None, Option, nat_lt, ◌==◌}
use Rattle.batch.specs.Term.{Term, most_terms}
use Rattle.batch.specs.declared.fault.RecordFault.{RecordFault}
use Rattle.batch.specs.declared.fault.BatchFault.{BatchFault}
use Rattle.batch.specs.declared.fault.BatchFault.TheVariants.{TooManyTerms}
use Rattle.limb_batch.specs.Records.{limbs_for, record_terms}
use Rattle.limb_batch.specs.Opening.{fault_at}
use Rattle.text_terms.specs.declared.list.TermList.{TermList}

-- the terms, in their order
abbrev pub terms_of : TermList → List Term
terms_of l = record_terms (take l.used l.pool) (take l.count l.records)

-- how many limbs of the pool they use
abbrev pub limbs_used : TermList → ℕ
limbs_used l = l.used

-- so many limbs that stand behind those
abbrev pub limbs_behind : ℕ → TermList → List ℕ
limbs_behind n l = take n (drop l.used l.pool)

-- the limbs that are used, and so many behind them
abbrev pub pool_with : ℕ → TermList → List ℕ
pool_with n l = take l.used l.pool ++ limbs_behind n l

-- the limbs that a record of p digits sees: all of those behind, or none where they are not as many as it takes
abbrev pub pool_seen : ℕ → ℕ → TermList → List ℕ
pool_seen p n l = cond (n == limbs_for p) (pool_with n l) (take l.used l.pool)

-- why one more term is refused: there are too many, or it has a fault of its own
abbrev pub push_fault : List Term → Option RecordFault → Option BatchFault
push_fault ts f = cond (nat_lt (length ts) most_terms) (fault_at (length ts) f None) (Some TooManyTerms)

-- the terms after a push: with one more at the end, or where it is refused the same
abbrev pub terms_after : List Term → Term → Option BatchFault → List Term
terms_after ts t None = ts ++ t ∷ []
terms_after ts t (Some f) = ts

-- how many limbs are used after it
abbrev pub limbs_after : ℕ → ℕ → Option BatchFault → ℕ
limbs_after used more None = used + more
limbs_after used more (Some f) = used
