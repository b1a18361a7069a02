-- The fault of the one record is that of the term.
use Rattle.std.proofs.Common.{◌≡◌, ℕ, ◌+◌, ◌≤◌, Bool, List, length, take, drop, ℤ, Some, None, Option, sym, ap, ◌∙◌, arith, rules, w64, length-drop, length-take-le}
use Rattle.std.proofs.lemmas.Int.{to_z-of_z}
use Rattle.batch.specs.declared.fault.RecordFault.{RecordFault}
use Rattle.batch.specs.declared.fault.BatchFault.{BatchFault}
use Rattle.batch.specs.declared.fault.BatchFault.TheVariants.{AtRecord}
use Rattle.limb_batch.specs.declared.record.LimbRecord.{LimbRecord}
use Rattle.limb_batch.specs.Records.{record_term}
use Rattle.limb_batch.specs.Opening.{record_fault, fault_at}
use Rattle.text_terms.specs.declared.list.TermList.{TermList}
use Rattle.text_terms.specs.Meaning.{term_fault, term_meant, regular_record}
use Rattle.text_terms.specs.TermLists.{terms_of, limbs_behind, pool_with, pool_seen}
use Rattle.text_terms.proofs.Faults.{fault_seen, fault_placed, no_fault_at, none_behind, term_behind}
use Rattle.text_terms.proofs.Growing.{length_terms}
use Rattle.text_terms.proofs.list.TermList.checked_record.Goals as goal

module _ (l : TermList) (n : ℕ) (negative : Bool) (e : ℤ) (p : ℕ) (r : LimbRecord) (room : l.used + n ≤ length l.pool) (is : r ≡ regular_record negative e p l.used) where
  -- the record stands where the pool that is used ends
  here : r ≡ regular_record negative e p (length (take l.used l.pool))
  here = is ∙ ap (regular_record negative e p) (sym (length-take-le l.used l.pool (omega arith)))

  fault_is : (seen : List ℕ) → seen ≡ pool_seen p n l → record_fault seen r ≡ term_fault e p (limbs_behind n l)
  fault_is seen sees =
      (λ i. record_fault (sees i) (here i))
      ∙ fault_seen (take l.used l.pool) (limbs_behind n l) negative e p n (length-take-le n (drop l.used l.pool) (rw length-drop (omega arith)))

  -- the one fault of an opening, at its place here
  fault_at_end : (seen : List ℕ) → seen ≡ pool_seen p n l → (j : ℕ) → fault_at j (record_fault seen r) None ≡ fault_at j (term_fault e p (limbs_behind n l)) None
  fault_at_end seen sees j = ap (λ (f : Option RecordFault). fault_at j f None) (fault_is seen sees)

  none_kept : term_fault e p (limbs_behind n l) ≡ None → record_fault (pool_with n l) r ≡ None
  none_kept none = ap (record_fault (pool_with n l)) here ∙ none_behind (take l.used l.pool) (limbs_behind n l) negative e p none

  term_kept : term_fault e p (limbs_behind n l) ≡ None → record_term (pool_with n l) r ≡ term_meant negative e p (limbs_behind n l)
  term_kept none = ap (record_term (pool_with n l)) here ∙ term_behind (take l.used l.pool) (limbs_behind n l) negative e p none

pub returns-in-Ok : goal.returns-in-Ok
returns-in-Ok c =
    let l = c.args.self.now in
    let n = c.args.limbs in
    let e = c.args.exponent in
    let is = rw (to_z-of_z w64 e (search rules)) at c.regular_record-record.ensures in
    let none = no_fault_at 0 _ (c.in-Ok.ensures.refuses ∙ fault_at_end l n c.args.negative e c.args.precision _ (search rules) is _ c.pool_seen.ensures 0) in
    record {
      refuses = sym (ap (λ (f : Option RecordFault). fault_at (length (terms_of l)) f None) none);
      faultless = none_kept l n c.args.negative e c.args.precision _ (search rules) is none;
      means = term_kept l n c.args.negative e c.args.precision _ (search rules) is none;
    }

pub returns-in-Err-AtRecord-clause-refuses : goal.returns-in-Err-AtRecord-clause-refuses
returns-in-Err-AtRecord-clause-refuses c =
    let l = c.args.self.now in
    let h = c.in-Err-AtRecord in
    let is = rw (to_z-of_z w64 c.args.exponent (search rules)) at c.regular_record-record.ensures in
    let many : length (terms_of l) ≡ l.count = length_terms (take l.used l.pool) l.records l.count (search rules) in
    rw many
    (ap (λ f. Some (AtRecord l.count f)) h.fault-is ∙ fault_placed h.field-0-0 l.count _ h.fault
    (sym (ap (λ (f : BatchFault). Some f) h.field-0-is) ∙ h.ensures.refuses ∙ fault_at_end l c.args.limbs c.args.negative c.args.exponent c.args.precision _ (search rules) is _ c.pool_seen.ensures 0))
