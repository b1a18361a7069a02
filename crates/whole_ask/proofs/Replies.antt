-- What the ask of all terms gets, by the outcome of each step.
use Rattle.std.proofs.Common.{◌≡◌, ℕ, List, length, ℤ, Some, None, Option, ap, ◌∙◌}
use mathlib.Core.Path.{fun_ext}
use Rattle.batch.specs.Term.{Term}
use Rattle.batch.specs.Faults.{fault_number, fault_place}
use Rattle.batch.specs.declared.fault.BatchFault.{BatchFault}
use Rattle.grid.specs.Faults.{width_refusal, fault_number as grid_fault_number}
use Rattle.grid.specs.declared.fault.GridFault.{GridFault}
use Rattle.limb_batch.specs.Records.{record_terms}
use Rattle.limb_batch.specs.Opening.{opening_fault}
use Rattle.limb_batch.specs.declared.record.LimbRecord.{LimbRecord}
use Rattle.sheet.specs.Numbers.{refused_by}
use Rattle.sheet.specs.declared.mark.Mark.{Mark}
use Rattle.answers.specs.Asked.{Reply, refused, question, asked}
use Rattle.whole_sheet.specs.FirstPlaces.{first_in}
use Rattle.whole_ask.specs.Asked.{after_batch, after_grid, asked_of_all, asked_whole}

-- the marks of a sheet on which all terms are in
pub all_in : (marks : ℕ → Mark) (n : ℕ) (ts : List Term) (u : ℤ → ℤ) (w m k : ℕ) (a : Reply) → ((p : ℕ) → marks p ≡ first_in n p) → n ≡ length ts
    → a ≡ asked marks (question ts u w m k) → a ≡ asked (first_in (length ts)) (question ts u w m k)
all_in marks n ts u w m k a shows count e =
    e ∙ ap (λ (f : ℕ → Mark). asked f (question ts u w m k)) (fun_ext shows) ∙ ap (λ (i : ℕ). asked (first_in i) (question ts u w m k)) count

module _ (rs : List LimbRecord) (pool : List ℕ) (width mode room : ℕ) where
  pub batch_refused : (f : BatchFault) → opening_fault pool rs ≡ Some f → asked_whole rs pool width mode room ≡ refused (record { number = fault_number f; place = fault_place f })
  unfolding asked_whole
  batch_refused f e = ap (λ (o : Option BatchFault). after_batch o (after_grid (width_refusal width) (asked_of_all (record_terms pool rs) width mode room))) e

  pub batch_taken : opening_fault pool rs ≡ None → asked_whole rs pool width mode room ≡ after_grid (width_refusal width) (asked_of_all (record_terms pool rs) width mode room)
  unfolding asked_whole
  batch_taken e = ap (λ (o : Option BatchFault). after_batch o (after_grid (width_refusal width) (asked_of_all (record_terms pool rs) width mode room))) e

  pub grid_refused : (f : GridFault) → opening_fault pool rs ≡ None → width_refusal width ≡ Some f → asked_whole rs pool width mode room ≡ refused (refused_by (grid_fault_number f))
  grid_refused f d e = batch_taken d ∙ ap (λ (o : Option GridFault). after_grid o (asked_of_all (record_terms pool rs) width mode room)) e

  -- with the terms and the width as the code has them
  pub both_taken : (ts : List Term) (w : ℕ) → opening_fault pool rs ≡ None → width_refusal width ≡ None → record_terms pool rs ≡ ts → width ≡ w → asked_whole rs pool width mode room ≡ asked_of_all ts w mode room
  both_taken ts w d e terms widths =
      batch_taken d
      ∙ ap (λ (o : Option GridFault). after_grid o (asked_of_all (record_terms pool rs) width mode room)) e
      ∙ ap (λ (t : List Term). asked_of_all t width mode room) terms
      ∙ ap (λ (n : ℕ). asked_of_all ts n mode room) widths
