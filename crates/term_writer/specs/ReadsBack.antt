-- A line that was written of a term is read as a form that means that term.
use Rattle.std.specs.Prelude.{◌≡◌, Ok}
use Rattle.batch.specs.Term.{Term}
use Rattle.forms.specs.Parts.{bracketed}
use Rattle.forms.specs.Forms.{fields, WellFormed}
use Rattle.form_reader.specs.Reading.{reading}
use Rattle.text_terms.specs.Meaning.{IsTerm}
use Rattle.term_writer.specs.Lines.{form_of_term}

-- the form of t has a spelling, it means t, which has no fault, and its line is read as that form
pub record ReadsBack (t : Term) : Type 0 where
  pub well_formed : WellFormed (form_of_term t)
  pub means : IsTerm (form_of_term t) t
  pub read : reading (bracketed (fields (form_of_term t))) ≡ Ok (form_of_term t)
