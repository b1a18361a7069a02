use Rattle.std.proofs.Common.{◌≡◌, ◌≢◌, List, [], ◌∷◌, ◌++◌, ℕ, Result, Ok, Err, IfOk, IfErr, All, sym}
use Rattle.std.proofs.lemmas.List.Elements.{recursion_from_All}
use Rattle.forms.specs.Forms.{spelling, WellFormed, IsLine}
use Rattle.forms.specs.Languages.{Refused, Refuses}
use Rattle.form_reader.specs.declared.decoded.Form.{Form}
use Rattle.form_reader.specs.declared.lexing.Stuck.{Stuck}
use Rattle.form_reader.specs.Claims.{IsForm}
use Rattle.form_reader.specs.Decoded.{form_of}
use Rattle.form_reader.specs.Tokens.{told}
use Rattle.form_reader.specs.Reading.{reading}
use Rattle.form_reader.proofs.Lines.{reading-accepted, reading-refused, reading-complete, line-refused}
use Rattle.form_reader.proofs.reading.read_form.Goals as goal

accepts : (r : Result Form Stuck) (line : List ℕ) → told form_of r ≡ reading line → IfOk r (λ form. WellFormed (form_of form) × (line ++ (10 ∷ []) ≡ spelling (form_of form)))
accepts (Ok form) line e = reading-accepted (form_of form) line (sym e)
accepts (Err stuck) line e = tt

stuck_at : (r : Result Form Stuck) (line : List ℕ) → told form_of r ≡ reading line → IfErr r (λ stuck. Refused IsForm line stuck.place)
stuck_at (Ok form) line e = tt
stuck_at (Err stuck) line e = reading-refused stuck.place line (sym e)

refuses : (r : Result Form Stuck) (line : List ℕ) → told form_of r ≡ reading line → All (λ b. b ≢ 10) line → IfErr r (λ stuck. Refuses IsLine (line ++ (10 ∷ [])) stuck.place)
refuses (Ok form) line e h = tt
refuses (Err stuck) line e h = line-refused line stuck.place (recursion_from_All (λ b. b ≢ 10) line h) (reading-refused stuck.place line (sym e))

pub returns-clause-accepts : goal.returns-clause-accepts
returns-clause-accepts c = accepts c.form.result c.args.line.now (cc)

pub returns-clause-stuck : goal.returns-clause-stuck
returns-clause-stuck c = stuck_at c.form.result c.args.line.now (cc)

pub returns-clause-refuses : goal.returns-clause-refuses
returns-clause-refuses c = refuses c.form.result c.args.line.now (cc)

pub returns-clause-complete : goal.returns-clause-complete
returns-clause-complete c = λ f w e. cc (reading-complete f c.args.line.now w e)
