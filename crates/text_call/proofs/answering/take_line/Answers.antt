use Rattle.std.proofs.Common.{arith}
use Rattle.form_reader.specs.Decoded.{form_of}
use Rattle.text_call.proofs.Lengths.{limbs_of_form-length}
use Rattle.text_call.proofs.answering.take_line.Goals as goal

pub take_form-requires : goal.take_form-requires
take_form-requires c = let short = limbs_of_form-length (form_of c.in_ok-form.form) c.args.line.bytes.now c.in_ok-form.ensures.1 in omega arith

pub returns-in_err-take_form-clause-limbs : goal.returns-in_err-take_form-clause-limbs
returns-in_err-take_form-clause-limbs c = let short = limbs_of_form-length (form_of c.in_ok-form.form) c.args.line.bytes.now c.in_ok-form.ensures.1 in omega (arith, c.take_form.ensures.limbs)

pub returns-clause-limbs : goal.returns-clause-limbs
returns-clause-limbs c = let short = limbs_of_form-length (form_of c.in_ok-form.form) c.args.line.bytes.now c.in_ok-form.ensures.1 in omega (arith, c.take_form.ensures.limbs)
