use Rattle.std.proofs.Common.{◌≡◌, Ok, pos, sym, ap, ◌∙◌, arith, rules, w64}
use Rattle.std.proofs.lemmas.Int.{to_z_pos, fits_signed_from_abs}
use Rattle.fields.specs.Checking.{natural_of}
use Rattle.fields.proofs.Naturals.{natural_small}
use Rattle.fields.proofs.Integers.{integer_found}
use Rattle.fields.proofs.numbers.integer.Goals as goal

pub overflow_cast-result : goal.overflow_cast-result
overflow_cast-result c =
    let read : natural_of c.args.word.now ≡ Ok c.in_ok-natural.field-0 = search rules in
    let small = natural_small c.args.word.now c.in_ok-natural.field-0 read in
    fits_signed_from_abs w64 (pos c.in_ok-natural.field-0) (omega arith)

pub returns : goal.returns
returns c =
    let read : natural_of c.args.word.now ≡ Ok c.in_ok-natural.field-0 = search rules in
    let small = natural_small c.args.word.now c.in_ok-natural.field-0 read in
    ap (λ z. Ok z) (to_z_pos w64 c.in_ok-natural.field-0 (omega arith)) ∙ sym (integer_found c.args.word.now c.in_ok-natural.field-0 (search rules) read)
