use Rattle.std.proofs.Common.{◌≡◌, Ok, sym, ap, ◌∙◌, rules, w64, SFits}
use Rattle.std.proofs.lemmas.Int.{to_z-of_z}
use Rattle.fields.specs.Checking.{natural_of}
use Rattle.fields.proofs.Integers.{negative_found}
use Rattle.fields.proofs.numbers.negative.Goals as goal

pub returns-in-Ok : goal.returns-in-Ok
returns-in-Ok c =
    let read : natural_of c.args.digits.now ≡ Ok c.in-Ok.value = search rules in
    let fits : SFits w64 c.negated.result = search rules in
    ap (λ z. Ok z) (to_z-of_z w64 _ fits ∙ c.negated.ensures) ∙ sym (negative_found c.args.digits.now c.in-Ok.value (search rules) read)
