-- The line of what an ask gets.
use Rattle.std.specs.Prelude.{ℕ, ◌-◌, ◌^◌, false, List, [], ◌++◌, take, codes}
use Rattle.std.specs.List.{flat_map}
use Rattle.std.specs.Fmt.{digits, decimal, signed_decimal, padded_integral, format_spec}
use Rattle.limb_batch.specs.Records.{limbs_for}
use Rattle.answers.specs.Published.{Published}
use Rattle.answers.specs.Asked.{Reply, done, refused, answered}

-- a space, and the limb in eight hexadecimal digits
abbrev pub limb_text : ℕ → List ℕ
limb_text limb = codes " " ++ padded_integral (format_spec 32 0 4 8 (2 ^ 64 - 1)) false [] (digits 16 false limb)

-- an answer: kind, exponent, precision and direction, and the limbs of the precision
unfoldable pub answer_text : Published → List ℕ
answer_text a = decimal a.kind ++ codes " " ++ signed_decimal a.exponent ++ codes " " ++ decimal a.precision ++ codes " " ++ signed_decimal a.direction
    ++ flat_map limb_text (take (limbs_for a.precision) a.limbs)

-- a refusal, by its number
abbrev pub refusal_text : ℕ → List ℕ
refusal_text number = codes "no " ++ decimal number

-- what an ask gets
unfoldable pub reply_text : Reply → List ℕ
reply_text done = []
reply_text (refused r) = refusal_text r.number
reply_text (answered a) = answer_text a
