-- What the code's answers and faults stand for.
use Rattle.std.specs.Prelude.{ℕ, List, Ok, Err, Result}
use Rattle.sheet.specs.Numbers.{Refusal, refused_by}
use Rattle.batch.specs.TermKinds.{kind_number}
use Rattle.ends.specs.Directions.{direction_sign}
use Rattle.answers.specs.Published.{Published}
use Rattle.answers.specs.Asked.{Reply, refused, answered}
use Rattle.ask.specs.declared.answer.Answer.{Answer}
use Rattle.ask.specs.declared.fault.AskFault.{AskFault}
use Rattle.ask.specs.declared.fault.AskFault.TheVariants.{NoSuchMode, TooFewLimbs, PlaceWithoutTerm}

-- an answer and its limbs, as they are published
abbrev pub published : Answer → List ℕ → Published
published a ls = record {
  kind = kind_number a.kind;
  exponent = a.exponent;
  precision = a.precision;
  direction = direction_sign a.direction;
  depth = a.depth;
  limbs = ls;
}

-- the refusal that a fault is: its number, and the place that it blames
abbrev pub fault_refusal : AskFault → Refusal
fault_refusal NoSuchMode = refused_by 15
fault_refusal TooFewLimbs = refused_by 16
fault_refusal (PlaceWithoutTerm p) = record { number = 17; place = p }

-- what the result of an ask tells, with the limbs that it leaves
abbrev pub told : Result Answer AskFault → List ℕ → Reply
told (Ok a) ls = answered (published a ls)
told (Err f) ls = refused (fault_refusal f)
