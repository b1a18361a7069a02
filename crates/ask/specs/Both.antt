-- What two questions get that are asked at once.
use Rattle.std.specs.Prelude.{◌≡◌, ℕ, ◌⊎◌, List, [], ◌∷◌, ◌++◌, Ok, Err, Result}
use Rattle.sheet.specs.Model.{asking}
use Rattle.sheet.specs.declared.sheet.SetSheet.{SetSheet}
use Rattle.sheet.specs.declared.mark.Mark.{Mark}
use Rattle.answers.specs.Published.{Published}
use Rattle.answers.specs.Asked.{Question, refused, answered, asked}
use Rattle.answers.specs.Trace.{Event, event, TracedSet}
use Rattle.ask.specs.Told.{published, fault_refusal}
use Rattle.ask.specs.declared.answer.Answer.{Answer}
use Rattle.ask.specs.declared.fault.AskFault.{AskFault}

-- both answers; or the refusal of the first, or, where the first has an answer, the refusal of the second
abbrev pub BothAsked : (ℕ → Mark) → Question → Question → Result (Answer × Answer) AskFault → List ℕ → List ℕ → Type 0
BothAsked marks p q (Ok both) low high = (asked marks p ≡ answered (published both.0 low)) × (asked marks q ≡ answered (published both.1 high))
BothAsked marks p q (Err f) low high = (asked marks p ≡ refused (fault_refusal f)) ⊎ ((a : Published) × (asked marks p ≡ answered a) × (asked marks q ≡ refused (fault_refusal f)))

-- the trace h with both asks leads to the set sheet; or h with the asks as far as the first that is refused
abbrev pub BothTraced : List Event → SetSheet → Question → Question → Result (Answer × Answer) AskFault → List ℕ → List ℕ → Type 0
BothTraced h s p q (Ok both) low high = TracedSet (h ++ event (asking p) (answered (published both.0 low)) ∷ event (asking q) (answered (published both.1 high)) ∷ []) s
BothTraced h s p q (Err f) low high =
    TracedSet (h ++ event (asking p) (refused (fault_refusal f)) ∷ []) s
    ⊎ ((a : Published) × TracedSet (h ++ event (asking p) (answered a) ∷ event (asking q) (refused (fault_refusal f)) ∷ []) s)
