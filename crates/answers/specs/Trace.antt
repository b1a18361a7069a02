-- The law over whole histories: a trace has each call since the laying of a sheet with what it got, refused calls and calls out of turn among them.
use Rattle.std.specs.Prelude.{◌≡◌, ℕ, true, false, cond, List, [], ◌∷◌, ◌++◌, map, Some, None, Option}
use Rattle.sheet.specs.Numbers.{Refusal, refused_by}
use Rattle.sheet.specs.Model.{Call, marking, undoing, setting, reopening, asking, History, refusal, model, refusal_after, mark_after}
use Rattle.history.specs.Turns.{fits, open_after, fitting}
use Rattle.sheet.specs.Reached.{Reached, ReachedSet}
use Rattle.sheet.specs.declared.mark.Mark.{Mark}
use Rattle.sheet.specs.declared.sheet.OpenSheet.{OpenSheet}
use Rattle.sheet.specs.declared.sheet.SetSheet.{SetSheet}
use Rattle.answers.specs.Published.{Published}
use Rattle.answers.specs.Asked.{Question, Reply, done, refused, answered, asked}
use Rattle.answers.specs.Laws.{Proper, AnswerLaw, Twins, SameMarks, Enclosing}

-- A call and what it got.
pub record Event : Type 0 where
  pub call : Call Question
  pub got : Reply

abbrev pub event : Call Question → Reply → Event
event c r = record { call = c; got = r }

-- the call as the model of a sheet is fed it: the model never looks at a question
abbrev pub without_question : Call Question → Call (Unit {0})
without_question (marking p k) = marking p k
without_question undoing = undoing
without_question setting = setting
without_question reopening = reopening
without_question (asking q) = asking tt

abbrev pub history_of : List Event → History
history_of h = map (λ (e : Event). without_question e.call) h

-- the marks after the calls of a trace
abbrev pub marks_after : List Event → ℕ → Mark
marks_after h p = mark_after (fitting (history_of h)) p

-- a refusal, or none, as a reply
abbrev pub reply_of : Option Refusal → Reply
reply_of None = done
reply_of (Some r) = refused r

-- what a call in turn gets after a history: an ask what is fixed for the model's marks and its question, each other call what the model says
abbrev pub reply_in_turn : History → Call Question → Reply
reply_in_turn cs (marking p k) = reply_of (refusal {Q = Question} (model cs) (marking p k))
reply_in_turn cs undoing = reply_of (refusal {Q = Question} (model cs) undoing)
reply_in_turn cs setting = done
reply_in_turn cs reopening = done
reply_in_turn cs (asking q) = asked (mark_after cs) q

-- what a call gets; 20 where it does not fit the state of the sheet
abbrev pub reply_after : History → Call Question → Reply
reply_after cs c = cond (fits (open_after cs) c) (reply_in_turn (fitting cs) c) (refused (refused_by 20))

-- the event e stands in the trace h, after the events of `before`
abbrev pub At : List Event → List Event → Event → Type 0
At h before e = (later : List Event) × (h ≡ before ++ e ∷ later)

-- the ask of the question q stands there, and was answered by a
abbrev pub AnsweredAt : List Event → List Event → Question → Published → Type 0
AnsweredAt h before q a = At h before (event (asking q) (answered a))

-- The law over a trace.
pub record LawfulTrace (h : List Event) : Type 0 where
  -- each call got what the model says to it after the calls before it; asks get the answer that is fixed for these marks and this question
  pub told : (before : List Event) (e : Event) → At h before e → e.got ≡ reply_after (history_of before) e.call
  -- the terms and the grid of each answered ask kept their laws
  pub proper : (before : List Event) (q : Question) (a : Published) → AnsweredAt h before q a → Proper q
  -- each answer obeys the laws of distance and depth
  pub right : (before : List Event) (q : Question) (a : Published) → AnsweredAt h before q a → AnswerLaw (marks_after before) q a
  -- and any two, one downward and one upward on one batch and grid with marks alike, enclose the exact sum
  pub enclosed : (before other : List Event) (p q : Question) (down up : Published) → AnsweredAt h before p down → AnsweredAt h other q up → Twins p q
      → SameMarks (marks_after before) (marks_after other) → Enclosing (marks_after other) q down up

-- the trace is lawful, and its calls lead to the open sheet
pub record TracedOpen (h : List Event) (s : OpenSheet) : Type 0 where
  pub lawful : LawfulTrace h
  pub state : open_after (history_of h) ≡ true
  pub reached : Reached (fitting (history_of h)) s

-- the trace is lawful, and its calls lead to the set sheet
pub record TracedSet (h : List Event) (s : SetSheet) : Type 0 where
  pub lawful : LawfulTrace h
  pub state : open_after (history_of h) ≡ false
  pub reached : ReachedSet (fitting (history_of h)) s

-- ---- what is proved of traces
-- the terms and the grid of an ask keep their laws
abbrev pub ProperCall : Call Question → Type 0
ProperCall (marking p k) = Unit {0}
ProperCall undoing = Unit {0}
ProperCall setting = Unit {0}
ProperCall reopening = Unit {0}
ProperCall (asking q) = Proper q

-- the trace without a call is lawful
abbrev pub TraceStarts : Type 0
TraceStarts = LawfulTrace []

-- and a lawful one with one call more, which got what the model says, is lawful again
abbrev pub TraceGoesOn : Type 0
TraceGoesOn = (h : List Event) (c : Call Question) (r : Reply) → LawfulTrace h → ProperCall c → r ≡ reply_after (history_of h) c → LawfulTrace (h ++ event c r ∷ [])

-- A lawful trace goes on so with the calls of an open and of a set sheet themselves, whose contracts say which sheet the calls then reach, and what each is told.
pub record SheetsGoOn (h : List Event) : Type 0 where
  pub marked : (s t : OpenSheet) (p k : ℕ) → TracedOpen h s → Reached (fitting (history_of h) ++ marking p k ∷ []) t
      → TracedOpen (h ++ event (marking p k) (reply_of (refusal_after (fitting (history_of h)) (marking p k))) ∷ []) t
  pub undone : (s t : OpenSheet) → TracedOpen h s → Reached (fitting (history_of h) ++ undoing ∷ []) t
      → TracedOpen (h ++ event undoing (reply_of (refusal_after (fitting (history_of h)) undoing)) ∷ []) t
  pub set : (s : OpenSheet) (t : SetSheet) → TracedOpen h s → ReachedSet (fitting (history_of h) ++ setting ∷ []) t → TracedSet (h ++ event setting done ∷ []) t
  pub reopened : (s : SetSheet) (t : OpenSheet) → TracedSet h s → Reached (fitting (history_of h) ++ reopening ∷ []) t → TracedOpen (h ++ event reopening done ∷ []) t

-- and it starts with a new sheet
abbrev pub SheetsTraced : Type 0
SheetsTraced = ((s : OpenSheet) → Reached [] s → TracedOpen [] s) × ((h : List Event) → SheetsGoOn h)
