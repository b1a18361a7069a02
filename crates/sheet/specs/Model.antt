-- What a sheet is to its user: the list of calls made on it, and what a model that is fed this list alone says of it.
use Rattle.std.specs.Prelude.{ℕ, ◌+◌, ◌-◌, cond, List, [], ◌∷◌, ◌++◌, length, take, is_some, Some, None, fold, Option, ◌==◌, nat_lt}
use Rattle.sheet.specs.declared.mark.Mark.{Mark}
use Rattle.sheet.specs.declared.mark.Mark.TheVariants.{Out}
use Rattle.sheet.specs.Numbers.{mark_numbered, Refusal, refused_by}

-- A call on a sheet with its arguments. An ask carries a question of some type Q, which the model never looks at.
pub data Call (Q : Type 0) : Type 0 where
  marking : ℕ → ℕ → Call Q
  undoing : Call Q
  setting : Call Q
  reopening : Call Q
  asking : Q → Call Q

-- A history: the calls made on one sheet since it was laid, the first first. What its asks carried is left out.
abbrev pub History : Type 0
History = List (Call (Unit {0}))

-- A note: this place was given this mark.
pub record Note : Type 0 where
  pub place : ℕ
  pub mark : Mark

-- The model: its notes, the first first, and how many of the last ones can still be undone.
pub record Model : Type 0 where
  pub notes : List Note
  pub h : ℕ

-- the model of a sheet just laid
abbrev pub blank : Model
blank = record { notes = []; h = 0 }

-- the mark of the last note for a place, else out
abbrev pub last_mark : List Note → ℕ → Mark
last_mark ns p = fold (λ m n. cond (n.place == p) n.mark m) Out ns

-- the notes but the last
abbrev pub without_last : List Note → List Note
without_last ns = take (length ns - 1) ns

-- by what a call is refused, if it is
abbrev pub refusal : {Q : Type 0} → Model → Call Q → Option Refusal
refusal m (marking p k) = cond (nat_lt 1023 p) (Some (refused_by 11)) (cond (nat_lt 2 k) (Some (refused_by 12)) (cond (m.h == 256) (Some (refused_by 13)) None))
refusal m undoing = cond (m.h == 0) (Some (refused_by 14)) None
refusal m setting = None
refusal m reopening = None
refusal m (asking q) = None

-- the model after a call that is not refused
abbrev pub done : {Q : Type 0} → Model → Call Q → Model
done m (marking p k) = record { notes = m.notes ++ record { place = p; mark = mark_numbered k } ∷ []; h = m.h + 1 }
done m undoing = record { notes = without_last m.notes; h = m.h - 1 }
done m setting = record { notes = m.notes; h = 0 }
done m reopening = record { notes = m.notes; h = 0 }
done m (asking q) = m

-- the model after a call; a refused one leaves it as it is
abbrev pub after : {Q : Type 0} → Model → Call Q → Model
after m c = cond (is_some (refusal m c)) m (done m c)

-- the model after a list of calls
abbrev pub model : {Q : Type 0} → List (Call Q) → Model
model cs = fold after blank cs

-- by what a call is refused after a list of calls, if it is
abbrev pub refusal_after : {Q : Type 0} → List (Call Q) → Call Q → Option Refusal
refusal_after cs c = refusal (model cs) c

-- the mark of a place after a list of calls
abbrev pub mark_after : {Q : Type 0} → List (Call Q) → ℕ → Mark
mark_after cs p = last_mark (model cs).notes p
