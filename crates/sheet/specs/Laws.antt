-- Laws over whole histories, in the words of the sheet's user.
use Rattle.std.specs.Prelude.{◌≡◌, ℕ, [], ◌∷◌, None}
use Rattle.sheet.specs.Model.{Call, marking, undoing, setting, reopening, asking, History, refusal_after}

-- the call is done, not refused, after the history
abbrev pub Taken : History → Call (Unit {0}) → Type 0
Taken cs c = refusal_after cs c ≡ None

-- the call does not mark the place
abbrev pub Leaves : ℕ → Call (Unit {0}) → Type 0
Leaves p (marking q k) = q ≡ p → ⊥
Leaves p undoing = Unit {0}
Leaves p setting = Unit {0}
Leaves p reopening = Unit {0}
Leaves p (asking q) = Unit {0}

-- no call of the list marks the place
abbrev pub Unmarked : ℕ → History → Type 0
Unmarked p [] = Unit {0}
Unmarked p (c ∷ cs) = Leaves p c × Unmarked p cs
