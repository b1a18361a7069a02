-- The law over traces: it holds of the empty one, and goes on with each call.
use Rattle.std.proofs.Common.{◌≡◌, ℕ, ◌⊎◌, List, [], ◌∷◌, ◌++◌, sym, refl, ap, ◌∙◌, subst, inl, inr, ⊎_elim, arith}
use borrow.Author.Differences.{ints}
use mathlib.Core.Path.{fun_ext}
use Rattle.sheet.specs.Model.{asking}
use Rattle.sheet.specs.declared.mark.Mark.{Mark}
use Rattle.answers.specs.Published.{Published}
use Rattle.answers.specs.Asked.{Question, answered, asked}
use Rattle.answers.specs.Laws.{Proper}
use Rattle.answers.specs.Trace.{Event, event, history_of, marks_after, reply_after, At, AnsweredAt, LawfulTrace, ProperCall, TraceStarts, TraceGoesOn}
use Rattle.answers.proofs.Right.{answers_right}
use Rattle.answers.proofs.Enclosing.{answers_enclose}

-- ---- where an event stands in a trace with one event more: it is that one, or stood there before
none_after : (before later : List Event) (e : Event) → [] ≡ before ++ e ∷ later → ⊥
none_after [] later e s = let z : ◌≡◌ {A = ℕ} 0 1 = cc in omega arith
none_after (b ∷ before) later e s = let z : ◌≡◌ {A = ℕ} 0 1 = cc in omega arith

Place : List Event → Event → List Event → Event → Type 0
Place h x before e = ((before ≡ h) × (e ≡ x)) ⊎ At h before e

place : (h : List Event) (x : Event) (before : List Event) (e : Event) (later : List Event) → h ++ x ∷ [] ≡ before ++ e ∷ later → Place h x before e
unfolding Place
place [] x [] e later s = inl (refl, cc)
place [] x (b ∷ before) e later s = absurd (none_after before later e (cc))
place (y ∷ h) x [] e later s = inr (h, cc)
place (y ∷ h) x (b ∷ before) e later s = grind (arith, ints, place h x before e later (cc))

-- ---- an answered ask was in turn, and got what is fixed for the marks
module _ (h : List Event)
    (T : (before : List Event) (e : Event) → At h before e → e.got ≡ reply_after (history_of before) e.call)
    (P : (before : List Event) (q : Question) (a : Published) → AnsweredAt h before q a → Proper q) where
  fixed : (before : List Event) (q : Question) (a : Published) → AnsweredAt h before q a → asked (marks_after before) q ≡ answered a
  fixed before q a s = grind (arith, ints, T before (event (asking q) (answered a)) s)

  lawful_from : LawfulTrace h
  lawful_from = record {
    told = T;
    proper = P;
    right = λ before q a s. answers_right (marks_after before) q a (P before q a s) (fixed before q a s);
    enclosed = λ before other p q down up s t w m.
        answers_enclose (marks_after other) p q down up (P other q up t) w
        (subst (λ (f : ℕ → Mark). asked f p ≡ answered down) (fun_ext m) (fixed before p down s)) (fixed other q up t);
  }

pub trace_starts : TraceStarts
trace_starts = grind (arith, ints, lawful_from, none_after)

pub trace_goes_on : TraceGoesOn
unfolding Place
trace_goes_on h c r L k e = lawful_from (h ++ event c r ∷ []) told proper
  where
    told : (before : List Event) (x : Event) → At (h ++ event c r ∷ []) before x → x.got ≡ reply_after (history_of before) x.call
    told before x (later, s) =
        ⊎_elim
        (λ (t : (before ≡ h) × (x ≡ event c r)).
        ap (λ (y : Event). y.got) t.1 ∙ e ∙ ap (λ (b : List Event). reply_after (history_of b) c) (sym t.0) ∙ ap (λ (y : Event). reply_after (history_of before) y.call) (sym t.1))
        (λ (t : At h before x). L.told before x t) (place h (event c r) before x later s)

    proper : (before : List Event) (q : Question) (a : Published) → AnsweredAt (h ++ event c r ∷ []) before q a → Proper q
    proper before q a (later, s) =
        ⊎_elim (λ (t : (before ≡ h) × (event (asking q) (answered a) ≡ event c r)). subst ProperCall (sym (ap (λ (y : Event). y.call) t.1)) k)
        (λ (t : At h before (event (asking q) (answered a))). L.proper before q a t) (place h (event c r) before (event (asking q) (answered a)) later s)
