-- All forms together: what a line is read as, and where it is refused.
use Rattle.std.proofs.Common.{◌≡◌, ◌≢◌, ℕ, ◌+◌, ◌<◌, ◌≤◌, Bool, not, eqb, List, [], ◌∷◌, ◌++◌, length, get_or, take, codes, Result, Ok, Err, sym, refl, ap, ◌∙◌, subst, inl, inr, ⊎_elim, append_assoc, arith, length-append}
use Rattle.std.proofs.lemmas.Bool.Decides.{eqb_tells}
use Rattle.std.proofs.lemmas.List.{append_cancel_left, append_cancel_right, take-append-le, take_all, get_or_append_left}
use Rattle.std.proofs.lemmas.List.Elements.{All-from_recursion}
use Rattle.std.proofs.str.Laws.{order}
use Rattle.forms.specs.Parts.{bracketed}
use Rattle.forms.specs.Forms.{Form, not_a_number, infinity, signed_zero, term, mark, back, set, reopen, ask, ask_named, fields, spelling, WellFormed, IsLine}
use Rattle.forms.specs.Languages.{Refuses, Refused}
use Rattle.fields.specs.Laws.{AnyWord}
use Rattle.fields.specs.Words.{is_word_byte}
use Rattle.form_reader.specs.Steps.{Left, whole}
use Rattle.form_reader.specs.Reading.{either_of, zero_at, ask_at, ask_named_at, any_ask_at, form_at, reading}
use Rattle.form_reader.specs.Claims.{Spells, OneReading, OneEnd}
use Rattle.form_reader.proofs.FrontWords.{Pass, Pass-take, Stops, same-word, begins-word}
use Rattle.form_reader.proofs.StepLaws.{Reads, Reads-alike, Unended, Ok-is}
use Rattle.form_reader.proofs.FormSteps.{Named, Spaced, Spaced-stops, Closed-stops}
use Rattle.form_reader.proofs.FieldWords.{natural-field, floor-field, run-field}
use Rattle.form_reader.proofs.Unions.{Either, either-reads}
use Rattle.form_reader.proofs.FormLaws.{Nans, Infinities, Zeros, Terms, Marks, Backs, Sets, Reopens, Asks, NamedAsks, nan-reads, infinity-reads, zero-reads, term-reads, mark-reads, back-reads, set-reads, reopen-reads, ask-reads, ask_named-reads}
use Rattle.form_reader.proofs.Spellings.{Nans-spelled, Infinities-spelled, Zeros-spelled, Terms-spelled, Marks-spelled, Backs-spelled, Sets-spelled, Reopens-spelled, Asks-spelled, NamedAsks-spelled, spelled-Nans, spelled-Infinities, spelled-Zeros, spelled-Terms, spelled-Marks, spelled-Backs, spelled-Sets, spelled-Reopens, spelled-Asks, spelled-NamedAsks}

-- ---- no two forms have a text in common
-- the letter with which a keyword begins
abbrev letter : List ℕ → ℕ
letter s = get_or s 1 0

-- a text has the first letter of its keyword
named-letter : {B : Type 0} (k : ℕ) (ks : List ℕ) (K : B → List ℕ → Type 0) (v : B) (s : List ℕ) → Named (k ∷ ks) K v s → letter s ≡ k
named-letter k ks K v s h = ap letter h.joins

-- what follows the word after a space is told by the text
spaced-rest : {A C B D : Type 0} (F : A → List ℕ → Type 0) (G : C → List ℕ → Type 0) (K : A → B → List ℕ → Type 0) (M : C → D → List ℕ → Type 0) (v : B) (u : D) (s t : List ℕ) (h : Spaced F K v s) (g : Spaced G M u t) → s ≡ t → Pass is_word_byte h.word → Pass is_word_byte g.word → Stops is_word_byte h.rest → Stops is_word_byte g.rest → h.rest ≡ g.rest
spaced-rest F G K M v u s t h g e p q a b =
    let joined : h.word ++ h.rest ≡ g.word ++ g.rest = append_cancel_left (32 ∷ []) _ _ (sym h.joins ∙ e ∙ g.joins) in
    (same-word is_word_byte h.word g.word h.rest g.rest p q a b joined).1

-- an ask on a free grid has one field more
asks-apart : (u v : Form) (s : List ℕ) → Asks u s → NamedAsks v s → ⊥
asks-apart u v s h g =
    let after_keyword : h.rest ≡ g.rest = append_cancel_left (codes "(ask") _ _ (sym h.joins ∙ g.joins) in
    let w = h.goes in
    let n = g.goes in
    let after_grid = spaced-rest _ _ _ _ u v h.rest g.rest w n after_keyword (natural-field.passes _ _ w.is) (run-field.passes _ _ n.is) (Spaced-stops _ _ u _ w.goes) (Spaced-stops _ _ v _ n.goes) in
    let l = w.goes in
    let m = n.goes in
    let after_mode = spaced-rest _ _ _ _ u v w.rest n.rest l m after_grid (floor-field.passes _ _ l.is) (run-field.passes _ _ m.is) (Spaced-stops _ _ u _ l.goes) (Closed-stops _ v _ m.goes) in
    let differs : ◌≡◌ {A = ℕ} 32 41 = ap (λ t. get_or t 0 0) (sym l.goes.joins ∙ after_mode ∙ m.goes.1) in
    omega arith

-- asks of both kinds are read exactly
any_ask-reads : Reads (Either Asks NamedAsks) any_ask_at
any_ask-reads = either-reads Asks NamedAsks ask_at ask_named_at ask-reads ask_named-reads asks-apart

-- both begin with an a
any_ask-letter : (v : Form) (s : List ℕ) → Either Asks NamedAsks v s → letter s ≡ 97
any_ask-letter v s l = ⊎_elim (λ h. named-letter _ _ _ v s h) (λ h. named-letter _ _ _ v s h) l

-- readers of forms whose keywords begin with this letter or later ones
record Sorted (L : Form → List ℕ → Type 0) (read : Left → Result Form ℕ) (k : ℕ) : Type 0 where
  reads : Reads L read
  from : (v : Form) (s : List ℕ) → L v s → k ≤ letter s

-- one form
first-form : (L : Form → List ℕ → Type 0) (read : Left → Result Form ℕ) (k : ℕ) → Reads L read → ((v : Form) (s : List ℕ) → L v s → letter s ≡ k) → Sorted L read k
first-form L read k reads is = record { reads = reads; from = λ v s l. omega (arith, is v s l) }

-- and one more, with an earlier letter
next-form : (L M : Form → List ℕ → Type 0) (read other : Left → Result Form ℕ) (k m : ℕ) → Sorted L read k → Reads M other → ((v : Form) (s : List ℕ) → M v s → letter s ≡ m) → m < k → Sorted (Either L M) (λ left. either_of (read left) (other left)) m
next-form L M read other k m sorted others is lt = record {
  reads = either-reads L M read other sorted.reads others (λ u v s l h. omega (arith, sorted.from u s l, is v s h));
  from = λ v s l. ⊎_elim (λ h. omega (arith, sorted.from v s h)) (λ h. omega (arith, is v s h)) l;
}

-- a text of any form
abbrev Lines : Form → List ℕ → Type 0
Lines = Either (Either (Either (Either (Either (Either (Either (Either Zeros Terms) Sets) Reopens) Nans) Marks) Infinities) Backs) (Either Asks NamedAsks)

-- all forms together are read exactly
lines-read : Sorted Lines form_at 97
unfolding form_at
lines-read =
    next-form _ _ _ _ 98 97
    (next-form _ _ _ _ 105 98
    (next-form _ _ _ _ 109 105
    (next-form _ _ _ _ 110 109
    (next-form _ _ _ _ 114 110
    (next-form _ _ _ _ 115 114
    (next-form _ _ _ _ 116 115
    (next-form _ _ _ _ 122 116
    (first-form Zeros zero_at 122 zero-reads (named-letter _ _ _))
    term-reads (named-letter _ _ _) (omega arith))
    set-reads (named-letter _ _ _) (omega arith))
    reopen-reads (named-letter _ _ _) (omega arith))
    nan-reads (named-letter _ _ _) (omega arith))
    mark-reads (named-letter _ _ _) (omega arith))
    infinity-reads (named-letter _ _ _) (omega arith))
    back-reads (named-letter _ _ _) (omega arith))
    any_ask-reads any_ask-letter (omega arith)

-- what is read as a form spells it
lines-spelled : (f : Form) (s : List ℕ) → Lines f s → Spells f s
lines-spelled f s l =
    ⊎_elim
    (⊎_elim (⊎_elim (⊎_elim (⊎_elim (⊎_elim (⊎_elim (⊎_elim (Zeros-spelled f s) (Terms-spelled f s)) (Sets-spelled f s)) (Reopens-spelled f s)) (Nans-spelled f s)) (Marks-spelled f s)) (Infinities-spelled f s)) (Backs-spelled f s))
    (⊎_elim (Asks-spelled f s) (NamedAsks-spelled f s))
    l

-- what spells a form is one of them
spelled-lines : (f : Form) (s : List ℕ) → Spells f s → Lines f s
spelled-lines (signed_zero negative) s h = inl (inl (inl (inl (inl (inl (inl (inl (spelled-Zeros negative s h.1))))))))
spelled-lines (term negative exponent precision limbs) s h = inl (inl (inl (inl (inl (inl (inl (inr (spelled-Terms negative exponent precision limbs s h.0 h.1))))))))
spelled-lines set s h = inl (inl (inl (inl (inl (inl (inr (spelled-Sets s h.1)))))))
spelled-lines reopen s h = inl (inl (inl (inl (inl (inr (spelled-Reopens s h.1))))))
spelled-lines not_a_number s h = inl (inl (inl (inl (inr (spelled-Nans s h.1)))))
spelled-lines (mark place letter) s h = inl (inl (inl (inr (spelled-Marks place letter s h.0 h.1))))
spelled-lines (infinity negative) s h = inl (inl (inr (spelled-Infinities negative s h.1)))
spelled-lines back s h = inl (inr (spelled-Backs s h.1))
spelled-lines (ask width floor mode) s h = inr (inl (spelled-Asks width floor mode s h.0 h.1))
spelled-lines (ask_named name mode) s h = inr (inr (spelled-NamedAsks name mode s h.0 h.1))

-- so forms are read exactly
forms-read : Reads Spells form_at
forms-read = Reads-alike Lines Spells form_at lines-spelled spelled-lines lines-read.reads

-- ---- lines
-- what is read is spelled so
pub reading-accepted : (f : Form) (line : List ℕ) → reading line ≡ Ok f → WellFormed f × (line ++ (10 ∷ []) ≡ spelling f)
reading-accepted f line e = let h = forms-read.accepted f (whole line) e in (h.0, ap (λ l. l ++ (10 ∷ [])) h.1)

-- what is spelled so is read
pub reading-complete : (f : Form) (line : List ℕ) → WellFormed f → line ++ (10 ∷ []) ≡ spelling f → reading line ≡ Ok f
reading-complete f line w e = forms-read.complete f (whole line) (w, append_cancel_right line (bracketed (fields f)) (10 ∷ []) e)

-- what is read as no form
pub reading-refused : (k : ℕ) (line : List ℕ) → reading line ≡ Err k → Refused (AnyWord Spells) line k
reading-refused k line e = let r = forms-read.refused k (whole line) e in let same : r.0 ≡ k = omega (arith, r.1) in subst (Refused (AnyWord Spells) line) same r.2

-- ---- byte 10
abbrev within_line : ℕ → Bool
within_line b = not (eqb b 10)

-- bytes other than 10 are within a line
unended-pass : (s : List ℕ) → Unended s → Pass within_line s
unended-pass [] h = tt
unended-pass (x ∷ s) h = (elim (eqb_tells x 10) [ inl e ↦ absurd (h.0 e.1) | inr e ↦ rw e.0 refl ], unended-pass s h.1)

-- no byte 10 stands within a form
form-passes : (f : Form) → WellFormed f → Pass within_line (bracketed (fields f))
form-passes f w = unended-pass (bracketed (fields f)) (forms-read.unended f (bracketed (fields f)) (w, refl))

-- a line is refused where its form is
pub line-refused : (line : List ℕ) (k : ℕ) → Unended line → Refused (AnyWord Spells) line k → Refuses IsLine (line ++ (10 ∷ [])) k
line-refused line k u r = record {
  within = omega (arith, r.within, length-append line (10 ∷ []));
  goes = (r.goes.0 ++ (10 ∷ []), (r.goes.1.0, r.goes.1.1.0, ap (λ l. l ++ (r.goes.0 ++ (10 ∷ []))) (take-append-le k line (10 ∷ []) r.within) ∙ sym (append_assoc (take k line) r.goes.0 (10 ∷ [])) ∙ ap (λ l. l ++ (10 ∷ [])) r.goes.1.1.1));
  stuck = λ b.
      let f = b.1.0 in
      let form = bracketed (fields f) in
      let passes = unended-pass line u in
      ⊎_elim
      (λ lt.
      let q = begins-word within_line (take (k + 1) line) form b.0 (10 ∷ []) (Pass-take within_line line (k + 1) passes) refl (ap (λ l. l ++ b.0) (sym (take-append-le (k + 1) line (10 ∷ []) (omega arith))) ∙ b.1.2) in
      r.stuck lt (q.0, (f, (b.1.1, sym q.1))))
      (λ le.
      let n : k ≡ length line = omega (arith, r.within) in
      let whole : take (k + 1) (line ++ (10 ∷ [])) ≡ line ++ (10 ∷ []) = take_all (k + 1) (line ++ (10 ∷ [])) (omega (arith, length-append line (10 ∷ []))) in
      let q = same-word within_line line form (10 ∷ b.0) (10 ∷ []) passes (form-passes f b.1.1) refl refl (sym (append_assoc line (10 ∷ []) b.0) ∙ ap (λ l. l ++ b.0) (sym whole) ∙ b.1.2) in
      r.ends n (f, (b.1.1, q.0)))
      (order k (length line));
}

-- ---- spellings
-- one end
pub one-end : OneEnd
one-end f i w lt e =
    let form = bracketed (fields f) in
    let before : i < length form = omega (arith, lt, length-append form (10 ∷ [])) in
    All-from_recursion (λ b. b ≢ 10) form (forms-read.unended f form (w, refl)) i 0 before (sym (get_or_append_left form (10 ∷ []) 0 i before) ∙ e)

-- one reading: the forms end at the first byte 10, and are read alike
pub one-reading : OneReading
one-reading f g s t v w e =
    let q = same-word within_line (bracketed (fields f)) (bracketed (fields g)) (10 ∷ s) (10 ∷ t) (form-passes f v) (form-passes g w) refl refl (sym (append_assoc (bracketed (fields f)) (10 ∷ []) s) ∙ e ∙ append_assoc (bracketed (fields g)) (10 ∷ []) t) in (
      Ok-is (reading (bracketed (fields f))) f g (reading-complete f _ v refl) (ap reading q.0 ∙ reading-complete g _ w refl),
      append_cancel_left (10 ∷ []) s t q.1,
    )
