-- How the answer to a text ends: with its last line, or with the first that is refused. Each time what was written is the answer, and the law holds of it.
use Rattle.std.proofs.Common.{◌≡◌, ℕ, ◌+◌, ◌<◌, ◌≤◌, Bool, true, false, cond, ◌⊎◌, List, [], ◌∷◌, ◌++◌, length, Ok, Err, Result, flat_map, sym, refl, ap, ◌∙◌, subst, inl, inr, append-nil, length-append, arith}
use Rattle.batch.specs.Term.{Batchable}
use Rattle.answers.specs.Trace.{LawfulTrace}
use Rattle.forms.specs.Forms.{Form, spelling, WellFormed, IsLine}
use Rattle.forms.specs.Languages.{Refuses}
use Rattle.form_reader.specs.Reading.{reading}
use Rattle.form_reader.proofs.Lines.{reading-accepted, reading-refused, line-refused}
use Rattle.text_lines.specs.Lines.{Line, lines_of, line_bytes, NoEnd, AreLines}
use Rattle.text_lines.proofs.Cutting.{lines_are_text}
use Rattle.text_call.specs.Progress.{Progress, refused_by, outcome_of}
use Rattle.text_call.specs.Answer.{no_form_number, refusal_text, text_from_form, text_from_line, text_from, text_answer}
use Rattle.text_call.specs.Law.{BrokenLine, RefusedForm, Ending, TextLaw}
use Rattle.text_call.proofs.Past.{Past, first_line_bytes, begins_with_form, line_of_form}
use Rattle.text_call.proofs.Stuck.{stuck_ended, stuck_unended, stuck_short, number_ended, number_past_end, number_unended}

-- this is the answer to the text, and the law holds of it
pub record IsAnswer (text answer : List ℕ) : Type 0 where
  pub equals : text_answer text ≡ answer
  pub law : TextLaw text answer

-- ---- the line that is refused
-- what a line is, and what stands behind it
pub first_line : (rest more : List ℕ) (l : Line) → lines_of rest ≡ l ∷ lines_of more → AreLines (l ∷ lines_of more)
first_line rest more l cut = subst AreLines cut (lines_are_text rest).1

-- where a line is, something is left
line_left : (rest more : List ℕ) (l : Line) → lines_of rest ≡ l ∷ lines_of more → 0 < length rest
line_left [] more l cut = cc
line_left (b ∷ bs) more l cut = omega arith

-- behind a line that does not end stands nothing
nothing_behind : (rest more : List ℕ) (l : Line) → lines_of rest ≡ l ∷ lines_of more → l.ended ≡ false → rest ≡ l.bytes
nothing_behind rest more l cut open_line =
    let none = ((first_line rest more l cut).1 open_line).0 in
    let no_more : more ≡ [] = sym (lines_are_text more).0 ∙ ap (flat_map line_bytes) none in
    first_line_bytes rest more l cut ∙ ap (λ (b : Bool). (l.bytes ++ cond b (10 ∷ []) []) ++ more) open_line ∙ ap (λ (s : List ℕ). (l.bytes ++ []) ++ s) no_more
    ∙ append-nil (l.bytes ++ []) ∙ append-nil l.bytes

-- a line is refused at a byte of it, or at its end
refused_within : (bytes : List ℕ) (k : ℕ) → Refuses IsLine (bytes ++ 10 ∷ []) k → k ≤ length bytes
refused_within bytes k r = let near = r.within in omega (arith, length-append bytes (10 ∷ []))

-- what is left begins with an ended line that is no form
broken_ended : (bytes more : List ℕ) (k : ℕ) → NoEnd bytes → Refuses IsLine (bytes ++ 10 ∷ []) k → BrokenLine ((bytes ++ 10 ∷ []) ++ more) (no_form_number bytes k) (k + 1)
broken_ended bytes more k none r = record {
  place = k;
  stuck = stuck_ended bytes more k none r;
  number_is = number_ended bytes more k none (refused_within bytes k r);
  byte_is = refl;
}

-- it is one that does not end, and no form
broken_unended : (bytes : List ℕ) (k : ℕ) → NoEnd bytes → Refuses IsLine (bytes ++ 10 ∷ []) k → BrokenLine bytes (no_form_number bytes k) (k + 1)
broken_unended bytes k none r = record { place = k; stuck = stuck_unended bytes k none r; number_is = number_unended bytes k none (refused_within bytes k r); byte_is = refl }

-- it is a form, but for its end
broken_short : (bytes : List ℕ) (f : Form) → NoEnd bytes → WellFormed f → bytes ++ 10 ∷ [] ≡ spelling f → BrokenLine bytes 19 (length bytes + 1)
broken_short bytes f none well e = record { place = length bytes; stuck = stuck_short bytes f none well e; number_is = number_past_end bytes; byte_is = refl }

-- ---- the law
module _ (text rest : List ℕ) (n : ℕ) (p : Progress) (out : List ℕ) (past : Past text rest n p out) (lawful : LawfulTrace p.trace) (batch : Batchable p.terms) where
  -- of a text that ends so
  law_from : (close : List ℕ) → Ending p n rest close → TextLaw text (out ++ close)
  law_from close ending = record {
    term_forms = past.term_forms;
    call_forms = past.call_forms;
    terms = p.terms;
    trace = p.trace;
    left = rest;
    close = close;
    well_formed = past.read.well_formed;
    spelled = past.read.spelled;
    are_terms = past.are_terms;
    batchable = batch;
    are_calls = past.are_calls;
    lawful = lawful;
    done = past.allowed;
    few_asks = past.few_asks;
    answer_is = ap (λ (s : List ℕ). s ++ close) past.answer_is;
    ending = subst (λ (m : ℕ). Ending p m rest close) past.read.count ending;
  }

  -- and where this is written of what is left, that is the answer
  answer_from : (close : List ℕ) → text_from p n (lines_of rest) ≡ close → Ending p n rest close → IsAnswer text (out ++ close)
  answer_from close written ending = record { equals = past.ahead ∙ ap (λ (s : List ℕ). out ++ s) written; law = law_from close ending }

-- the text ends with its last line
pub past_end : (text : List ℕ) (n : ℕ) (p : Progress) (out : List ℕ) → Past text [] n p out → LawfulTrace p.trace → Batchable p.terms → IsAnswer text out
past_end text n p out past lawful batch = subst (IsAnswer text) (append-nil out) (answer_from text [] n p out past lawful batch [] refl (inl (refl, refl)))

-- ---- the next line is refused
module _ (text rest more : List ℕ) (n : ℕ) (p : Progress) (out : List ℕ) (past : Past text rest n p out) (lawful : LawfulTrace p.trace) (batch : Batchable p.terms)
    (l : Line) (cut : lines_of rest ≡ l ∷ lines_of more) where
  -- no byte 10 stands in it
  none_inside : NoEnd l.bytes
  none_inside = (first_line rest more l cut).0

  -- what follows from the line alone
  refused_line : (number byte : ℕ) → text_from_line p n l (reading l.bytes) (λ q. text_from q (n + 1) (lines_of more)) ≡ refusal_text number n byte
      → BrokenLine rest number byte ⊎ RefusedForm p rest number byte → IsAnswer text (out ++ refusal_text number n byte)
  refused_line number byte written why =
      answer_from text rest n p out past lawful batch (refusal_text number n byte) (ap (text_from p n) cut ∙ written) (inr (record { some = line_left rest more l cut; number = number; byte = byte; why = why; told = refl }))

  -- the rest begins with a line that is stuck there
  broken_at : (k : ℕ) → Refuses IsLine (l.bytes ++ 10 ∷ []) k → BrokenLine rest (no_form_number l.bytes k) (k + 1)
  broken_at k r = by_end l.ended refl where
    by_end : (b : Bool) → l.ended ≡ b → BrokenLine rest (no_form_number l.bytes k) (k + 1)
    by_end true is =
        subst (λ (s : List ℕ). BrokenLine s (no_form_number l.bytes k) (k + 1)) (sym (first_line_bytes rest more l cut ∙ ap (λ (b : Bool). (l.bytes ++ cond b (10 ∷ []) []) ++ more) is))
        (broken_ended l.bytes more k none_inside r)
    by_end false is = subst (λ (s : List ℕ). BrokenLine s (no_form_number l.bytes k) (k + 1)) (sym (nothing_behind rest more l cut is)) (broken_unended l.bytes k none_inside r)

  -- it is no form
  pub past_broken : (k : ℕ) → reading l.bytes ≡ Err k → IsAnswer text (out ++ refusal_text (no_form_number l.bytes k) n (k + 1))
  past_broken k reads =
      refused_line (no_form_number l.bytes k) (k + 1) (ap (λ (x : Result Form ℕ). text_from_line p n l x (λ q. text_from q (n + 1) (lines_of more))) reads) (inl (broken_at k (line-refused l.bytes k none_inside (reading-refused k l.bytes reads))))

  -- it is a form that does not end
  pub past_unended : (f : Form) → reading l.bytes ≡ Ok f → l.ended ≡ false → IsAnswer text (out ++ refusal_text 19 n (length l.bytes + 1))
  past_unended f reads open_line =
      let close = refusal_text 19 n (length l.bytes + 1) in
      let later : Progress → List ℕ = λ q. text_from q (n + 1) (lines_of more) in
      let spelled = reading-accepted f l.bytes reads in
      refused_line 19 (length l.bytes + 1)
      (ap (λ (x : Result Form ℕ). text_from_line p n l x later) reads ∙ ap (λ (b : Bool). cond b (text_from_form n (outcome_of p f) later) close) open_line)
      (inl (subst (λ (s : List ℕ). BrokenLine s 19 (length l.bytes + 1)) (sym (nothing_behind rest more l cut open_line)) (broken_short l.bytes f none_inside spelled.0 spelled.1)))

  -- it is a form that is refused
  pub past_refused : (f : Form) (number : ℕ) → reading l.bytes ≡ Ok f → l.ended ≡ true → outcome_of p f ≡ refused_by number → IsAnswer text (out ++ refusal_text number n 1)
  past_refused f number reads ended gets =
      let later : Progress → List ℕ = λ q. text_from q (n + 1) (lines_of more) in
      refused_line number 1 (line_of_form p n l later f (refused_by number) reads ended gets)
      (inr (record { form = f; more = more; well_formed = (reading-accepted f l.bytes reads).0; begins = begins_with_form rest more l f cut ended reads; refused = gets; byte_is = refl }))
