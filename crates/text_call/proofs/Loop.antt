-- What holds between two lines of a text, and what a written line changes of it.
use Rattle.std.proofs.Common.{◌≡◌, ℕ, ◌+◌, ◌-◌, ◌*◌, ◌<◌, ◌≤◌, cond, List, ◌∷◌, ◌++◌, length, take, drop, Some, None, Ok, Err, Option, Result, sym, refl, ap, ◌∙◌, subst, ⊎_elim, arith, append_assoc, length-append}
use Rattle.std.proofs.lemmas.List.{take_at, drop_at, drop-drop, length-take-le}
use Rattle.history.specs.declared.any_sheet.Sheet.{Sheet}
use Rattle.history.specs.declared.any_sheet.Sheet.TheVariants.{Open, Set}
use Rattle.sheet.specs.Model.{undoing}
use Rattle.answers.specs.Asked.{Reply}
use Rattle.answers.specs.Trace.{Event, event, LawfulTrace}
use Rattle.ask_history.specs.Data.{reply_told}
use Rattle.ask_history.specs.Traced.{Traced}
use Rattle.ask_history.specs.declared.answered.AnsweredAsk.{AnsweredAsk}
use Rattle.forms.specs.Forms.{Form}
use Rattle.form_reader.specs.Reading.{reading}
use Rattle.form_reader.proofs.Lines.{reading-refused}
use Rattle.line_writer.specs.Wrote.{Wrote}
use Rattle.line_writer.specs.Longest.{longest_answer}
use Rattle.text_terms.specs.declared.list.TermList.{TermList}
use Rattle.text_terms.specs.TermLists.{limbs_used}
use Rattle.text_lines.specs.Lines.{Line, lines_of}
use Rattle.batch.specs.Term.{Term, Batchable, most_terms}
use Rattle.text_call.specs.declared.calls.Calls.{Calls}
use Rattle.text_call.specs.declared.fault.LineFault.{LineFault}
use Rattle.text_call.specs.declared.fault.LineFault.TheVariants.{OddByte, Broken, Form as RefusedForm}
use Rattle.text_call.specs.Faults.{longest_text, line_fault_number, line_fault_byte, form_fault_number}
use Rattle.text_call.specs.Progress.{Progress, goes_on, outcome_of, is_answered, asks_answered}
use Rattle.text_call.specs.Answer.{reply_text, refusal_text, no_form_number}
use Rattle.text_call.specs.Standing.{Stands, IsBroken, TookLine}
use Rattle.text_call.proofs.Limits.{terms-limited, terms_of-few}
use Rattle.text_call.proofs.Steps.{TermAdded, CallMade, Advances, advances, asks_push}
use Rattle.text_call.proofs.Past.{Past, past_more}
use Rattle.text_call.proofs.Ends.{IsAnswer, past_broken, past_unended, past_refused}

-- The lines before what is left of the text are taken, and their answers are written: `at` bytes, at the front of what was there before.
pub record Between (text before : List ℕ) (terms : TermList) (calls : Calls) (rest : List ℕ) (number at : ℕ) (answer : List ℕ) : Type 0 where
  pub progress : Progress
  pub stands : Stands progress terms calls
  pub past : Past text rest number progress (take at answer)
  pub room : at ≤ longest_answer * asks_answered progress.trace
  pub limbs : 9 * limbs_used terms + length rest ≤ longest_text
  pub lines : number + length rest ≤ longest_text + 1
  pub whole : length answer ≡ length before
  pub untouched : drop at answer ≡ drop at before

-- ---- what a writer left
module _ (old : List ℕ) (at : ℕ) (bytes new : List ℕ) (end : ℕ) (w : Wrote old at bytes new end) where
  before_end : length (take at old ++ bytes) ≡ end
  before_end = let r = w.room in let e = w.ends in omega (arith, length-append (take at old) bytes, length-take-le at old (omega arith))

  regrouped : new ≡ (take at old ++ bytes) ++ drop end old
  regrouped = w.after ∙ sym (append_assoc (take at old) bytes (drop end old))

  -- what stands before its end
  pub take-wrote : take end new ≡ take at old ++ bytes
  take-wrote = ap (take end) regrouped ∙ take_at (take at old ++ bytes) (drop end old) end before_end

  -- and behind it
  pub drop-wrote : drop end new ≡ drop end old
  drop-wrote = ap (drop end) regrouped ∙ drop_at (take at old ++ bytes) (drop end old) end before_end

-- what is the same from a place on is the same behind it
pub behind : (xs ys : List ℕ) (at end : ℕ) → drop at xs ≡ drop at ys → at ≤ end → drop end xs ≡ drop end ys
behind xs ys at end same le =
    let e : at + (end - at) ≡ end = omega arith in
    ap (λ (n : ℕ). drop n xs) (sym e) ∙ sym (drop-drop (end - at) at xs) ∙ ap (drop (end - at)) same ∙ drop-drop (end - at) at ys ∙ ap (λ (n : ℕ). drop n ys) e

-- ---- answers and their room
-- so many answers more
abbrev pub answers_in : Reply → ℕ
answers_in r = cond (is_answered (event undoing r)) 1 0

-- the answers after a form that goes on
pub asks_after : (p q : Progress) (f : Form) (r : Reply) → outcome_of p f ≡ goes_on q r → asks_answered q.trace ≡ asks_answered p.trace + answers_in r
asks_after p q f r e = ⊎_elim
    (λ (a : TermAdded p f q r). ap (λ (x : Progress). asks_answered x.trace) a.next ∙ sym (ap (λ (x : Reply). asks_answered p.trace + answers_in x) a.got ∙ omega arith))
    (λ (m : CallMade p f q r). ap (λ (x : Progress). asks_answered x.trace) m.next ∙ asks_push p.trace (event m.made r))
    (subst (Advances p f) e (advances p f))

-- the room that they take
pub room_after : (at end asks : ℕ) (x : Option AnsweredAsk) → end ≡ at + length (reply_text (reply_told (Ok x))) → end ≤ at + longest_answer → at ≤ longest_answer * asks
    → end ≤ longest_answer * (asks + answers_in (reply_told (Ok x)))
room_after at end asks None ends short room = omega arith
room_after at end asks (Some a) ends short room = omega arith

-- a trace that leads to a sheet is lawful
pub traced_lawful : (h : List Event) (s : Sheet) → Traced h s → LawfulTrace h
traced_lawful h (Open s) t = t.lawful
traced_lawful h (Set s) t = t.lawful

-- ---- a line that is refused
-- the byte that it blames is within the line, or one past it
pub byte-le : (l : Line) (p : Progress) (ts : TermList) (c : Calls) (f : LineFault) → TookLine l p ts c (Err f) → line_fault_byte f ≤ length l.bytes + 1
byte-le l p ts c (OddByte place) t = let r = (reading-refused place l.bytes t.0).within in omega arith
byte-le l p ts c (Broken place) t = by_reading (reading l.bytes) refl t where
  by_reading : (x : Result Form ℕ) → reading l.bytes ≡ x → IsBroken l place x → place + 1 ≤ length l.bytes + 1
  by_reading (Err k) is b = let r = (reading-refused k l.bytes is).within in let e = b.0 in omega arith
  by_reading (Ok f) is b = let e = b.1 in omega arith
byte-le l p ts c (RefusedForm f) t = omega arith

-- what was written with its refusal is the answer
module _ (text rest more : List ℕ) (n : ℕ) (p : Progress) (out : List ℕ) (past : Past text rest n p out) (lawful : LawfulTrace p.trace) (batch : Batchable p.terms)
    (l : Line) (cut : lines_of rest ≡ l ∷ lines_of more) (ts : TermList) (c : Calls) where
  abbrev Ended : ℕ → ℕ → Type 0
  Ended number byte = IsAnswer text (out ++ refusal_text number n byte)

  broken_ends : (k number : ℕ) → reading l.bytes ≡ Err k → no_form_number l.bytes k ≡ number → Ended number (k + 1)
  broken_ends k number reads is = subst (λ (x : ℕ). Ended x (k + 1)) is (past_broken text rest more n p out past lawful batch l cut k reads)

  pub line_ends : (f : LineFault) → TookLine l p ts c (Err f) → Ended (line_fault_number f) (line_fault_byte f)
  line_ends (OddByte place) t = broken_ends place 18 t.0 t.1
  line_ends (Broken place) t = by_reading (reading l.bytes) refl t where
    by_reading : (x : Result Form ℕ) → reading l.bytes ≡ x → IsBroken l place x → Ended 19 (place + 1)
    by_reading (Err k) is b = subst (λ (x : ℕ). Ended 19 (x + 1)) b.0 (broken_ends k 19 is (subst (λ (x : ℕ). no_form_number l.bytes x ≡ 19) (sym b.0) b.1))
    by_reading (Ok f) is b = subst (λ (x : ℕ). Ended 19 (x + 1)) (sym b.1) (past_unended text rest more n p out past lawful batch l cut f is b.0)
  line_ends (RefusedForm f) t = past_refused text rest more n p out past lawful batch l cut t.0 (form_fault_number f) t.1.1 t.1.0 t.2

-- ---- from one line to the next
module _ (text before : List ℕ) (terms : TermList) (calls : Calls) (rest : List ℕ) (number at : ℕ) (answer : List ℕ) (b : Between text before terms calls rest number at answer) where
  abbrev past : Past text rest number b.progress (take at answer)
  past = b.past

  -- the trace so far is lawful
  pub between-lawful : LawfulTrace b.progress.trace
  between-lawful = traced_lawful b.progress.trace calls.sheet b.stands.traced

  -- the terms so far can be a batch
  pub between-batch : Batchable b.progress.terms
  between-batch = record {
    few = subst (λ (ts : List Term). length ts ≤ most_terms) b.stands.terms (terms_of-few terms);
    each_limited = terms-limited past.term_forms past.call_forms b.progress.terms past.read.well_formed past.are_terms;
  }

  module _ (l : Line) (more : List ℕ) (cut : lines_of rest ≡ l ∷ lines_of more) (after : TermList) (made : Calls) (new : List ℕ) (end : ℕ) where
    -- the next line is refused, and its refusal is written
    pub refusal_written : (f : LineFault) → TookLine l b.progress after made (Err f) → (n k : ℕ) → n ≡ line_fault_number f → k ≡ line_fault_byte f → Wrote answer at (refusal_text n number k) new end
        → IsAnswer text (take end new)
    refusal_written f took n k is_number is_byte w =
        subst (IsAnswer text)
        (ap (λ (x : ℕ). take at answer ++ refusal_text x number (line_fault_byte f)) (sym is_number) ∙ ap (λ (x : ℕ). take at answer ++ refusal_text n number x) (sym is_byte)
        ∙ sym (take-wrote answer at (refusal_text n number k) new end w))
        (line_ends text rest more number b.progress (take at answer) past between-lawful between-batch l cut after made f took)

    -- the next line is taken, and what is written of it is written
    pub line_taken : (x : Option AnsweredAsk) → TookLine l b.progress after made (Ok x) → length more + length l.bytes ≤ length rest → length more < length rest
        → 9 * limbs_used after ≤ 9 * limbs_used terms + length l.bytes → Wrote answer at (reply_text (reply_told (Ok x))) new end → end ≤ at + longest_answer → length new ≡ length answer
        → Between text before after made more (number + 1) end new
    line_taken x took shorter on limbs w short same =
        let f = took.0 in
        let q = took.2.0 in
        let r = reply_told (Ok x) in
        let gets = took.2.1 in
        let old_limbs = b.limbs in
        let old_lines = b.lines in
        record {
          progress = q;
          stands = took.2.2;
          past = subst (Past text more (number + 1) q) (sym (take-wrote answer at (reply_text r) new end w)) (past_more text rest more number b.progress (take at answer) past l cut took.1.0 f took.1.1 q r gets);
          room = subst (λ (n : ℕ). end ≤ longest_answer * n) (sym (asks_after b.progress q f r gets)) (room_after at end (asks_answered b.progress.trace) x w.ends short b.room);
          limbs = omega arith;
          lines = omega arith;
          whole = same ∙ b.whole;
          untouched =
              drop-wrote answer at (reply_text r) new end w
              ∙ behind answer before at end b.untouched (let e = w.ends in omega arith);
        }
