-- A line that is no form: where it is stuck, and its number.
use Rattle.std.proofs.Common.{◌≡◌, ℕ, zero, suc, ◌+◌, ◌<◌, ◌≤◌, false, eqb, List, [], ◌∷◌, ◌++◌, length, get_or, take, drop, sym, refl, ap, ◌∙◌, subst, append_assoc, append-nil, take_all, length-append, take-append-drop, lt-ltb, le-ltb, ne_eqb, ⊎_elim, eq-or-lt_of_le, arith}
use Rattle.std.proofs.lemmas.List.{take-append-le, get_or_append_left}
use Rattle.std.proofs.Math.Bool.{and-false, or-false}
use Rattle.std.proofs.Math.Seq.{get_or-append_seam}
use Rattle.forms.specs.Parts.{bracketed}
use Rattle.forms.specs.Forms.{Form, fields, spelling, WellFormed, IsLine}
use Rattle.forms.specs.Languages.{Begins, Refuses}
use Rattle.text_lines.specs.Lines.{NoEnd}
use Rattle.text_call.specs.Answer.{is_line_byte, no_form_number}
use Rattle.text_call.specs.Law.{StuckAt, stuck_number}

-- ---- spellings and bytes 10
-- bytes without a 10 reach no further than the first 10 of a text
before_end : (bytes rest s more : List ℕ) → NoEnd bytes → bytes ++ rest ≡ s ++ 10 ∷ more → length bytes ≤ length s
before_end [] rest s more none e = omega arith
before_end (b ∷ bytes) rest [] more none e = absurd (none.0 (cc))
before_end (b ∷ bytes) rest (x ∷ s) more none e = let z = before_end bytes rest s more none.1 (cc) in omega arith

-- the spelling of a form that a text begins with reaches past such bytes
past_bytes : (bytes rest more : List ℕ) (f : Form) → NoEnd bytes → bytes ++ rest ≡ spelling f ++ more → length bytes < length (spelling f)
past_bytes bytes rest more f none e =
    let z = before_end bytes rest (bracketed (fields f)) more none (e ∙ append_assoc (bracketed (fields f)) (10 ∷ []) more) in
    omega (arith, length-append (bracketed (fields f)) (10 ∷ []))

-- so a text without a 10 begins with none
no_spelling : (bytes more : List ℕ) (f : Form) → NoEnd bytes → ¬ (bytes ≡ spelling f ++ more)
no_spelling bytes more f none e =
    let z = past_bytes bytes [] more f none (append-nil bytes ∙ e) in
    omega (arith, ap length e, length-append (spelling f) more)

-- the bytes that a spelling begins with begin a line
spelling_begins : (f : Form) (k : ℕ) → WellFormed f → Begins IsLine (take k (spelling f))
spelling_begins f k well = (drop k (spelling f), (f, well, take-append-drop k (spelling f)))

-- ---- where a text is stuck
-- an ended line that is refused at k, and more behind it
pub stuck_ended : (bytes more : List ℕ) (k : ℕ) → NoEnd bytes → Refuses IsLine (bytes ++ 10 ∷ []) k → StuckAt ((bytes ++ 10 ∷ []) ++ more) k
stuck_ended bytes more k none r =
    let line = bytes ++ 10 ∷ [] in
    let long = length-append bytes (10 ∷ []) in
    let near = r.within in
    record {
      within = omega (arith, length-append line more);
      goes = subst (Begins IsLine) (sym (take-append-le k line more (omega arith))) r.goes;
      stuck = λ _ b. r.stuck (subst (Begins IsLine) (take-append-le (k + 1) line more (omega arith)) b);
      whole = λ f other well e.
          let far = past_bytes bytes (10 ∷ more) other f none (sym (append_assoc bytes (10 ∷ []) more) ∙ e) in
          let same = sym (take-append-le (k + 1) (spelling f) other (omega arith)) ∙ ap (take (k + 1)) (sym e) ∙ take-append-le (k + 1) line more (omega arith) in
          r.stuck (subst (Begins IsLine) same (spelling_begins f (k + 1) well));
    }

-- a line that does not end and is refused at k, at the end of a text
pub stuck_unended : (bytes : List ℕ) (k : ℕ) → NoEnd bytes → Refuses IsLine (bytes ++ 10 ∷ []) k → StuckAt bytes k
stuck_unended bytes k none r =
    let long = length-append bytes (10 ∷ []) in
    let near = r.within in
    record {
      within = omega arith;
      goes = subst (Begins IsLine) (take-append-le k bytes (10 ∷ []) (omega arith)) r.goes;
      stuck = λ before b. r.stuck (subst (Begins IsLine) (sym (take-append-le (k + 1) bytes (10 ∷ []) (omega arith))) b);
      whole = λ f other well. no_spelling bytes other f none;
    }

-- a line that lacks no more than its byte 10
pub stuck_short : (bytes : List ℕ) (f : Form) → NoEnd bytes → WellFormed f → bytes ++ 10 ∷ [] ≡ spelling f → StuckAt bytes (length bytes)
stuck_short bytes f none well e = record {
  within = omega arith;
  goes = subst (Begins IsLine) (sym (take_all (length bytes) bytes (omega arith))) (10 ∷ [], (f, well, e));
  stuck = λ before. absurd (omega arith);
  whole = λ g other _. no_spelling bytes other g none;
}

-- ---- its number
-- the byte at a place of bytes without a 10
at_place : (bytes : List ℕ) (k : ℕ) → NoEnd bytes → k < length bytes → eqb (get_or bytes k 0) 10 ≡ false
at_place [] k none within = absurd (omega arith)
at_place (b ∷ bytes) zero none within = ne_eqb b 10 none.0
at_place (b ∷ bytes) (suc k) none within = at_place bytes k none.1 (omega arith)

-- of a byte of the line
number_within : (bytes rest : List ℕ) (k : ℕ) → NoEnd bytes → k < length bytes → no_form_number bytes k ≡ stuck_number (bytes ++ rest) k
number_within bytes rest k none within =
    let long = length-append bytes rest in
    rw (get_or_append_left bytes rest 0 k within, at_place bytes k none within, lt-ltb k (length (bytes ++ rest)) (omega arith), lt-ltb k (length bytes) within, or-false (is_line_byte (get_or bytes k 0))) refl

-- of the byte 10 that ends it
number_at_end : (bytes more : List ℕ) → no_form_number bytes (length bytes) ≡ stuck_number (bytes ++ 10 ∷ more) (length bytes)
number_at_end bytes more = rw (get_or-append_seam bytes 10 more 0, and-false, le-ltb (length bytes) (length bytes) (omega arith)) refl

-- of an ended line, with more behind it
pub number_ended : (bytes more : List ℕ) (k : ℕ) → NoEnd bytes → k ≤ length bytes → no_form_number bytes k ≡ stuck_number ((bytes ++ 10 ∷ []) ++ more) k
number_ended bytes more k none near =
    subst (λ (s : List ℕ). no_form_number bytes k ≡ stuck_number s k) (sym (append_assoc bytes (10 ∷ []) more))
    (⊎_elim (λ (e : k ≡ length bytes). subst (λ (j : ℕ). no_form_number bytes j ≡ stuck_number (bytes ++ 10 ∷ more) j) (sym e) (number_at_end bytes more)) (number_within bytes (10 ∷ more) k none)
    (eq-or-lt_of_le near))

-- of a line that does not end
pub number_past_end : (bytes : List ℕ) → 19 ≡ stuck_number bytes (length bytes)
number_past_end bytes = rw (le-ltb (length bytes) (length bytes) (omega arith)) refl

pub number_unended : (bytes : List ℕ) (k : ℕ) → NoEnd bytes → k ≤ length bytes → no_form_number bytes k ≡ stuck_number bytes k
number_unended bytes k none near =
    ⊎_elim (λ (e : k ≡ length bytes). subst (λ (j : ℕ). no_form_number bytes j ≡ stuck_number bytes j) (sym e) (rw (le-ltb (length bytes) (length bytes) (omega arith)) refl))
    (λ (within : k < length bytes). subst (λ (s : List ℕ). no_form_number bytes k ≡ stuck_number s k) (append-nil bytes) (number_within bytes [] k none within)) (eq-or-lt_of_le near)
