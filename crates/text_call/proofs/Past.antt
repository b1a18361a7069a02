-- What is known of a text while it is answered: the forms behind, the calls with what each got, and what was written of them.
use Rattle.std.proofs.Common.{◌≡◌, ℕ, ◌+◌, ◌≤◌, Bool, true, cond, List, [], ◌∷◌, ◌++◌, length, Ok, Result, flat_map, sym, refl, ap, ◌∙◌, subst, ⊎_elim, append_assoc, append-nil, arith}
use Rattle.std.specs.List.{AllByRecursion, AllZip}
use Rattle.std.proofs.lemmas.List.{length_push, flat_map_more}
use Rattle.answers.specs.Asked.{Reply}
use Rattle.answers.specs.Trace.{Event, event}
use Rattle.forms.specs.Forms.{Form, spelling, WellFormed}
use Rattle.form_reader.specs.Reading.{reading}
use Rattle.form_reader.proofs.Lines.{reading-accepted}
use Rattle.text_lines.specs.Lines.{Line, lines_of, line_bytes}
use Rattle.text_lines.proofs.Cutting.{lines_are_text}
use Rattle.text_call.specs.Progress.{Progress, start, Outcome, goes_on, asks_answered, most_asks, outcome_of}
use Rattle.text_call.specs.Answer.{reply_text, refusal_text, text_from_form, text_from_line, text_from, text_answer}
use Rattle.text_terms.specs.Meaning.{IsTerm}
use Rattle.text_call.specs.Law.{IsCall, AreTerms, AreCalls, NotRefused}
use Rattle.text_call.proofs.Steps.{TermAdded, CallMade, Advances, advances}

-- the text is the spellings of these forms, and then the rest, which begins with the n-th line
pub record FormsRead (text rest : List ℕ) (n : ℕ) (forms : List Form) : Type 0 where
  pub well_formed : AllByRecursion WellFormed forms
  pub spelled : text ≡ flat_map spelling forms ++ rest
  pub count : n ≡ length forms + 1

-- The text was read up to its n-th line, which the rest begins with: its forms so far came to the progress p, and `out` was written of them.
pub record Past (text rest : List ℕ) (n : ℕ) (p : Progress) (out : List ℕ) : Type 0 where
  pub term_forms : List Form
  pub call_forms : List Form
  pub read : FormsRead text rest n (term_forms ++ call_forms)
  pub are_terms : AreTerms term_forms p.terms
  pub are_calls : AreCalls p.terms call_forms p.trace
  pub allowed : AllByRecursion NotRefused p.trace
  pub few_asks : asks_answered p.trace ≤ most_asks
  pub answer_is : out ≡ flat_map (λ (e : Event). reply_text e.got) p.trace
  pub ahead : text_answer text ≡ out ++ text_from p n (lines_of rest)

-- before the first line nothing was read and nothing written
pub past_start : (text : List ℕ) → Past text text 1 start []
unfolding text_answer
past_start text = record {
  term_forms = [];
  call_forms = [];
  read = record { well_formed = tt; spelled = refl; count = refl };
  are_terms = tt;
  are_calls = tt;
  allowed = tt;
  few_asks = omega arith;
  answer_is = refl;
  ahead = refl;
}

-- ---- lists with one item more
all_push : {X : Type 0} (P : X → Type 0) (xs : List X) (x : X) → AllByRecursion P xs → P x → AllByRecursion P (xs ++ x ∷ [])
all_push P [] x all this = (this, tt)
all_push P (y ∷ ys) x all this = (all.0, all_push P ys x all.1 this)

zip_push : {X Y : Type 0} (R : X → Y → Type 0) (xs : List X) (ys : List Y) (x : X) (y : Y) → AllZip R xs ys → R x y → AllZip R (xs ++ x ∷ []) (ys ++ y ∷ [])
zip_push R [] [] x y all this = (this, tt)
zip_push R [] (b ∷ bs) x y all this = absurd all
zip_push R (a ∷ xs) [] x y all this = absurd all
zip_push R (a ∷ xs) (b ∷ bs) x y all this = (all.0, zip_push R xs bs x y all.1 this)

-- what is paired with nothing is nothing
none_zipped : {X Y : Type 0} (R : X → Y → Type 0) (xs : List X) (ys : List Y) → ys ≡ [] → AllZip R xs ys → xs ≡ []
none_zipped R [] ys none all = refl
none_zipped R (x ∷ xs) ys none all = absurd (subst (AllZip R (x ∷ xs)) none all)

-- ---- the first line
-- a text that begins with a line is the bytes of the line, and the text behind it
pub first_line_bytes : (rest more : List ℕ) (l : Line) → lines_of rest ≡ l ∷ lines_of more → rest ≡ line_bytes l ++ more
first_line_bytes rest more l cut = sym (lines_are_text rest).0 ∙ ap (flat_map line_bytes) cut ∙ ap (λ (bytes : List ℕ). line_bytes l ++ bytes) (lines_are_text more).0

-- one form more was read
read_more : (text rest more : List ℕ) (n : ℕ) (forms : List Form) (f : Form) → FormsRead text rest n forms → rest ≡ spelling f ++ more → WellFormed f
    → FormsRead text more (n + 1) (forms ++ f ∷ [])
read_more text rest more n forms f r begins well = record {
  well_formed = all_push WellFormed forms f r.well_formed well;
  spelled = r.spelled ∙ ap (λ (s : List ℕ). flat_map spelling forms ++ s) begins ∙ sym (append_assoc (flat_map spelling forms) (spelling f) more)
      ∙ ap (λ (s : List ℕ). s ++ more) (flat_map_more spelling [] forms f);
  count = let a = r.count in omega (arith, length_push forms f);
}

-- what is written of an ended line that is a form, and of the lines behind it
pub line_of_form : (p : Progress) (n : ℕ) (l : Line) (later : Progress → List ℕ) (f : Form) (o : Outcome) → reading l.bytes ≡ Ok f → l.ended ≡ true → outcome_of p f ≡ o
    → text_from_line p n l (reading l.bytes) later ≡ text_from_form n o later
line_of_form p n l later f o reads ended gets =
    ap (λ (x : Result Form ℕ). text_from_line p n l x later) reads ∙ ap (λ (b : Bool). cond b (text_from_form n (outcome_of p f) later) (refusal_text 19 n (length l.bytes + 1))) ended
    ∙ ap (λ (x : Outcome). text_from_form n x later) gets

-- ---- one line more
-- the spelling of the form of a line
pub begins_with_form : (rest more : List ℕ) (l : Line) (f : Form) → lines_of rest ≡ l ∷ lines_of more → l.ended ≡ true → reading l.bytes ≡ Ok f → rest ≡ spelling f ++ more
begins_with_form rest more l f cut ended reads =
    first_line_bytes rest more l cut ∙ ap (λ (b : Bool). (l.bytes ++ cond b (10 ∷ []) []) ++ more) ended ∙ ap (λ (s : List ℕ). s ++ more) (reading-accepted f l.bytes reads).1

module _ (text rest more : List ℕ) (n : ℕ) (p : Progress) (out : List ℕ) (past : Past text rest n p out) (l : Line) (cut : lines_of rest ≡ l ∷ lines_of more) (ended : l.ended ≡ true)
    (f : Form) (reads : reading l.bytes ≡ Ok f) where
  -- the forms so far, with that of the line
  next_read : FormsRead text more (n + 1) ((past.term_forms ++ past.call_forms) ++ f ∷ [])
  next_read = read_more text rest more n (past.term_forms ++ past.call_forms) f past.read (begins_with_form rest more l f cut ended reads) (reading-accepted f l.bytes reads).0

  -- what is written ahead of the next line
  next_ahead : (q : Progress) (r : Reply) → outcome_of p f ≡ goes_on q r → text_answer text ≡ (out ++ reply_text r) ++ text_from q (n + 1) (lines_of more)
  next_ahead q r gets =
      past.ahead ∙ ap (λ (ls : List Line). out ++ text_from p n ls) cut
      ∙ ap (λ (s : List ℕ). out ++ s) (line_of_form p n l (λ x. text_from x (n + 1) (lines_of more)) f (goes_on q r) reads ended gets)
      ∙ sym (append_assoc out (reply_text r) (text_from q (n + 1) (lines_of more)))

  -- a term more: no call was made before it
  after_term : (q : Progress) (r : Reply) → outcome_of p f ≡ goes_on q r → TermAdded p f q r → Past text more (n + 1) q (out ++ reply_text r)
  after_term q r gets a =
      let no_calls = none_zipped (λ g (e : Event). IsCall p.terms g e.call) past.call_forms p.trace a.no_call past.are_calls in
      subst (λ (x : Progress). Past text more (n + 1) x (out ++ reply_text r)) (sym a.next)
      (record {
        term_forms = past.term_forms ++ f ∷ [];
        call_forms = [];
        read = subst (FormsRead text more (n + 1))
            (ap (λ (fs : List Form). (past.term_forms ++ fs) ++ f ∷ []) no_calls ∙ ap (λ (fs : List Form). fs ++ f ∷ []) (append-nil past.term_forms) ∙ sym (append-nil (past.term_forms ++ f ∷ [])))
            next_read;
        are_terms = zip_push IsTerm past.term_forms p.terms f a.new past.are_terms a.means;
        are_calls = subst (AreCalls (p.terms ++ a.new ∷ []) []) (sym a.no_call) tt;
        allowed = past.allowed;
        few_asks = past.few_asks;
        answer_is = ap (λ (x : Reply). out ++ reply_text x) a.got ∙ append-nil out ∙ past.answer_is;
        ahead = subst (λ (x : Progress). text_answer text ≡ (out ++ reply_text r) ++ text_from x (n + 1) (lines_of more)) a.next (next_ahead q r gets);
      })

  -- a call more
  after_call : (q : Progress) (r : Reply) → outcome_of p f ≡ goes_on q r → CallMade p f q r → Past text more (n + 1) q (out ++ reply_text r)
  after_call q r gets c =
      subst (λ (x : Progress). Past text more (n + 1) x (out ++ reply_text r)) (sym c.next)
      (record {
        term_forms = past.term_forms;
        call_forms = past.call_forms ++ f ∷ [];
        read = subst (FormsRead text more (n + 1)) (append_assoc past.term_forms past.call_forms (f ∷ [])) next_read;
        are_terms = past.are_terms;
        are_calls = zip_push (λ g (e : Event). IsCall p.terms g e.call) past.call_forms p.trace f (event c.made r) past.are_calls c.means;
        allowed = all_push NotRefused p.trace (event c.made r) past.allowed c.allowed;
        few_asks = c.few past.few_asks;
        answer_is = ap (λ (s : List ℕ). s ++ reply_text r) past.answer_is ∙ flat_map_more (λ (e : Event). reply_text e.got) [] p.trace (event c.made r);
        ahead = subst (λ (x : Progress). text_answer text ≡ (out ++ reply_text r) ++ text_from x (n + 1) (lines_of more)) c.next (next_ahead q r gets);
      })

  -- the same behind the next line, whose form goes on
  pub past_more : (q : Progress) (r : Reply) → outcome_of p f ≡ goes_on q r → Past text more (n + 1) q (out ++ reply_text r)
  past_more q r gets = ⊎_elim (after_term q r gets) (after_call q r gets) (subst (Advances p f) gets (advances p f))
