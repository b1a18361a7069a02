-- The parts of forms: a keyword after the first bracket, fields after a space, limbs, and the bracket that ends a line.
use Rattle.std.proofs.Common.{◌≡◌, ℕ, suc, ◌+◌, List, [], ◌∷◌, ◌++◌, length, Result, Ok, Err, sym, refl, ap, ◌∙◌, subst, inl, inr, arith}
use Rattle.std.proofs.lemmas.Bool.Decides.{eqb_tells}
use Rattle.forms.specs.Languages.{Refused}
use Rattle.fields.specs.Laws.{AnyWord}
use Rattle.fields.specs.Words.{is_word_byte, IsKeyword, IsLimbsText}
use Rattle.fields.specs.Checking.{keyword_of, limbs_of}
use Rattle.form_reader.specs.Steps.{Left, ◌>>=◌, byte_at, field_at, spaced}
use Rattle.form_reader.specs.Reading.{named, is_limb_byte, spaced_limbs, end_at, closing_at}
use Rattle.form_reader.proofs.FrontWords.{Stops}
use Rattle.form_reader.proofs.StepLaws.{Reads, Reads-same, Reads-alike, bind-assoc, bind-next, ByteThen, byte-reads, Field, field-reads, Unended, Err-is, Ok-not-Err}

-- ---- the languages
-- a bracket, the keyword, and then a text of K
pub record Named {B : Type 0} (keyword : List ℕ) (K : B → List ℕ → Type 0) (v : B) (s : List ℕ) : Type 0 where
  pub rest : List ℕ
  pub goes : K v rest
  pub joins : s ≡ 40 ∷ (keyword ++ rest)

-- a space, a word of a field, and then a text of K for what the word spells
pub record Spaced {A B : Type 0} (Spells : A → List ℕ → Type 0) (K : A → B → List ℕ → Type 0) (v : B) (s : List ℕ) : Type 0 where
  pub value : A
  pub word : List ℕ
  pub rest : List ℕ
  pub is : Spells value word
  pub goes : K value v rest
  pub joins : s ≡ 32 ∷ (word ++ rest)

-- a space, limbs in brackets, and then a text of K for the limbs
pub record Listed {B : Type 0} (K : List ℕ → B → List ℕ → Type 0) (v : B) (s : List ℕ) : Type 0 where
  pub value : List ℕ
  pub text : List ℕ
  pub rest : List ℕ
  pub is : IsLimbsText value text
  pub goes : K value v rest
  pub joins : s ≡ 32 ∷ 40 ∷ (text ++ (41 ∷ rest))

-- a bracket, and the value that all before it spells
abbrev pub Closed : {B : Type 0} → B → B → List ℕ → Type 0
Closed value v s = (v ≡ value) × (s ≡ 41 ∷ [])

-- a space is in no word
pub Spaced-stops : {A B : Type 0} (Spells : A → List ℕ → Type 0) (K : A → B → List ℕ → Type 0) (v : B) (s : List ℕ) → Spaced Spells K v s → Stops is_word_byte s
Spaced-stops Spells K v s h = subst (Stops is_word_byte) (sym h.joins) refl

-- nor before limbs
pub Listed-stops : {B : Type 0} (K : List ℕ → B → List ℕ → Type 0) (v : B) (s : List ℕ) → Listed K v s → Stops is_word_byte s
Listed-stops K v s h = subst (Stops is_word_byte) (sym h.joins) refl

-- and no bracket
pub Closed-stops : {B : Type 0} (value v : B) (s : List ℕ) → Closed value v s → Stops is_word_byte s
Closed-stops value v s h = subst (Stops is_word_byte) (sym h.1) refl

-- ---- the end of a line
-- nothing, and the value that all before it spells
abbrev Ended : {B : Type 0} → B → B → List ℕ → Type 0
Ended value v s = (v ≡ value) × (s ≡ [])

module _ {B : Type 0} (value : B) where
  -- a byte stands where the line is to end
  end-stuck : (x : ℕ) (xs : List ℕ) (place : ℕ) → (end_at (record { bytes = x ∷ xs; place = place }) >>= λ end. Ok value) ≡ Err place
  end-stuck x xs place = elim (eqb_tells (suc (length xs)) 0) [ inl h ↦ absurd (omega (arith, h.1)) | inr h ↦ rw h.0 refl ]

  -- where the line ends the value is read
  end-accepted : (v : B) (bytes : List ℕ) (place : ℕ) → (end_at (record { bytes = bytes; place = place }) >>= λ end. Ok value) ≡ Ok v → Ended value v bytes
  end-accepted v [] place e = (cc, refl)
  end-accepted v (x ∷ xs) place e = Ok-not-Err _ v place e (end-stuck x xs place)

  -- where it does not, it is refused
  end-refused : (k : ℕ) (bytes : List ℕ) (place : ℕ) → (end_at (record { bytes = bytes; place = place }) >>= λ end. Ok value) ≡ Err k → (j : ℕ) × (k ≡ place + j) × Refused (AnyWord (Ended value)) bytes j
  end-refused k [] place e = absurd cc
  end-refused k (x ∷ xs) place e = (0, (let z = Err-is _ place k (end-stuck x xs place) e in omega arith), record { within = omega arith; goes = ([], (value, (refl, refl))); stuck = λ _ b. let z = b.1.1.1 in absurd cc; ends = λ n. absurd (omega arith) })

  -- nothing is read as the value
  end-complete : (v : B) (bytes : List ℕ) (place : ℕ) → Ended value v bytes → (end_at (record { bytes = bytes; place = place }) >>= λ end. Ok value) ≡ Ok v
  end-complete v [] place h = ap (λ x. Ok x) (sym h.0)
  end-complete v (x ∷ xs) place h = let z = h.1 in absurd cc

  -- the end is read exactly
  end-reads : Reads (Ended value) (λ rest. end_at rest >>= λ end. Ok value)
  end-reads = record {
    accepted = λ v left e. end-accepted v left.bytes left.place e;
    refused = λ k left e. end-refused k left.bytes left.place e;
    complete = λ v left h. end-complete v left.bytes left.place h;
    unended = λ v s h. subst Unended (sym h.1) tt;
    some = (value, [], (refl, refl));
  }

  -- the bracket that ends a form, and the line
  pub closing-reads : Reads (Closed value) (λ left. closing_at left >>= λ end. Ok value)
  closing-reads =
      Reads-alike _ _ _
      (λ v s h. (h.goes.0, h.joins ∙ ap (λ t. 41 ∷ t) h.goes.1))
      (λ v s h. record { rest = []; goes = (h.0, refl); joins = h.1 })
      (Reads-same _ _ _ (λ left. bind-assoc (byte_at 41 left) _ _) (byte-reads 41 (λ e. omega arith) (Ended value) (λ rest. end_at rest >>= λ end. Ok value) end-reads))

-- ---- what stands before it
-- a field after a space, before what follows it
pub spaced-reads : {A B : Type 0} {Spells : A → List ℕ → Type 0} {of : List ℕ → Result A ℕ} {K : A → B → List ℕ → Type 0} {next : A × Left → Result B ℕ} → Field is_word_byte Spells of → ((a : A) (v : B) (s : List ℕ) → K a v s → Stops is_word_byte s) → ((a : A) → Reads (K a) (λ left. next (a, left))) → Reads (Spaced Spells K) (λ left. spaced of left >>= next)
spaced-reads {Spells = Spells} {of = of} {K = K} {next = next} field stops reads =
    Reads-alike _ _ _
    (λ v s h. record { value = h.goes.value; word = h.goes.word; rest = h.goes.rest; is = h.goes.is; goes = h.goes.goes; joins = h.joins ∙ ap (λ t. 32 ∷ t) h.goes.joins })
    (λ v s h. record { rest = h.word ++ h.rest; goes = record { value = h.value; word = h.word; rest = h.rest; is = h.is; goes = h.goes; joins = refl }; joins = h.joins })
    (Reads-same _ _ _ (λ left. bind-assoc (byte_at 32 left) _ _) (byte-reads 32 (λ e. omega arith) _ _ (field-reads is_word_byte refl Spells of field K stops next reads)))

-- a bracket and a keyword, before what follows them
pub named-reads : {B : Type 0} {keyword : List ℕ} {K : B → List ℕ → Type 0} {next : Left → Result B ℕ} → Field is_word_byte (IsKeyword keyword) (keyword_of keyword) → ((v : B) (s : List ℕ) → K v s → Stops is_word_byte s) → Reads K next → Reads (Named keyword K) (λ left. named keyword left >>= next)
named-reads {keyword = keyword} {K = K} {next = next} field stops reads =
    Reads-alike _ _ _
    (λ v s h. record { rest = h.goes.rest; goes = h.goes.goes; joins = h.joins ∙ ap (λ t. 40 ∷ t) (h.goes.joins ∙ ap (λ w. w ++ h.goes.rest) h.goes.is) })
    (λ v s h. record { rest = keyword ++ h.rest; goes = record { value = tt; word = keyword; rest = h.rest; is = refl; goes = h.goes; joins = refl }; joins = h.joins })
    (Reads-same _ _ _ (λ left. bind-assoc (byte_at 40 left) _ _ ∙ bind-next (byte_at 40 left) _ _ (λ word. bind-assoc (field_at is_word_byte (keyword_of keyword) word) _ _))
    (byte-reads 40 (λ e. omega arith) _ _ (field-reads is_word_byte refl (IsKeyword keyword) (keyword_of keyword) field (λ _. K) (λ _. stops) (λ x. next x.1) (λ _. reads))))

-- limbs in brackets after a space, before what follows them
pub limbs-reads : {B : Type 0} {K : List ℕ → B → List ℕ → Type 0} {next : List ℕ × Left → Result B ℕ} → Field is_limb_byte IsLimbsText limbs_of → ((limbs : List ℕ) → Reads (K limbs) (λ left. next (limbs, left))) → Reads (Listed K) (λ left. spaced_limbs left >>= next)
limbs-reads {K = K} {next = next} field reads =
    Reads-alike _ _ _
    (λ v s h. let f = h.goes.goes in record { value = f.value; text = f.word; rest = f.goes.rest; is = f.is; goes = f.goes.goes; joins = h.joins ∙ ap (λ t. 32 ∷ t) (h.goes.joins ∙ ap (λ t. 40 ∷ t) (f.joins ∙ ap (λ t. f.word ++ t) f.goes.joins)) })
    (λ v s h. record { rest = 40 ∷ (h.text ++ (41 ∷ h.rest)); goes = record { rest = h.text ++ (41 ∷ h.rest); goes = record { value = h.value; word = h.text; rest = 41 ∷ h.rest; is = h.is; goes = record { rest = h.rest; goes = h.goes; joins = refl }; joins = refl }; joins = refl }; joins = h.joins })
    (Reads-same _ _ _
    (λ left. bind-assoc (byte_at 32 left) _ _ ∙ bind-next (byte_at 32 left) _ _
    (λ bracket. bind-assoc (byte_at 40 bracket) _ _ ∙ bind-next (byte_at 40 bracket) _ _
    (λ list. bind-assoc (field_at is_limb_byte limbs_of list) _ _ ∙ bind-next (field_at is_limb_byte limbs_of list) _ _
    (λ limbs. bind-assoc (byte_at 41 limbs.1) _ _))))
    (byte-reads 32 (λ e. omega arith) _ _ (byte-reads 40 (λ e. omega arith) _ _
    (field-reads is_limb_byte refl IsLimbsText limbs_of field (λ limbs. ByteThen 41 (K limbs)) (λ _ _ _ h. subst (Stops is_limb_byte) (sym h.joins) refl) (λ x. byte_at 41 x.1 >>= λ rest. next (x.0, rest))
    (λ limbs. byte-reads 41 (λ e. omega arith) (K limbs) (λ rest. next (limbs, rest)) (reads limbs))))))
