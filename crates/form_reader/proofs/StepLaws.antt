-- Languages of what is left of a line, and readers that read just those: each step carries a reader of what follows it over to one of the whole.
use Rattle.std.proofs.Common.{◌≡◌, ◌≢◌, ℕ, ◌+◌, ◌<◌, Bool, false, eqb, List, [], ◌∷◌, ◌++◌, length, take, drop, Result, Ok, Err, sym, refl, ap, ◌∙◌, subst, inl, inr, ◌⊎◌, ⊎_elim, append_assoc, add_assoc, add-one, arith, length-append}
use Rattle.std.specs.List.{AllByRecursion, prefix_len}
use Rattle.std.proofs.lemmas.Bool.{eq-eqb}
use Rattle.std.proofs.lemmas.Bool.Decides.{eqb_tells}
use Rattle.std.proofs.lemmas.List.{take-append-le, take-append-drop}
use Rattle.std.proofs.lemmas.List.Folds.{length-prefix_len}
use Rattle.std.proofs.Math.Seq.{take-append-add}
use Rattle.std.proofs.str.Laws.{order}
use Rattle.forms.specs.Languages.{Begins, Refused}
use Rattle.fields.specs.Laws.{AnyWord, Checks}
use Rattle.form_reader.specs.Steps.{Left, ◌>>=◌, byte_at, front, behind, field_at}
use Rattle.form_reader.proofs.FrontWords.{Pass, Stops, Pass-not-Stops, prefix-parts, same-word, begins-word, Pass-take}

-- no byte 10 stands in a text
abbrev pub Unended : List ℕ → Type 0
Unended s = AllByRecursion (λ b. b ≢ 10) s

-- read gives the value of which what is left is a text, and else is stuck where no text can go on
pub record Reads {B : Type 0} (L : B → List ℕ → Type 0) (read : Left → Result B ℕ) : Type 0 where
  pub accepted : (v : B) (left : Left) → read left ≡ Ok v → L v left.bytes
  pub refused : (k : ℕ) (left : Left) → read left ≡ Err k → (j : ℕ) × (k ≡ left.place + j) × Refused (AnyWord L) left.bytes j
  pub complete : (v : B) (left : Left) → L v left.bytes → read left ≡ Ok v
  pub unended : (v : B) (s : List ℕ) → L v s → Unended s
  pub some : (v : B) × (s : List ℕ) × L v s

-- a text that is refused by a language of the same texts
Refused-alike : (L M : List ℕ → Type 0) (t : List ℕ) (k : ℕ) → ((s : List ℕ) → L s → M s) → ((s : List ℕ) → M s → L s) → Refused L t k → Refused M t k
Refused-alike L M t k to from r = record {
  within = r.within;
  goes = (r.goes.0, to _ r.goes.1);
  stuck = λ lt b. r.stuck lt (b.0, from _ b.1);
  ends = λ n h. r.ends n (from t h);
}

-- two readers that read alike
pub Reads-same : {B : Type 0} (L : B → List ℕ → Type 0) (read other : Left → Result B ℕ) → ((left : Left) → read left ≡ other left) → Reads L other → Reads L read
Reads-same L read other same r = record {
  accepted = λ v left e. r.accepted v left (sym (same left) ∙ e);
  refused = λ k left e. r.refused k left (sym (same left) ∙ e);
  complete = λ v left h. same left ∙ r.complete v left h;
  unended = r.unended;
  some = r.some;
}

-- a reader of texts that are those of another language
pub Reads-alike : {B : Type 0} (L M : B → List ℕ → Type 0) (read : Left → Result B ℕ) → ((v : B) (s : List ℕ) → L v s → M v s) → ((v : B) (s : List ℕ) → M v s → L v s) → Reads L read → Reads M read
Reads-alike L M read to from r = record {
  accepted = λ v left e. to v left.bytes (r.accepted v left e);
  refused = λ k left e. let q = r.refused k left e in (q.0, q.1, Refused-alike (AnyWord L) (AnyWord M) left.bytes q.0 (λ s h. (h.0, to h.0 s h.1)) (λ s h. (h.0, from h.0 s h.1)) q.2);
  complete = λ v left h. r.complete v left (from v left.bytes h);
  unended = λ v s h. r.unended v s (from v s h);
  some = (r.some.0, r.some.1, to r.some.0 r.some.1 r.some.2);
}

-- steps may be grouped either way
pub bind-assoc : {A B C : Type 0} (r : Result A ℕ) (f : A → Result B ℕ) (g : B → Result C ℕ) → ((r >>= f) >>= g) ≡ (r >>= λ a. f a >>= g)
bind-assoc (Ok a) f g = refl
bind-assoc (Err k) f g = refl

-- steps that go on alike
pub bind-next : {A B : Type 0} (r : Result A ℕ) (f g : A → Result B ℕ) → ((a : A) → f a ≡ g a) → (r >>= f) ≡ (r >>= g)
bind-next (Ok a) f g same = same a
bind-next (Err k) f g same = refl

-- a reading gave a value, or is stuck
pub cases_Result : {A : Type 0} (r : Result A ℕ) → ((a : A) × (r ≡ Ok a)) ⊎ ((k : ℕ) × (r ≡ Err k))
cases_Result (Ok a) = inl (a, refl)
cases_Result (Err k) = inr (k, refl)

-- no reading both gives a value and is stuck
pub Ok-not-Err : {A : Type 0} {X : Type 0} (r : Result A ℕ) (a : A) (k : ℕ) → r ≡ Ok a → r ≡ Err k → X
Ok-not-Err r a k e f = absurd cc

-- a reading gives one value
pub Ok-is : {A : Type 0} (r : Result A ℕ) (a b : A) → r ≡ Ok a → r ≡ Ok b → a ≡ b
Ok-is r a b e f = cc

-- a reading is stuck at one place
pub Err-is : {A : Type 0} (r : Result A ℕ) (j k : ℕ) → r ≡ Err j → r ≡ Err k → j ≡ k
Err-is r j k e f = cc

-- a longer beginning has the same first byte
first-same : (t s : List ℕ) (k : ℕ) → k < length t → take 1 (take (k + 1) t ++ s) ≡ take 1 t
first-same [] s k lt = absurd (omega arith)
first-same (x ∷ t) s k lt = rw (add-one k) refl

-- the words w are read, and what is left is refused
pub passed : (K L : List ℕ → Type 0) (w t : List ℕ) (k : ℕ) → ((s : List ℕ) → K s → L (w ++ s)) → ((s : List ℕ) → take 1 s ≡ take 1 t → L (w ++ s) → K s) → Refused K t k → Refused L (w ++ t) (length w + k)
passed K L w t k to from r = record {
  within = simp length-append (omega (arith, r.within));
  goes = (r.goes.0, subst L (sym (append_assoc w _ _) ∙ ap (λ l. l ++ r.goes.0) (sym (take-append-add w t k))) (to _ r.goes.1));
  stuck = λ lt b.
      let short : k < length t = omega (arith, lt, length-append w t) in
      let e : take (length w + k + 1) (w ++ t) ≡ w ++ take (k + 1) t = ap (λ n. take n (w ++ t)) (add_assoc (length w) k 1) ∙ take-append-add w t (k + 1) in
      r.stuck short (b.0, from _ (first-same t b.0 k short) (subst L (ap (λ l. l ++ b.0) e ∙ append_assoc w _ b.0) b.1));
  ends = λ q l. r.ends (omega (arith, q, length-append w t)) (from t refl l);
}

-- ---- a byte
-- the byte b, and then a text of K
pub record ByteThen {B : Type 0} (b : ℕ) (K : B → List ℕ → Type 0) (v : B) (s : List ℕ) : Type 0 where
  pub rest : List ℕ
  pub goes : K v rest
  pub joins : s ≡ b ∷ rest

-- the byte stands there
byte-read : {B : Type 0} (b x : ℕ) (xs : List ℕ) (place : ℕ) (next : Left → Result B ℕ) → x ≡ b → (byte_at b (record { bytes = x ∷ xs; place = place }) >>= next) ≡ next (record { bytes = xs; place = place + 1 })
byte-read b x xs place next e = rw (eq-eqb x b e) refl

-- another byte stands there
byte-stuck : {B : Type 0} (b x : ℕ) (xs : List ℕ) (place : ℕ) (next : Left → Result B ℕ) → eqb x b ≡ false → (byte_at b (record { bytes = x ∷ xs; place = place }) >>= next) ≡ Err place
byte-stuck b x xs place next e = rw e refl

-- the first byte of a text
heads : (x y : ℕ) (xs ys : List ℕ) → x ∷ xs ≡ y ∷ ys → x ≡ y
heads x y xs ys e = cc

-- what follows it
tails : (x y : ℕ) (xs ys : List ℕ) → x ∷ xs ≡ y ∷ ys → xs ≡ ys
tails x y xs ys e = cc

module _ {B : Type 0} (b : ℕ) (not_end : b ≢ 10) (K : B → List ℕ → Type 0) (next : Left → Result B ℕ) (reads : Reads K next) where
  -- what is read begins with the byte
  byte-accepted : (v : B) (bytes : List ℕ) (place : ℕ) → (byte_at b (record { bytes = bytes; place = place }) >>= next) ≡ Ok v → ByteThen b K v bytes
  byte-accepted v [] place e = absurd cc
  byte-accepted v (x ∷ xs) place e =
      elim (eqb_tells x b) [
        | inl h ↦ record { rest = xs; goes = reads.accepted v (record { bytes = xs; place = place + 1 }) (sym (byte-read b x xs place next h.1) ∙ e); joins = ap (λ y. y ∷ xs) h.1 }
        | inr h ↦ Ok-not-Err _ v place e (byte-stuck b x xs place next h.0)
      ]

  -- nothing begins a text
  byte-start : Begins (AnyWord (ByteThen b K)) []
  byte-start = (b ∷ reads.some.1, (reads.some.0, record { rest = reads.some.1; goes = reads.some.2; joins = refl }))

  -- nothing is no text
  byte-none : Refused (AnyWord (ByteThen b K)) [] 0
  byte-none = record { within = omega arith; goes = byte-start; stuck = λ lt. absurd (omega arith); ends = λ _ q. let z = q.1.joins in absurd cc }

  -- no text begins with another byte
  byte-other : (x : ℕ) (xs : List ℕ) → x ≢ b → Refused (AnyWord (ByteThen b K)) (x ∷ xs) 0
  byte-other x xs n = record { within = omega arith; goes = byte-start; stuck = λ _ q. n (heads x b q.0 q.1.1.rest q.1.1.joins); ends = λ z. absurd (omega arith) }

  -- what is not read is refused
  byte-refused : (k : ℕ) (bytes : List ℕ) (place : ℕ) → (byte_at b (record { bytes = bytes; place = place }) >>= next) ≡ Err k → (j : ℕ) × (k ≡ place + j) × Refused (AnyWord (ByteThen b K)) bytes j
  byte-refused k [] place e = (0, (let z : place ≡ k = Err-is _ place k refl e in omega arith), byte-none)
  byte-refused k (x ∷ xs) place e =
      elim (eqb_tells x b) [
        | inl h ↦
            let r = reads.refused k (record { bytes = xs; place = place + 1 }) (sym (byte-read b x xs place next h.1) ∙ e) in (
              1 + r.0,
              omega (arith, r.1),
              passed (AnyWord K) (AnyWord (ByteThen b K)) (x ∷ []) xs r.0
                  (λ s g. (g.0, record { rest = s; goes = g.1; joins = ap (λ y. y ∷ s) h.1 }))
                  (λ s _ g. (g.0, subst (K g.0) (sym (tails x b s g.1.rest g.1.joins)) g.1.goes))
                  r.2,
            )
        | inr h ↦ (0, (let z : place ≡ k = Err-is _ place k (byte-stuck b x xs place next h.0) e in omega arith), byte-other x xs h.1)
      ]

  -- a text is read
  byte-complete : (v : B) (bytes : List ℕ) (place : ℕ) → ByteThen b K v bytes → (byte_at b (record { bytes = bytes; place = place }) >>= next) ≡ Ok v
  byte-complete v [] place h = let z = h.joins in absurd cc
  byte-complete v (x ∷ xs) place h = byte-read b x xs place next (heads x b xs h.rest h.joins) ∙ reads.complete v (record { bytes = xs; place = place + 1 }) (subst (K v) (sym (tails x b xs h.rest h.joins)) h.goes)

  -- a byte before what is read
  pub byte-reads : Reads (ByteThen b K) (λ left. byte_at b left >>= next)
  byte-reads = record {
    accepted = λ v left e. byte-accepted v left.bytes left.place e;
    refused = λ k left e. byte-refused k left.bytes left.place e;
    complete = λ v left h. byte-complete v left.bytes left.place h;
    unended = λ v s h. subst Unended (sym h.joins) (not_end, reads.unended v h.rest h.goes);
    some = (reads.some.0, b ∷ reads.some.1, record { rest = reads.some.1; goes = reads.some.2; joins = refl });
  }

-- ---- a field
-- a field: what its words spell, which bytes they consist of, and that it has one
pub record Field {A : Type 0} (p : ℕ → Bool) (Spells : A → List ℕ → Type 0) (of : List ℕ → Result A ℕ) : Type 0 where
  pub checks : Checks Spells of
  pub passes : (a : A) (word : List ℕ) → Spells a word → Pass p word
  pub some : (a : A) × (word : List ℕ) × Spells a word

-- a word of a field, and then a text of K for what the word spells
pub record FieldThen {A B : Type 0} (Spells : A → List ℕ → Type 0) (K : A → B → List ℕ → Type 0) (v : B) (s : List ℕ) : Type 0 where
  pub value : A
  pub word : List ℕ
  pub rest : List ℕ
  pub is : Spells value word
  pub goes : K value v rest
  pub joins : s ≡ word ++ rest

-- whether a byte stops is told by the first
stops-same : (p : ℕ → Bool) (s t : List ℕ) → take 1 s ≡ take 1 t → Stops p t → Stops p s
stops-same p [] t e h = tt
stops-same p (x ∷ s) [] e h = absurd cc
stops-same p (x ∷ s) (y ∷ t) e h = subst (λ z. p z ≡ false) (sym (heads x y [] [] e)) h

-- and by a beginning
stops-take : (p : ℕ → Bool) (t s : List ℕ) → 0 < length t → Stops p t → Stops p (take 1 t ++ s)
stops-take p [] s lt h = absurd (omega arith)
stops-take p (x ∷ t) s lt h = h

-- two texts without byte 10
unended-append : (s t : List ℕ) → Unended s → Unended t → Unended (s ++ t)
unended-append [] t h g = g
unended-append (x ∷ s) t h g = (h.0, unended-append s t h.1 g)

-- words have no byte 10
unended-pass : (p : ℕ → Bool) → p 10 ≡ false → (w : List ℕ) → Pass p w → Unended w
unended-pass p e [] h = tt
unended-pass p e (x ∷ w) h = (λ q. Pass-not-Stops p x h.0 (ap p q ∙ e), unended-pass p e w h.1)

module _ {A B : Type 0} (p : ℕ → Bool) (no_end : p 10 ≡ false) (Spells : A → List ℕ → Type 0) (of : List ℕ → Result A ℕ) (field : Field p Spells of) (K : A → B → List ℕ → Type 0) (stops : (a : A) (v : B) (s : List ℕ) → K a v s → Stops p s) (next : A × Left → Result B ℕ) (reads : (a : A) → Reads (K a) (λ left. next (a, left))) where
  -- the language of a word and what follows it
  abbrev Whole : B → List ℕ → Type 0
  Whole = FieldThen Spells K

  -- its reader
  abbrev read_whole : Left → Result B ℕ
  read_whole left = field_at p of left >>= next

  -- the word spells a value
  field-read : (left : Left) (a : A) → of (front p left) ≡ Ok a → read_whole left ≡ next (a, behind p left)
  field-read left a e = rw e refl

  -- the word spells none
  field-stuck : (left : Left) (j : ℕ) → of (front p left) ≡ Err j → read_whole left ≡ Err (left.place + j)
  field-stuck left j e = rw e refl

  -- what follows the word stops it
  rest-stops : (v : B) (s : List ℕ) (h : Whole v s) → Stops p h.rest
  rest-stops v s h = stops h.value v h.rest h.goes

  -- the word that stands first is the word of the text
  parted : (v : B) (w t : List ℕ) → Pass p w → Stops p t → (h : Whole v (w ++ t)) → (w ≡ h.word) × (t ≡ h.rest)
  parted v w t g e h = same-word p w h.word t h.rest g (field.passes h.value h.word h.is) e (rest-stops v (w ++ t) h) h.joins

  -- the word is none of the field
  word-refused : (w t : List ℕ) (k : ℕ) → Pass p w → Stops p t → Refused (AnyWord Spells) w k → Refused (AnyWord Whole) (w ++ t) k
  word-refused w t k g e r = record {
    within = simp length-append (omega (arith, r.within));
    goes = (
        let m = (reads r.goes.1.0).some in
        (r.goes.0 ++ m.1, (m.0, record { value = r.goes.1.0; word = take k w ++ r.goes.0; rest = m.1; is = r.goes.1.1; goes = m.2; joins = ap (λ l. l ++ (r.goes.0 ++ m.1)) (take-append-le k w t r.within) ∙ sym (append_assoc (take k w) r.goes.0 m.1) }))
        );
    stuck = λ lt b.
        let h = b.1.1 in
        ⊎_elim
        (λ l.
        let q = begins-word p (take (k + 1) w) h.word b.0 h.rest (Pass-take p w (k + 1) g) (rest-stops _ _ h) (ap (λ l. l ++ b.0) (sym (take-append-le (k + 1) w t (omega arith))) ∙ h.joins) in
        r.stuck l (q.0, (h.value, subst (Spells h.value) q.1 h.is)))
        (λ l.
        let n : k ≡ length w = omega (arith, r.within) in
        let some_left : 0 < length t = omega (arith, lt, length-append w t) in
        let cut : take (k + 1) (w ++ t) ++ b.0 ≡ w ++ (take 1 t ++ b.0) = ap (λ l. l ++ b.0) (ap (λ i. take (i + 1) (w ++ t)) n ∙ take-append-add w t 1) ∙ append_assoc w (take 1 t) b.0 in
        let q = same-word p w h.word (take 1 t ++ b.0) h.rest g (field.passes h.value h.word h.is) (stops-take p t b.0 some_left e) (rest-stops _ _ h) (sym cut ∙ h.joins) in
        r.ends n (h.value, subst (Spells h.value) (sym q.0) h.is))
        (order k (length w));
    ends = λ n b. r.ends (omega (arith, n, r.within, length-append w t)) (b.1.value, subst (Spells b.1.value) (sym (parted b.0 w t g e b.1).0) b.1.is);
  }

  -- the word spells a value, and what follows it is refused
  word-passed : (w t : List ℕ) (k : ℕ) (a : A) → Pass p w → Stops p t → of w ≡ Ok a → Refused (AnyWord (K a)) t k → Refused (AnyWord Whole) (w ++ t) (length w + k)
  word-passed w t k a g e q r = passed (AnyWord (K a)) (AnyWord Whole) w t k
      (λ s h. (h.0, record { value = a; word = w; rest = s; is = field.checks.accepted a w q; goes = h.1; joins = refl }))
      (λ s same h.
      let m = parted h.0 w s g (stops-same p s t same e) h.1 in
      let spelled : of w ≡ Ok h.1.value = ap of m.0 ∙ field.checks.complete h.1.value h.1.word h.1.is in
      (h.0, subst (λ x. K x h.0 s) (Ok-is (of w) h.1.value a spelled q) (subst (K h.1.value h.0) (sym m.1) h.1.goes)))
      r

  -- what is not read is refused
  field-refused : (k : ℕ) (left : Left) → read_whole left ≡ Err k → (j : ℕ) × (k ≡ left.place + j) × Refused (AnyWord Whole) left.bytes j
  field-refused k left e =
      let parts = prefix-parts p left.bytes in
      let joins = take-append-drop (prefix_len p left.bytes) left.bytes in
      elim (cases_Result (of (front p left))) [
        | inl h ↦
            let r = (reads h.0).refused k (behind p left) (sym (field-read left h.0 h.1) ∙ e) in
            (length (front p left) + r.0, omega (arith, r.1, length-prefix_len p left.bytes), subst (λ l. Refused (AnyWord Whole) l (length (front p left) + r.0)) joins (word-passed _ _ r.0 h.0 parts.0 parts.1 h.1 r.2))
        | inr h ↦ (h.0, Err-is _ k (left.place + h.0) e (field-stuck left h.0 h.1), subst (λ l. Refused (AnyWord Whole) l h.0) joins (word-refused _ _ h.0 parts.0 parts.1 (field.checks.refused h.0 _ h.1)))
      ]

  -- a text is read
  field-complete : (v : B) (left : Left) → Whole v left.bytes → read_whole left ≡ Ok v
  field-complete v left h =
      let parts = prefix-parts p left.bytes in
      let joins = take-append-drop (prefix_len p left.bytes) left.bytes in
      let m = same-word p (front p left) h.word (drop (prefix_len p left.bytes) left.bytes) h.rest parts.0 (field.passes h.value h.word h.is) parts.1 (rest-stops v _ h) (joins ∙ h.joins) in
      field-read left h.value (ap of m.0 ∙ field.checks.complete h.value h.word h.is) ∙ (reads h.value).complete v (behind p left) (subst (K h.value v) (sym m.1) h.goes)

  -- what is read is a text
  field-accepted : (v : B) (left : Left) → read_whole left ≡ Ok v → Whole v left.bytes
  field-accepted v left e =
      elim (cases_Result (of (front p left))) [
        | inl h ↦ record { value = h.0; word = front p left; rest = drop (prefix_len p left.bytes) left.bytes; is = field.checks.accepted h.0 _ h.1; goes = (reads h.0).accepted v (behind p left) (sym (field-read left h.0 h.1) ∙ e); joins = sym (take-append-drop (prefix_len p left.bytes) left.bytes) }
        | inr h ↦ Ok-not-Err _ v (left.place + h.0) e (field-stuck left h.0 h.1)
      ]

  -- a field before what is read
  pub field-reads : Reads Whole read_whole
  field-reads = record {
    accepted = field-accepted;
    refused = field-refused;
    complete = field-complete;
    unended = λ v s h. subst Unended (sym h.joins) (unended-append h.word h.rest (unended-pass p no_end h.word (field.passes h.value h.word h.is)) ((reads h.value).unended v h.rest h.goes));
    some = (
        let m = (reads field.some.0).some in
        (m.0, field.some.1 ++ m.1, record { value = field.some.0; word = field.some.1; rest = m.1; is = field.some.2; goes = m.2; joins = refl })
        );
  }
