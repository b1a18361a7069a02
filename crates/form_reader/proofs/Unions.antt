-- The texts of two languages: a text is refused by both together at the further of the places at which each refuses it.
use Rattle.std.proofs.Common.{◌≡◌, ℕ, ◌+◌, ◌<◌, ◌≤◌, max, List, ◌++◌, length, take, drop, Result, Ok, Err, sym, refl, ap, ◌∙◌, subst, inl, inr, ◌⊎◌, ⊎_elim, append_assoc, arith}
use Rattle.std.proofs.lemmas.List.{take-append-drop, take-take}
use Rattle.std.proofs.str.Laws.{order}
use Rattle.forms.specs.Languages.{Begins, Refused}
use Rattle.fields.specs.Laws.{AnyWord}
use Rattle.form_reader.specs.Steps.{Left}
use Rattle.form_reader.specs.Reading.{either_of}
use Rattle.form_reader.proofs.StepLaws.{Reads, cases_Result, Ok-is, Err-is, Ok-not-Err}

-- a refused text is no text of the language
pub refused-whole : (L : List ℕ → Type 0) (t : List ℕ) (j : ℕ) → Refused L t j → ¬ L t
refused-whole L t j r l =
    ⊎_elim
    (λ lt. r.stuck lt (drop (j + 1) t, subst L (sym (take-append-drop (j + 1) t)) l))
    (λ le. r.ends (omega (arith, r.within)) l)
    (order j (length t))

-- nor does one begin with what goes past the place
refused-past : (L : List ℕ → Type 0) (t : List ℕ) (j m : ℕ) → Refused L t j → j ≤ m → m < length t → ¬ Begins L (take (m + 1) t)
refused-past L t j m r le lt b =
    let longer : take (j + 1) (take (m + 1) t) ++ drop (j + 1) (take (m + 1) t) ≡ take (m + 1) t = take-append-drop (j + 1) (take (m + 1) t) in
    let shorter : take (j + 1) (take (m + 1) t) ≡ take (j + 1) t = take-take (j + 1) (m + 1) t (omega arith) in
    r.stuck (omega arith) (drop (j + 1) (take (m + 1) t) ++ b.0, subst L (ap (λ s. s ++ b.0) (sym longer ∙ ap (λ s. s ++ drop (j + 1) (take (m + 1) t)) shorter) ∙ append_assoc _ _ b.0) b.1)

-- a value of one language or the other
abbrev pub Either : {B : Type 0} (L M : B → List ℕ → Type 0) → B → List ℕ → Type 0
Either L M v s = L v s ⊎ M v s

module _ {B : Type 0} (L M : B → List ℕ → Type 0) where
  -- a text of both together is one of either
  in-either : (s : List ℕ) → AnyWord (Either L M) s → AnyWord L s ⊎ AnyWord M s
  in-either s (v, l) = ⊎_elim (λ h. inl (v, h)) (λ h. inr (v, h)) l

  -- what begins a text of the first begins one of both
  begins-left : (p : List ℕ) → Begins (AnyWord L) p → Begins (AnyWord (Either L M)) p
  begins-left p b = (b.0, (b.1.0, inl b.1.1))

  -- and of the second
  begins-right : (p : List ℕ) → Begins (AnyWord M) p → Begins (AnyWord (Either L M)) p
  begins-right p b = (b.0, (b.1.0, inr b.1.1))

  -- up to the further place a text goes on
  either-begins : (t : List ℕ) (j k : ℕ) → Refused (AnyWord L) t j → Refused (AnyWord M) t k → Begins (AnyWord (Either L M)) (take (max j k) t)
  either-begins t j k r q =
      ⊎_elim
      (λ lt. let e : max j k ≡ k = omega arith in subst (λ n. Begins (AnyWord (Either L M)) (take n t)) (sym e) (begins-right _ q.goes))
      (λ le. let e : max j k ≡ j = omega arith in subst (λ n. Begins (AnyWord (Either L M)) (take n t)) (sym e) (begins-left _ r.goes))
      (order j k)

  -- refused by both
  pub either-refused : (t : List ℕ) (j k : ℕ) → Refused (AnyWord L) t j → Refused (AnyWord M) t k → Refused (AnyWord (Either L M)) t (max j k)
  either-refused t j k r q = record {
    within = omega (arith, r.within, q.within);
    goes = either-begins t j k r q;
    stuck = λ lt b.
        ⊎_elim
        (λ l. refused-past (AnyWord L) t j (max j k) r (omega arith) lt (b.0, l))
        (λ l. refused-past (AnyWord M) t k (max j k) q (omega arith) lt (b.0, l))
        (in-either _ b.1);
    ends = λ _ l. ⊎_elim (refused-whole (AnyWord L) t j r) (refused-whole (AnyWord M) t k q) (in-either t l);
  }

  module _ (read other : Left → Result B ℕ) (reads : Reads L read) (others : Reads M other) (apart : (u v : B) (s : List ℕ) → L u s → M v s → ⊥) where
    -- the reader of both
    abbrev both : Left → Result B ℕ
    both left = either_of (read left) (other left)

    -- the first gives a form
    both-first : (left : Left) (v : B) → read left ≡ Ok v → both left ≡ Ok v
    both-first left v e = rw e refl

    -- the second does
    both-second : (left : Left) (k : ℕ) (v : B) → read left ≡ Err k → other left ≡ Ok v → both left ≡ Ok v
    both-second left k v e f = rw (e, f) refl

    -- neither does
    both-stuck : (left : Left) (j k : ℕ) → read left ≡ Err j → other left ≡ Err k → both left ≡ Err (max j k)
    both-stuck left j k e f = rw (e, f) refl

    -- what is read is a text of one
    both-accepted : (v : B) (left : Left) → both left ≡ Ok v → Either L M v left.bytes
    both-accepted v left e =
        elim (cases_Result (read left)) [
          | inl h ↦ inl (reads.accepted v left (h.1 ∙ ap (λ x. Ok x) (Ok-is (both left) h.0 v (both-first left h.0 h.1) e)))
          | inr h ↦
              elim (cases_Result (other left)) [
                | inl g ↦ inr (others.accepted v left (g.1 ∙ ap (λ x. Ok x) (Ok-is (both left) g.0 v (both-second left h.0 g.0 h.1 g.1) e)))
                | inr g ↦ Ok-not-Err (both left) v (max h.0 g.0) e (both-stuck left h.0 g.0 h.1 g.1)
              ]
        ]

    -- what is not read is refused
    both-refused : (k : ℕ) (left : Left) → both left ≡ Err k → (j : ℕ) × (k ≡ left.place + j) × Refused (AnyWord (Either L M)) left.bytes j
    both-refused k left e =
        elim (cases_Result (read left)) [
          | inl h ↦ Ok-not-Err (both left) h.0 k (both-first left h.0 h.1) e
          | inr h ↦
              elim (cases_Result (other left)) [
                | inl g ↦ Ok-not-Err (both left) g.0 k (both-second left h.0 g.0 h.1 g.1) e
                | inr g ↦
                    let r = reads.refused h.0 left h.1 in
                    let q = others.refused g.0 left g.1 in
                    let f = Err-is (both left) k (max h.0 g.0) e (both-stuck left h.0 g.0 h.1 g.1) in
                    (max r.0 q.0, omega (arith, f, r.1, q.1), either-refused left.bytes r.0 q.0 r.2 q.2)
              ]
        ]

    -- a text is read
    both-complete : (v : B) (left : Left) → Either L M v left.bytes → both left ≡ Ok v
    both-complete v left l =
        ⊎_elim
        (λ h. both-first left v (reads.complete v left h))
        (λ h. elim (cases_Result (read left)) [
          | inl g ↦ absurd (apart g.0 v left.bytes (reads.accepted g.0 left g.1) h)
          | inr g ↦ both-second left g.0 v g.1 (others.complete v left h)
        ])
        l

    -- two readers, of languages that share no text
    pub either-reads : Reads (Either L M) both
    either-reads = record {
      accepted = both-accepted;
      refused = both-refused;
      complete = both-complete;
      unended = λ v s l. ⊎_elim (reads.unended v s) (others.unended v s) l;
      some = (reads.some.0, reads.some.1, inl reads.some.2);
    }
