-- Words that are refused, and what makes the reading of a field one that checks it.
use Rattle.std.proofs.Common.{◌≡◌, ℕ, ◌+◌, ◌<◌, ◌≤◌, List, [], ◌∷◌, ◌++◌, length, take, drop, Ok, Err, Result, refl, sym, ap, ◌∙◌, subst, ⊎_elim, arith, append_assoc, add-one, length-append, MatchResult}
use Rattle.std.proofs.lemmas.Bool.{cases_lt}
use Rattle.std.proofs.lemmas.List.{take_at, take_all, take-take, take-append-drop, length_push}
use Rattle.forms.specs.Languages.{Begins, Refused}
use Rattle.fields.specs.Laws.{AnyWord, Checks}

-- what was read of a word is what it spells, or it is refused
abbrev pub Reads : {A : Type 0} → (A → List ℕ → Type 0) → List ℕ → Result A ℕ → Type 0
Reads Spells word outcome = MatchResult outcome (λ a. Spells a word) (λ k. Refused (AnyWord Spells) word k)

-- a word is refused at a byte, if what stands before it begins a word, and does not with this byte after it
pub refused_at : (L : List ℕ → Type 0) (front back : List ℕ) (b : ℕ) → Begins L front → ¬ Begins L (front ++ (b ∷ [])) → Refused L (front ++ (b ∷ back)) (length front)
refused_at L front back b goes stuck = record {
  within = omega (arith, length-append front (b ∷ back));
  goes = subst (Begins L) (sym (take_at front (b ∷ back) (length front) refl)) goes;
  stuck = λ _ begins. stuck (subst (Begins L) (ap (take (length front + 1)) (sym (append_assoc front (b ∷ []) back)) ∙ take_at (front ++ (b ∷ [])) back (length front + 1) (length_push front b)) begins);
  ends = λ e _. omega (arith, length-append front (b ∷ back), e);
}

-- a word that could go on, and is none as it is, is refused at its end
pub refused_end : (L : List ℕ → Type 0) (word : List ℕ) → Begins L word → ¬ L word → Refused L word (length word)
refused_end L word goes none = record {
  within = omega arith;
  goes = subst (Begins L) (sym (take_all (length word) word (omega arith))) goes;
  stuck = λ l _. omega arith;
  ends = λ _. none;
}

-- past the place of a refusal nothing begins a word
pub not-begins : (L : List ℕ → Type 0) (word : List ℕ) (k i : ℕ) → Refused L word k → k < i → i ≤ length word → ¬ Begins L (take i word)
not-begins L word k i r l m begins =
    r.stuck (omega arith) (
      drop (k + 1) (take i word) ++ begins.0,
      subst L (
          ap (λ t. t ++ begins.0) (sym (take-append-drop (k + 1) (take i word)) ∙ ap (λ t. t ++ drop (k + 1) (take i word)) (take-take (k + 1) i word (omega arith)))
          ∙ append_assoc (take (k + 1) word) (drop (k + 1) (take i word)) begins.0
          ) begins.1,
    )

-- what is refused is no word
pub not-word : (L : List ℕ → Type 0) (word : List ℕ) (k : ℕ) → Refused L word k → ¬ L word
not-word L word k r l =
    ⊎_elim
    (λ more. r.stuck more (drop (k + 1) word, subst L (sym (take-append-drop (k + 1) word)) l))
    (λ all. r.ends (omega (arith, r.within)) l)
    (cases_lt k (length word))

-- a word is refused behind its first byte where the rest is, in the language of what may follow that byte
pub refused_after : (L M : List ℕ → Type 0) (b : ℕ) (rest : List ℕ) (k : ℕ) → ((word : List ℕ) → M word → L (b ∷ word)) → ((word : List ℕ) → L (b ∷ word) → M word)
    → Refused M rest k → Refused L (b ∷ rest) (k + 1)
refused_after L M b rest k to from r =
    let front = λ (j : ℕ). ap (λ i. take i (b ∷ rest)) (add-one j) in
    record {
      within = omega (arith, r.within);
      goes = (r.goes.0, subst (λ w. L (w ++ r.goes.0)) (sym (front k)) (to _ r.goes.1));
      stuck = λ l g. r.stuck (omega arith) (g.0, from _ (subst (λ w. L (w ++ g.0)) (front (k + 1)) g.1));
      ends = λ e l. r.ends (omega arith) (from rest l);
    }

-- reading that gives a word's value or refuses the word, of a field whose words each have one value
pub checks : {A : Type 0} (Spells : A → List ℕ → Type 0) (of : List ℕ → Result A ℕ)
    → ((word : List ℕ) → Reads Spells word (of word))
    → ((a b : A) (word : List ℕ) → Spells a word → Spells b word → a ≡ b)
    → Checks Spells of
checks {A} Spells of reads unique = record {
  accepted = λ a word e. subst (Reads Spells word) e (reads word);
  refused = λ k word e. subst (Reads Spells word) e (reads word);
  complete = λ a word spells. found a word spells (of word) (reads word);
}
  where
    found : (a : A) (word : List ℕ) → Spells a word → (outcome : Result A ℕ) → Reads Spells word outcome → outcome ≡ Ok a
    found a word spells (Ok b) read = ap Ok (unique b a word read spells)
    found a word spells (Err k) read = absurd (not-word (AnyWord Spells) word k read (a, spells))
