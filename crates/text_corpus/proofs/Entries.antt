-- One more entry of a corpus.
use Rattle.std.proofs.Common.{◌≡◌, ℕ, List, [], ◌∷◌, ◌++◌, map, length, refl, ap, ◌∙◌, append_assoc, append-nil, arith}
use Rattle.std.specs.List.{flat_map}
use Rattle.std.proofs.lemmas.List.{map-append}
use Rattle.std.proofs.lemmas.Grind.{flat_map-append}
use Rattle.text_corpus.specs.Corpus.{Entry, entry_bytes, answered, Answers}

-- what a function makes of one more element stands behind what it made of the others
flat_map-snoc : {X : Type 0} (f : X → List ℕ) (xs : List X) (x : X) → flat_map f (xs ++ x ∷ []) ≡ flat_map f xs ++ f x
flat_map-snoc f xs x = flat_map-append f xs (x ∷ []) ∙ ap (λ l. flat_map f xs ++ l) (append-nil (f x))

-- the next entry is read
are_read-more : {X : Type 0} (f : X → List ℕ) (xs : List X) (x : X) (corpus rest others : List ℕ)
    → corpus ≡ flat_map f xs ++ rest → rest ≡ f x ++ others → corpus ≡ flat_map f (xs ++ x ∷ []) ++ others
are_read-more f xs x corpus rest others read more = rw (flat_map-snoc f xs x, append_assoc (flat_map f xs) (f x) others, ← more) read

-- and its answer written
are_answered-more : {X Y : Type 0} (f : Y → List ℕ) (g : X → Y) (xs : List X) (x : X) (written : List ℕ)
    → written ≡ flat_map f (map g xs) → written ++ f (g x) ≡ flat_map f (map g (xs ++ x ∷ []))
are_answered-more f g xs x written answered = rw (map-append g xs (x ∷ []), flat_map-snoc f (map g xs) (g x), answered) refl

pub Answers-more : (corpus rest others written after : List ℕ) (e : Entry)
    → Answers corpus rest written → rest ≡ entry_bytes e ++ others → after ≡ written ++ entry_bytes (answered e) → Answers corpus others after
Answers-more corpus rest others written after e so_far read wrote = record {
  entries = so_far.entries ++ e ∷ [];
  are_read = are_read-more entry_bytes so_far.entries e corpus rest others so_far.are_read read;
  are_answered = wrote ∙ are_answered-more entry_bytes answered so_far.entries e written so_far.are_answered;
}

-- nothing is read yet
pub Answers-none : (corpus written : List ℕ) → written ≡ [] → Answers corpus corpus written
Answers-none corpus written none = record { entries = []; are_read = refl; are_answered = none }

-- all is read
pub Answers-all : (corpus rest written : List ℕ) → length rest ≡ 0 → Answers corpus rest written → Answers corpus [] written
Answers-all corpus [] written none so_far = so_far
Answers-all corpus (b ∷ bs) written none so_far = absurd (omega arith)
