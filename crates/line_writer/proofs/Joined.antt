-- Texts joined by spaces: one more, and how long the first few are.
use Rattle.std.proofs.Common.{◌≡◌, ℕ, ◌+◌, ◌<◌, ◌≤◌, List, [], ◌∷◌, ◌++◌, length, map, get_or, take, drop, sym, refl, ap, ◌∙◌, append_assoc, arith, length-append}
use Rattle.std.proofs.lemmas.List.{take_more, map-append, length-map, length-take-le, take-append-drop}
use Rattle.std.specs.List.{join_with_byte}
use Rattle.line_writer.specs.Separators.{separator}

-- one more text behind others
join_with_byte-push : (ts : List (List ℕ)) (u : List ℕ) → join_with_byte 32 (ts ++ (u ∷ [])) ≡ join_with_byte 32 ts ++ (separator (length ts) ++ u)
join_with_byte-push [] u = refl
join_with_byte-push (t ∷ []) u = refl
join_with_byte-push (t ∷ s ∷ ts) u = ap (λ l. t ++ (32 ∷ l)) (join_with_byte-push (s ∷ ts) u) ∙ sym (append_assoc t (32 ∷ join_with_byte 32 (s ∷ ts)) (separator (length (s ∷ ts)) ++ u))

-- the text of item i behind those of the items before it
pub join_with_byte-item : {X : Type 0} (f : X → List ℕ) (xs : List X) (i : ℕ) (x : X) → i < length xs → x ≡ get_or xs i x → join_with_byte 32 (map f (take (i + 1) xs)) ≡ join_with_byte 32 (map f (take i xs)) ++ (separator i ++ f x)
join_with_byte-item f xs i x h e =
    ap (λ l. join_with_byte 32 (map f l)) (take_more xs i x h)
    ∙ ap (λ y. join_with_byte 32 (map f (take i xs ++ (y ∷ [])))) (sym e)
    ∙ ap (join_with_byte 32) (map-append f (take i xs) (x ∷ []))
    ∙ join_with_byte-push (map f (take i xs)) (f x)
    ∙ ap (λ n. join_with_byte 32 (map f (take i xs)) ++ (separator n ++ f x)) (length-map (take i xs) f ∙ length-take-le i xs (omega arith))

-- texts are no longer than with others behind them
length-join_with_byte-append : (ts us : List (List ℕ)) → length (join_with_byte 32 ts) ≤ length (join_with_byte 32 (ts ++ us))
length-join_with_byte-append [] us = omega arith
length-join_with_byte-append (t ∷ []) [] = omega arith
length-join_with_byte-append (t ∷ []) (u ∷ us) = omega (arith, length-append t (32 ∷ join_with_byte 32 (u ∷ us)))
length-join_with_byte-append (t ∷ s ∷ ts) us =
    omega (arith, length-append t (32 ∷ join_with_byte 32 (s ∷ ts)), length-append t (32 ∷ join_with_byte 32 ((s ∷ ts) ++ us)), length-join_with_byte-append (s ∷ ts) us)

-- the texts of the items up to item i are no longer than all
pub length-join_with_byte-item : {X : Type 0} (f : X → List ℕ) (xs : List X) (i : ℕ) (x : X) → i < length xs → x ≡ get_or xs i x → length (join_with_byte 32 (map f (take i xs))) + (length (separator i) + length (f x)) ≤ length (join_with_byte 32 (map f xs))
length-join_with_byte-item f xs i x h e =
    let k = i + 1 in
    let all = sym (map-append f (take k xs) (drop k xs)) ∙ ap (map f) (take-append-drop k xs) in
    omega (
      arith,
      length-join_with_byte-append (map f (take k xs)) (map f (drop k xs)),
      ap (λ l. length (join_with_byte 32 l)) all,
      ap length (join_with_byte-item f xs i x h e),
      length-append (join_with_byte 32 (map f (take i xs))) (separator i ++ f x),
      length-append (separator i) (f x),
    )
