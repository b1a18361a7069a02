-- What is read of a keyword.
use Rattle.std.proofs.Common.{◌≡◌, ℕ, ◌+◌, ◌<◌, ◌≤◌, true, List, [], ◌∷◌, ◌++◌, length, drop, get_or, None, refl, sym, ap, ◌∙◌, arith, append-nil, append_assoc, length-append}
use Rattle.std.specs.Prelude.{◌==◌, nat_lt}
use Rattle.std.proofs.lemmas.Bool.{cond-true, and_parts, and_from, ltb-true, lt-ltb, eqb-true, eq-eqb}
use Rattle.std.proofs.lemmas.List.{get_or_at, drop_all, drop_more}
use Rattle.fields.specs.Words.{IsKeyword}
use Rattle.fields.specs.Checking.{break_from, in_keyword, keyword_of}
use Rattle.fields.specs.Laws.{AnyWord, Checks}
use Rattle.fields.proofs.Refusals.{Reads, checks}
use Rattle.fields.proofs.ByPlaces.{ByPlaces, front-stands, reads_by_places}

-- the rest of a keyword stands behind its front
rest-stands : (front rest : List ℕ) → break_from (in_keyword (front ++ rest)) (length front) rest ≡ None
rest-stands front [] = refl
rest-stands front (b ∷ bs) =
    let here : in_keyword (front ++ (b ∷ bs)) (length front) b ≡ true = and_from _ _
    (lt-ltb (length front) (length (front ++ (b ∷ bs))) (omega (arith, length-append front (b ∷ bs))))
    (eq-eqb _ b (get_or_at front b bs 0 (length front) refl)) in
    let same : (front ++ (b ∷ [])) ++ bs ≡ front ++ (b ∷ bs) = append_assoc front (b ∷ []) bs in
    let long : length (front ++ (b ∷ [])) ≡ length front + 1 = omega (arith, length-append front (b ∷ [])) in
    cond-true _ _ _ here ∙ (λ i. break_from (in_keyword (sym same i)) (sym long i) bs) ∙ rest-stands (front ++ (b ∷ [])) bs

-- bytes that stand are the keyword's
standing-front : (keyword : List ℕ) (i : ℕ) (front : List ℕ) → i ≤ length keyword → break_from (in_keyword keyword) i front ≡ None → front ++ drop (i + length front) keyword ≡ drop i keyword
standing-front keyword i [] l e = ap (λ j. drop j keyword) (omega arith)
standing-front keyword i (b ∷ bs) l e =
    let h = front-stands (in_keyword keyword) i b bs e in
    let both = and_parts (nat_lt i (length keyword)) _ h.0 in
    let short : i < length keyword = ltb-true i (length keyword) both.0 in
    let same : get_or keyword i 0 ≡ b = eqb-true _ b both.1 in
    let rest = standing-front keyword (i + 1) bs (omega arith) h.1 in
    let place : i + length (b ∷ bs) ≡ i + 1 + length bs = omega arith in
    ap (λ j. b ∷ (bs ++ drop j keyword)) place ∙ ap (λ l. b ∷ l) rest ∙ ap (λ c. c ∷ drop (i + 1) keyword) (sym same) ∙ sym (drop_more keyword i 0 short)

-- a keyword is told by its places
by_places : (keyword : List ℕ) → ByPlaces (AnyWord (IsKeyword keyword)) (in_keyword keyword) (λ n. n == length keyword)
by_places keyword = record {
  stands = λ word l. ap (break_from (in_keyword keyword) 0) l.1 ∙ rest-stands [] keyword;
  ends = λ word l. eq-eqb (length word) (length keyword) (ap length l.1);
  begins = λ front e. (drop (0 + length front) keyword, (tt, standing-front keyword 0 front (omega arith) e));
}

-- a keyword is read or refused
pub reads-keyword : (keyword word : List ℕ) → Reads (IsKeyword keyword) word (keyword_of keyword word)
reads-keyword keyword word = reads_by_places (IsKeyword keyword) (in_keyword keyword) (λ n. n == length keyword) (by_places keyword) tt word (λ stands end.
    let all : length keyword ≤ 0 + length word = omega (arith, eqb-true (length word) (length keyword) end) in
    sym (append-nil word) ∙ ap (λ l. word ++ l) (sym (drop_all (0 + length word) keyword all)) ∙ standing-front keyword 0 word (omega arith) stands)

-- keywords are checked
pub keywords_check : (keyword : List ℕ) → Checks (IsKeyword keyword) (keyword_of keyword)
keywords_check keyword = checks (IsKeyword keyword) (keyword_of keyword) (reads-keyword keyword) (λ a b word e f. refl)
