-- Which part of which record a term of a list batch is, and how many terms there are.
use Rattle.std.proofs.Common.{◌≡◌, ℕ, zero, suc, ◌+◌, ◌*◌, ◌/◌, ◌%◌, ◌<◌, ◌≤◌, ◌⊎◌, List, [], ◌∷◌, ◌++◌, map, length, get_or, Some, None, Option, MatchOption, sym, refl, ap, ◌∙◌, inl, inr, suc-mul, div-add-mod', zero-mul, arith, lt-ltb}
use Rattle.std.specs.List.{slice_get as nth}
use Rattle.std.specs.Option.{option_map, unwrap_or}
use Rattle.std.proofs.lemmas.Option.{slice_get_past, slice_get-map, unwrap_or-slice_get}
use Rattle.std.proofs.lemmas.Nat.{mod_below, mul-le}
use Rattle.batch.specs.Term.{Term, most_terms}
use Rattle.batch.specs.declared.fault.BatchFault.TheVariants.{TooManyTerms}
use Rattle.list_batch.specs.declared.word_term.WordTerm.{WordTerm}
use Rattle.list_batch.specs.WordTerms.{spelled}
use Rattle.list_batch.specs.Lists.{LawfulRecord, flat, list_fault, PartsInOrder}
use Rattle.list_batch.specs.ListLimits.{length_flat}

-- ---- what is asked of term i, where the term that is spelled is found, and where there is none
module _ {Y : Type 0} (F : Term → Y) (y : Y) (ts : List Term) (i : ℕ) where
  lookup : (found : Option WordTerm) → option_map spelled found ≡ nth ts i → get_or (map F ts) i y ≡ unwrap_or (option_map F (option_map spelled found)) y
  lookup found e = sym (unwrap_or-slice_get (map F ts) i y) ∙ ap (λ o. unwrap_or o y) (slice_get-map F ts i ∙ ap (option_map F) (sym e))

  pub answer_spelled : (found : Option WordTerm) (x : Y) → option_map spelled found ≡ nth ts i → MatchOption found (x ≡ y) (λ w. x ≡ F (spelled w)) → x ≡ get_or (map F ts) i y
  answer_spelled None x e f = f ∙ sym (lookup None e)
  answer_spelled (Some w) x e f = f ∙ sym (lookup (Some w) e)

-- ---- the element at a place
nth_front : {X : Type 0} (xs ys : List X) (n : ℕ) → n < length xs → nth (xs ++ ys) n ≡ nth xs n
nth_front [] ys n h = absurd (omega arith)
nth_front (x ∷ xs) ys zero h = refl
nth_front (x ∷ xs) ys (suc n) h = nth_front xs ys n (omega arith)

nth_back : {X : Type 0} (xs ys : List X) (w n : ℕ) → length xs ≡ w → nth (xs ++ ys) (w + n) ≡ nth ys n
nth_back [] ys w n e = let f : w + n ≡ n = omega arith in ap (nth ys) f
nth_back (x ∷ xs) ys zero n e = absurd (omega arith)
nth_back (x ∷ xs) ys (suc w) n e =
    let f : suc w + n ≡ suc (w + n) = omega arith in
    ap (nth (x ∷ xs ++ ys)) f ∙ nth_back xs ys w n (omega arith)

module _ {X : Type 0} {width : ℕ} {parts : X → List Term} (laws : LawfulRecord width parts) where
  part_place : (xs : List X) (q j : ℕ) (d : X) → j < width → q < length xs → nth (flat parts xs) (q * width + j) ≡ nth (parts (get_or xs q d)) j
  part_place [] q j d h l = absurd (omega arith)
  part_place (x ∷ xs) zero j d h l =
      let p : 0 * width + j ≡ j = omega (arith, zero-mul width) in
      ap (nth (flat parts (x ∷ xs))) p ∙ nth_front (parts x) (flat parts xs) j (let e = laws.even x in omega arith)
  part_place (x ∷ xs) (suc q) j d h l =
      let p : suc q * width + j ≡ width + (q * width + j) = omega (arith, suc-mul q width) in
      ap (nth (flat parts (x ∷ xs))) p ∙ nth_back (parts x) (flat parts xs) width (q * width + j) (laws.even x) ∙ part_place xs q j d h (omega arith)

  -- ---- term i is part i % width of record i / width
  pub flat_here : (xs : List X) (i t u : ℕ) (d : X) → t ≡ width → u ≡ width → i / t < length xs → nth (flat parts xs) i ≡ nth (parts (get_or xs (i / t) d)) (i % u)
  flat_here xs i t u d e f l =
      let same : u ≡ t = f ∙ sym e in
      let some : 0 < t = rw e laws.some in
      let j : i % t < width = omega (arith, mod_below i t some) in
      let p : i / t * width + i % t ≡ i = rw (← e) (div-add-mod' i t) in
      ap (nth (flat parts xs)) (sym p) ∙ part_place xs (i / t) (i % t) d j l ∙ ap (λ n. nth (parts (get_or xs (i / t) d)) (i % n)) (sym same)

  -- ---- and there is none where there is no such record
  pub flat_past : (xs : List X) (i t : ℕ) → t ≡ width → length xs ≤ i / t → nth (flat parts xs) i ≡ None
  flat_past xs i t e l =
      let p : i / t * width + i % t ≡ i = rw (← e) (div-add-mod' i t) in
      let m : length xs * width ≤ i / t * width = mul-le (length xs) width (i / t) width l (omega arith) in
      slice_get_past (flat parts xs) i (rw (length_flat laws xs) (omega arith))

  pub in_order : (xs : List X) → PartsInOrder width parts xs (flat parts xs)
  in_order xs = record { here = λ i d l. flat_here xs i width width d refl refl l; past = λ i l. flat_past xs i width refl l }

  -- ---- how many terms
  one_or_two : (width ≡ 1) ⊎ (width ≡ 2)
  one_or_two = by_width width refl
    where
      by_width : (w : ℕ) → width ≡ w → (width ≡ 1) ⊎ (width ≡ 2)
      by_width zero e = absurd (let s = laws.some in omega arith)
      by_width (suc zero) e = inl e
      by_width (suc (suc zero)) e = inr e
      by_width (suc (suc (suc w))) e = absurd (let s = laws.few in omega arith)

  many : (xs : List X) (t : ℕ) → t ≡ width → most_terms / t < length xs → most_terms < length (flat parts xs)
  many xs t e h = rw (length_flat laws xs, ← e) (by_width one_or_two)
    where
      by_width : (width ≡ 1) ⊎ (width ≡ 2) → most_terms < length xs * t
      by_width (inl w) = let q : t ≡ 1 = e ∙ w in let k : most_terms / 1 < length xs = rw q at h in rw q (omega arith)
      by_width (inr w) = let q : t ≡ 2 = e ∙ w in let k : most_terms / 2 < length xs = rw q at h in rw q (omega arith)

  pub few_enough : (xs : List X) (t : ℕ) → t ≡ width → length xs ≤ most_terms / t → length (flat parts xs) ≤ most_terms
  few_enough xs t e h = rw (length_flat laws xs, ← e) (by_width one_or_two)
    where
      by_width : (width ≡ 1) ⊎ (width ≡ 2) → length xs * t ≤ most_terms
      by_width (inl w) = let q : t ≡ 1 = e ∙ w in let k : length xs ≤ most_terms / 1 = rw q at h in rw q (omega arith)
      by_width (inr w) = let q : t ≡ 2 = e ∙ w in let k : length xs ≤ most_terms / 2 = rw q at h in rw q (omega arith)

  pub refused_many : (xs : List X) (t : ℕ) → t ≡ width → most_terms / t < length xs → Some TooManyTerms ≡ list_fault (length (flat parts xs))
  refused_many xs t e h = rw (lt-ltb most_terms (length (flat parts xs)) (many xs t e h)) refl

  pub count_whole : (xs : List X) (t : ℕ) → t ≡ width → length xs * t ≡ length (flat parts xs)
  count_whole xs t e = rw (length_flat laws xs, e) refl
