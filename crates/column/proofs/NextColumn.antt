-- The next occupied column, found among the terms that have not ended.
use Rattle.std.proofs.Common.{◌≡◌, ℕ, zero, suc, ◌-◌, ◌<◌, ◌≤◌, ◌⊎◌, Bool, cond, true, false, ◌||◌, refl, ◌∙◌, List, [], ◌∷◌, ◌++◌, length, take, drop, ℤ, pos, ◌-ℤ◌, neg_ℤ, ◌≤ℤ◌, ◌<ℤ◌, Some, None, Option, sym, ap, subst, inl, inr, ⊎_elim, arith, get_or, ◌+◌}
use borrow.Author.Differences.{ints}
use Rattle.std.specs.List.{All, AllByRecursion, AllWithin, list_any, filter_map, reduce}
use Rattle.std.proofs.lemmas.List.{take-append-drop, take_all, get_or-take, get_or-drop, length-drop, length-take-le, map-append}
use Rattle.std.proofs.lemmas.List.Elements.{recursion_from_All}
use Rattle.batch.specs.Term.{Term, Batchable}
use Rattle.column.specs.declared.term.CountedTerm.{CountedTerm}
use Rattle.column.specs.Parts.{Part}
use Rattle.column.specs.Columns.{Occupies, Occupied}
use Rattle.column.specs.Edges.{Spanning, SpansListed, occupies_next, highest_below, picked}
use Rattle.column.specs.Listed.{listed_part, parts_listed, RegularListed}
use Rattle.column.specs.Walk.{Highest}
use Rattle.column.proofs.Descent.{greatest_of_all}
use Rattle.column.proofs.Nearness.{last_near}
use Rattle.column.proofs.TermEnds.{next_occupied, highest_is, none_upto}

-- ---- parts of a list of parts
in_either : (k : ℤ) (ps qs : List Part) → Occupied (ps ++ qs) k → Occupied ps k ⊎ Occupied qs k
in_either k [] qs o = inr o
in_either k (p ∷ ps) qs (inl o) = inl (inl o)
in_either k (p ∷ ps) qs (inr o) = ⊎_elim (λ q. inl (inr q)) (λ q. inr q) (in_either k ps qs o)

in_first : (k : ℤ) (ps qs : List Part) → Occupied ps k → Occupied (ps ++ qs) k
in_first k [] qs o = absurd o
in_first k (p ∷ ps) qs (inl o) = inl o
in_first k (p ∷ ps) qs (inr o) = inr (in_first k ps qs o)

in_second : (k : ℤ) (ps qs : List Part) → Occupied qs k → Occupied (ps ++ qs) k
in_second k [] qs o = o
in_second k (p ∷ ps) qs o = inr (in_second k ps qs o)

pub all_taken : (P : CountedTerm → Type 0) (n : ℕ) (xs : List CountedTerm) → AllByRecursion P xs → AllByRecursion P (take n xs)
all_taken P zero xs h = tt
all_taken P (suc n) [] h = tt
all_taken P (suc n) (x ∷ xs) (h, hs) = (h, all_taken P n xs hs)

pub all_left : (P : CountedTerm → Type 0) (n : ℕ) (xs : List CountedTerm) → AllByRecursion P xs → AllByRecursion P (drop n xs)
all_left P zero xs h = h
all_left P (suc n) [] h = tt
all_left P (suc n) (x ∷ xs) (h, hs) = all_left P n xs hs

-- the slice from a place on
pub sliced_from : (n : ℕ) (xs ys : List CountedTerm) → xs ≡ ys → take (length xs - n) (drop n xs) ≡ drop n ys
sliced_from n xs ys e = take_all (length xs - n) (drop n xs) (omega (arith, length-drop n xs)) ∙ ap (drop n) e

pub all_within : (P : CountedTerm → Type 0) (e : ℕ) (xs : List CountedTerm) → e ≤ length xs → AllWithin P xs 0 e → AllByRecursion P (take e xs)
all_within P zero xs l h = tt
all_within P (suc e) [] l h = absurd (omega arith)
all_within P (suc e) (x ∷ xs) l h = (h 0 x (omega arith) (omega arith), all_within P e xs (omega arith) (λ j d a b. h (suc j) d (omega arith) (omega arith)))

-- ---- the terms from the place e up to the place b
module _ (P : CountedTerm → Type 0) (xs : List CountedTerm) (e b : ℕ) (order : e ≤ b) (within : b ≤ length xs) where
  zone_length : length (take (b - e) (drop e xs)) ≡ b - e
  zone_length = length-take-le (b - e) (drop e xs) (omega (arith, length-drop e xs))

  zone_read : (j : ℕ) (d : CountedTerm) → j < b - e → get_or (take (b - e) (drop e xs)) j d ≡ get_or xs (e + j) d
  zone_read j d l = get_or-take (b - e) (drop e xs) j d l ∙ get_or-drop e xs j d

  pub zone_all : AllWithin P xs e b → AllByRecursion P (take (b - e) (drop e xs))
  zone_all h =
      recursion_from_All P (take (b - e) (drop e xs))
      (λ j d l. let u : j < b - e = omega (arith, zone_length) in subst P (sym (zone_read j d u)) (h (e + j) d (omega arith) (omega arith)))

  pub zone_within : All P (take (b - e) (drop e xs)) → AllWithin P xs e b
  zone_within h j d l u =
      let i : j - e < b - e = omega arith in
      let at : e + (j - e) ≡ j = omega arith in
      subst P (zone_read (j - e) d i ∙ ap (λ (n : ℕ). get_or xs n d) at) (h (j - e) d (omega (arith, zone_length)))

-- ---- terms with their ends, none of them 0
module _ (ts : List Term) where
  abbrev pub Sound : CountedTerm → Type 0
  Sound c = Spanning ts c × (0 < (listed_part ts c).significand)

  pub sound_listed : (xs : List CountedTerm) → SpansListed ts xs → RegularListed ts xs → AllByRecursion Sound xs
  sound_listed xs s = both xs (recursion_from_All (Spanning ts) xs s)
    where
      both : (xs : List CountedTerm) → AllByRecursion (Spanning ts) xs → RegularListed ts xs → AllByRecursion Sound xs
      both [] s r = tt
      both (x ∷ xs) (s, ss) (r, rs) = ((s, r), both xs ss rs)

module _ (ts : List Term) (batch : Batchable ts) (b : ℤ) where
  split : (n : ℕ) (xs : List CountedTerm) → parts_listed ts (take n xs) ++ parts_listed ts (drop n xs) ≡ parts_listed ts xs
  split n xs = sym (map-append (listed_part ts) (take n xs) (drop n xs)) ∙ ap (parts_listed ts) (take-append-drop n xs)

  -- ---- the column right below
  any_next : (ys : List CountedTerm) → AllByRecursion (Sound ts) ys → list_any (occupies_next b) ys ≡ true → Occupied (parts_listed ts ys) (b -ℤ pos 1) × (neg_ℤ (pos 60000000) <ℤ b)
  any_next [] s h = absurd (let z : ◌≡◌ {A = ℕ} 0 1 = ap (λ (t : Bool). cond t 1 0) h in omega arith)
  any_next (y ∷ ys) (s, ss) h = ⊎_elim
      (λ q.
      let t = both_tests y q in
      let near = last_near ts batch y s.0 in
      (inl (next_occupied ts y s.0 s.1 b t.0 t.1), omega (arith, ints, near.from)))
      (λ q. let n = any_next ys ss q in (inr n.0, n.1))
      (either (occupies_next b y) (list_any (occupies_next b) ys) h)
    where
      either : (p q : Bool) → (p || q) ≡ true → (p ≡ true) ⊎ (q ≡ true)
      either true q e = inl refl
      either false q e = inr e

      both_tests : (c : CountedTerm) → occupies_next b c ≡ true → (c.last <ℤ b) × ((b -ℤ pos 1) ≤ℤ c.first)
      both_tests c q = grind (arith, ints, q)

  -- ---- the highest of the terms that are left
  highest_left : (ys : List CountedTerm) → AllByRecursion (Sound ts) ys → Highest b (Occupied (parts_listed ts ys)) (reduce picked (filter_map (highest_below b) ys))
  highest_left ys s = greatest_of_all b (listed_part ts) (highest_below b) ys (each ys s)
    where
      each : (ys : List CountedTerm) → AllByRecursion (Sound ts) ys → AllByRecursion (λ x. Highest b (Occupies (listed_part ts x)) (highest_below b x)) ys
      each [] s = tt
      each (y ∷ ys) (s, ss) = (highest_is ts y s.0 s.1 b, each ys ss)

  -- those that end above the column occupy none below it
  ended_none : (ys : List CountedTerm) → AllByRecursion (Sound ts) ys → AllByRecursion (λ c. b <ℤ c.last) ys → (k : ℤ) → k <ℤ b → Occupied (parts_listed ts ys) k → ⊥
  ended_none [] s h k l o = o
  ended_none (y ∷ ys) (s, ss) (h, hs) k l (inl o) = none_upto ts y s.0 k (omega (arith, ints)) o
  ended_none (y ∷ ys) (s, ss) (h, hs) k l (inr o) = ended_none ys ss hs k l o

  module _ (xs : List CountedTerm) (s : AllByRecursion (Sound ts) xs) (e : ℕ) where
    pub found_next : (m : ℕ) → list_any (occupies_next b) (take m (drop e xs)) ≡ true → Highest b (Occupied (parts_listed ts xs)) (Some (b -ℤ pos 1)) × (neg_ℤ (pos 60000000) <ℤ b)
    found_next m h =
        let n = any_next (take m (drop e xs)) (all_taken (Sound ts) m (drop e xs) (all_left (Sound ts) e xs s)) h in
        let k = b -ℤ pos 1 in
        let left = subst (λ (ps : List Part). Occupied ps k) (split m (drop e xs)) (in_first k (parts_listed ts (take m (drop e xs))) (parts_listed ts (drop m (drop e xs))) n.0) in
        let whole = subst (λ (ps : List Part). Occupied ps k) (split e xs) (in_second k (parts_listed ts (take e xs)) (parts_listed ts (drop e xs)) left) in
        ((whole, omega (arith, ints), λ j o l. omega (arith, ints)), n.1)

    pub found_left : AllByRecursion (λ c. b <ℤ c.last) (take e xs) → Highest b (Occupied (parts_listed ts xs)) (reduce picked (filter_map (highest_below b) (drop e xs)))
    found_left passed = whole (reduce picked (filter_map (highest_below b) (drop e xs))) (highest_left (drop e xs) (all_left (Sound ts) e xs s))
      where
        apart : (k : ℤ) → k <ℤ b → Occupied (parts_listed ts xs) k → Occupied (parts_listed ts (drop e xs)) k
        apart k l o = ⊎_elim (λ q. absurd (ended_none (take e xs) (all_taken (Sound ts) e xs s) passed k l q)) (λ q. q) (in_either k (parts_listed ts (take e xs)) (parts_listed ts (drop e xs)) (subst (λ (ps : List Part). Occupied ps k) (sym (split e xs)) o))

        whole : (r : Option ℤ) → Highest b (Occupied (parts_listed ts (drop e xs))) r → Highest b (Occupied (parts_listed ts xs)) r
        whole None h = λ k o l. h k (apart k l o) l
        whole (Some c) h = (subst (λ (ps : List Part). Occupied ps c) (split e xs) (in_second c (parts_listed ts (take e xs)) (parts_listed ts (drop e xs)) h.0), h.1, λ k o l. h.2 k (apart k l o) l)
