-- A column's total and count, from the terms that reach it alone.
use Rattle.std.proofs.Common.{◌≡◌, ℕ, zero, suc, ◌+◌, ◌-◌, ◌^◌, ◌<◌, ◌≤◌, Bool, cond, true, false, List, [], ◌∷◌, ◌++◌, map, length, get_or, take, drop, ℤ, pos, ◌+ℤ◌, nat_abs, ◌≤ℤ◌, ◌<ℤ◌, sym, refl, ap, ◌∙◌, ap₂, arith}
use lib.Signed.{lt_z}
use borrow.Author.Differences.{ints}
use Rattle.std.specs.List.{AllByRecursion, AllWithin, filter}
use Rattle.std.proofs.lemmas.List.{take_more, take-append-drop, length-drop, length-take-le, drop-drop, map-append}
use Rattle.exact.specs.Integers.{signed}
use Rattle.batch.specs.Term.{Term, column_weight}
use Rattle.batch.specs.Lookup.{digit_of_term}
use Rattle.column.specs.declared.term.CountedTerm.{CountedTerm}
use Rattle.column.specs.declared.parting.Zones.{Zones}
use Rattle.column.specs.Parts.{Part, low, signed_sum, tally}
use Rattle.column.specs.Columns.{digit, column_total}
use Rattle.column.specs.Ends.{reaching_below}
use Rattle.column.specs.Listed.{listed_part, parts_listed}
use Rattle.column.specs.Zones.{Zoned}
use Rattle.column.proofs.SignedSums.{signed_nothing, sum_push, tally_le}
use Rattle.column.proofs.Cuts.{total_within}
use Rattle.column.proofs.Lookups.{signed_listed}
use Rattle.column.proofs.NextColumn.{Sound, all_within, all_taken, all_left}
use Rattle.column.proofs.TermEnds.{reaches, ended_digit, waiting_digit, falls}

-- the total of at most 1,024 parts
pub total_small : (ps : List Part) (k : ℤ) → length ps ≤ 1024 → nat_abs (column_total ps k) < 2 ^ 42
total_small ps k h =
    let d = total_within ps k in
    let l = tally_le (λ p. lt_z (low p) (column_weight (k +ℤ pos 1))) ps in
    omega (arith, ints, d)

-- ---- sums of two lists
sum_append : (f : Part → ℕ) (ps qs : List Part) → signed_sum f (ps ++ qs) ≡ signed_sum f ps +ℤ signed_sum f qs
sum_append f [] qs = omega (arith, ints)
sum_append f (p ∷ ps) qs = let i = sum_append f ps qs in omega (arith, ints)

tally_append : (t : Part → Bool) (ps qs : List Part) → tally t (ps ++ qs) ≡ tally t ps + tally t qs
tally_append t [] qs = omega arith
tally_append t (p ∷ ps) qs = let i = tally_append t ps qs in omega arith

-- how many pass a test, listed or counted
pub tally_filter : (t : Part → Bool) (f : CountedTerm → Part) (ys : List CountedTerm) → length (filter (λ y. t (f y)) ys) ≡ tally t (map f ys)
tally_filter t f [] = refl
tally_filter t f (y ∷ ys) = one (t (f y)) (filter (λ (c : CountedTerm). t (f c)) ys) ∙ ap (λ (n : ℕ). cond (t (f y)) 1 0 + n) (tally_filter t f ys)
  where
    one : (b : Bool) (cs : List CountedTerm) → length (cond b (y ∷ cs) cs) ≡ cond b 1 0 + length cs
    one true cs = omega arith
    one false cs = omega arith

is_below : (a b : ℤ) → a <ℤ b → lt_z a b ≡ true
is_below a b h = grind (arith, ints)

not_below : (a b : ℤ) → b ≤ℤ a → lt_z a b ≡ false
not_below a b h = grind (arith, ints)

all_from : (P : CountedTerm → Type 0) (b : ℕ) (xs : List CountedTerm) → AllWithin P xs b (length xs) → AllByRecursion P (drop b xs)
all_from P zero [] h = tt
all_from P zero (x ∷ xs) h = (h 0 x (omega arith) (omega arith), all_from P zero xs (λ j d a l. h (suc j) d (omega arith) (omega arith)))
all_from P (suc b) [] h = tt
all_from P (suc b) (x ∷ xs) h = all_from P b xs (λ j d a l. h (suc j) d (omega arith) (omega arith))

-- ---- one listed term more
module _ (ts : List Term) (xs : List CountedTerm) (i : ℕ) (d : CountedTerm) (l : i < length xs) where
  parts_more : parts_listed ts (take (i + 1) xs) ≡ parts_listed ts (take i xs) ++ listed_part ts (get_or xs i d) ∷ []
  parts_more = ap (map (listed_part ts)) (take_more xs i d l) ∙ map-append (listed_part ts) (take i xs) (get_or xs i d ∷ [])

  pub total_more : (k : ℤ) (r : ℕ) → r ≡ digit_of_term ts (get_or xs i d).place k
      → column_total (parts_listed ts (take i xs)) k +ℤ signed (get_or xs i d).negative r ≡ column_total (parts_listed ts (take (i + 1) xs)) k
  total_more k r e =
      let p = listed_part ts (get_or xs i d) in
      ap (λ (z : ℤ). column_total (parts_listed ts (take i xs)) k +ℤ z) (signed_listed ts (get_or xs i d) k r e)
      ∙ sym (sum_push (λ (x : Part). digit x k) (parts_listed ts (take i xs)) p)
      ∙ sym (ap (λ (ps : List Part). column_total ps k) parts_more)

-- ---- terms that do not reach the column k
module _ (ts : List Term) (k : ℤ) where
  ended_total : (ys : List CountedTerm) → AllByRecursion (Sound ts) ys → AllByRecursion (λ c. k <ℤ c.last) ys → column_total (parts_listed ts ys) k ≡ pos 0
  ended_total [] s h = refl
  ended_total (y ∷ ys) (s, ss) (h, hs) = ap₂ ◌+ℤ◌ (ap (signed (listed_part ts y).negative) (ended_digit ts y s.0 k h) ∙ signed_nothing (listed_part ts y).negative) (ended_total ys ss hs)

  waiting_total : (ys : List CountedTerm) → AllByRecursion (Sound ts) ys → AllByRecursion (λ c. c.first <ℤ k) ys → column_total (parts_listed ts ys) k ≡ pos 0
  waiting_total [] s h = refl
  waiting_total (y ∷ ys) (s, ss) (h, hs) = ap₂ ◌+ℤ◌ (ap (signed (listed_part ts y).negative) (waiting_digit ts y s.0 k h) ∙ signed_nothing (listed_part ts y).negative) (waiting_total ys ss hs)

  -- how many go on below it
  abbrev below : List CountedTerm → ℕ
  below ys = reaching_below (parts_listed ts ys) (column_weight k)

  ended_below : (ys : List CountedTerm) → AllByRecursion (Sound ts) ys → AllByRecursion (λ c. k <ℤ c.last) ys → below ys ≡ 0
  ended_below [] s h = refl
  ended_below (y ∷ ys) (s, ss) (h, hs) =
      let no : lt_z (low (listed_part ts y)) (column_weight k) ≡ false = sym (reaches ts y s.0 k) ∙ not_below y.last k (omega (arith, ints)) in
      ap₂ (λ (b : Bool) (n : ℕ). cond b 1 0 + n) no (ended_below ys ss hs)

  waiting_below : (ys : List CountedTerm) → AllByRecursion (Sound ts) ys → AllByRecursion (λ c. c.first <ℤ k) ys → below ys ≡ length ys
  waiting_below [] s h = refl
  waiting_below (y ∷ ys) (s, ss) (h, hs) =
      let f = falls ts y s.0 s.1 in
      let yes : lt_z (low (listed_part ts y)) (column_weight k) ≡ true = sym (reaches ts y s.0 k) ∙ is_below y.last k (omega (arith, ints)) in
      ap₂ (λ (b : Bool) (n : ℕ). cond b 1 0 + n) yes (waiting_below ys ss hs) ∙ omega arith

  begun_below : (ys : List CountedTerm) → AllByRecursion (Sound ts) ys → below ys ≡ length (filter (λ c. lt_z c.last k) ys)
  begun_below [] s = refl
  begun_below (y ∷ ys) (s, ss) = one (begun_below ys ss) (lt_z y.last k) refl
    where
      one : below ys ≡ length (filter (λ (c : CountedTerm). lt_z c.last k) ys) → (b : Bool) → lt_z y.last k ≡ b → cond (lt_z (low (listed_part ts y)) (column_weight k)) 1 0 + below ys ≡ length (cond (lt_z y.last k) (y ∷ filter (λ (c : CountedTerm). lt_z c.last k) ys) (filter (λ (c : CountedTerm). lt_z c.last k) ys))
      one i b e =
          ap₂ (λ (x : Bool) (n : ℕ). cond x 1 0 + n) (sym (reaches ts y s.0 k) ∙ e) i
          ∙ counted b (filter (λ (c : CountedTerm). lt_z c.last k) ys)
          ∙ ap (λ (x : Bool). length (cond x (y ∷ filter (λ (c : CountedTerm). lt_z c.last k) ys) (filter (λ (c : CountedTerm). lt_z c.last k) ys))) (sym e)
        where
          counted : (x : Bool) (cs : List CountedTerm) → cond x 1 0 + length cs ≡ length (cond x (y ∷ cs) cs)
          counted true cs = omega arith
          counted false cs = omega arith

-- ---- the three zones together
module _ (ts : List Term) (xs : List CountedTerm) (s : AllByRecursion (Sound ts) xs) (z : Zones) (k b j : ℤ) (w : Zoned xs z k b) (upto : j ≤ℤ k) (from : b ≤ℤ j) where
  abbrev begun : List CountedTerm
  begun = take (z.begun - z.ended) (drop z.ended xs)

  abbrev waiting : List CountedTerm
  waiting = drop z.begun xs

  three : parts_listed ts xs ≡ parts_listed ts (take z.ended xs) ++ (parts_listed ts begun ++ parts_listed ts waiting)
  three =
      let last : drop (z.begun - z.ended) (drop z.ended xs) ≡ waiting = drop-drop (z.begun - z.ended) z.ended xs ∙ ap (λ (n : ℕ). drop n xs) (omega (arith, w.order)) in
      ap (parts_listed ts) (sym (take-append-drop z.ended xs))
      ∙ map-append (listed_part ts) (take z.ended xs) (drop z.ended xs)
      ∙ ap (λ (ps : List Part). parts_listed ts (take z.ended xs) ++ ps)
      (ap (parts_listed ts) (sym (take-append-drop (z.begun - z.ended) (drop z.ended xs))) ∙ map-append (listed_part ts) begun (drop (z.begun - z.ended) (drop z.ended xs)) ∙ ap (λ (ys : List CountedTerm). parts_listed ts begun ++ parts_listed ts ys) last)

  ended_all : AllByRecursion (λ c. j <ℤ c.last) (take z.ended xs)
  ended_all = all_within (λ c. j <ℤ c.last) z.ended xs (omega (arith, w.order, w.within)) (λ i d l u. let p = w.passed i d l u in omega (arith, ints))

  waiting_all : AllByRecursion (λ c. c.first <ℤ j) waiting
  waiting_all = all_from (λ c. c.first <ℤ j) z.begun xs (λ i d l u. let p = (w.waiting i d l u).0 in omega (arith, ints))

  pub zone_total : column_total (parts_listed ts begun) j ≡ column_total (parts_listed ts xs) j
  zone_total =
      let f : Part → ℕ = λ p. digit p j in
      let ended = ended_total ts j (take z.ended xs) (all_taken (Sound ts) z.ended xs s) ended_all in
      let wait = waiting_total ts j waiting (all_left (Sound ts) z.begun xs s) waiting_all in
      let all = ap (λ (ps : List Part). column_total ps j) three ∙ sum_append f (parts_listed ts (take z.ended xs)) (parts_listed ts begun ++ parts_listed ts waiting) in
      let rest = sum_append f (parts_listed ts begun) (parts_listed ts waiting) in
      omega (arith, ints, ended, wait, all, rest)

  pub zone_below : (n : ℕ) → n ≡ length (filter (λ c. lt_z c.last j) begun) → n + (length xs - z.begun) ≡ reaching_below (parts_listed ts xs) (column_weight j)
  zone_below n e =
      let t : Part → Bool = λ p. lt_z (low p) (column_weight j) in
      let ended = ended_below ts j (take z.ended xs) (all_taken (Sound ts) z.ended xs s) ended_all in
      let wait = waiting_below ts j waiting (all_left (Sound ts) z.begun xs s) waiting_all in
      let some = begun_below ts j begun (all_taken (Sound ts) (z.begun - z.ended) (drop z.ended xs) (all_left (Sound ts) z.ended xs s)) in
      let all = ap (λ (ps : List Part). reaching_below ps (column_weight j)) three ∙ tally_append t (parts_listed ts (take z.ended xs)) (parts_listed ts begun ++ parts_listed ts waiting) in
      let rest = tally_append t (parts_listed ts begun) (parts_listed ts waiting) in
      omega (arith, e, ended, wait, some, all, rest, length-drop z.begun xs)

  -- where all that have begun end below it, they and those that wait go on there
  pub zone_below_all : AllByRecursion (λ c. c.last <ℤ j) begun → length xs - z.ended ≡ reaching_below (parts_listed ts xs) (column_weight j)
  zone_below_all h =
      let long : length begun ≡ z.begun - z.ended = length-take-le (z.begun - z.ended) (drop z.ended xs) (omega (arith, length-drop z.ended xs, w.within, w.order)) in
      let all = filter_all begun h in
      let rest : length xs - z.ended ≡ length begun + (length xs - z.begun) = omega (arith, long, w.within, w.order) in
      rest ∙ zone_below (length begun) (sym all)
    where
      filter_all : (ys : List CountedTerm) → AllByRecursion (λ c. c.last <ℤ j) ys → length (filter (λ c. lt_z c.last j) ys) ≡ length ys
      filter_all [] h = refl
      filter_all (y ∷ ys) (h, hs) = ap (λ (b : Bool). length (cond b (y ∷ filter (λ (c : CountedTerm). lt_z c.last j) ys) (filter (λ (c : CountedTerm). lt_z c.last j) ys))) (is_below y.last j h) ∙ ap suc (filter_all ys hs)
