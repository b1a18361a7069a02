-- What a partial sum holds after each step of absorbing a column, and that it keeps its limits.
use Rattle.std.proofs.Common.{◌≡◌, ℕ, ◌+◌, ◌-◌, ◌*◌, ◌^◌, ◌<◌, ◌≤◌, ◌≢◌, List, length, get_or, drop, set, replicate, ℤ, pos, ◌+ℤ◌, nat_abs, ◌-ℤ◌, ◌≤ℤ◌, ◌<ℤ◌, sym, refl, ap, ◌∙◌, subst, ⊎_elim, arith, length-set}
use Rattle.std.proofs.lemmas.Grind.{common_steps}
use borrow.Author.Differences.{ints}
use Rattle.std.proofs.lemmas.List.{drop_more, drop_all, get_or-replicate}
use Rattle.std.proofs.lemmas.Int.{by_lt_z}
use Rattle.std.proofs.lemmas.Bool.{cases_lt, cases_eq}
use Rattle.exact.specs.Integers.{scale}
use Rattle.exact.proofs.Scaling.{scale_scale, scale_plus, zero_scale}
use Rattle.totals.specs.Totals.{totals_value}
use Rattle.partial_sum.specs.Limits.{Fields, drop_between, slot_of, head_of, window_of, held_of, most_total, TotalsWithin, Shaped, Sound}
use Rattle.partial_sum.specs.Holding.{fields, slot, head, window, held, Absorbs, Folds, Appends, Lowers}
use Rattle.partial_sum.specs.declared.sum.PartialSum.{PartialSum}
use Rattle.partial_sum.proofs.Windows.{value_below, value_changed, value_zeros}

-- the limits before the carry out of a rest right below the window
record Uncarried (p : Fields) : Type 0 where
  shaped : Shaped p
  near_totals : p.lowest ≤ℤ (p.column +ℤ pos 1) → TotalsWithin most_total p
  all_totals : TotalsWithin (2 ^ 42 + 2 ^ 11) p

-- q holds what p does, and the total t of the column d
pub record Took (p : PartialSum) (q : Fields) (t d : ℤ) : Type 0 where
  pub value : held_of q ≡ scale (held p) (drop_between p.column d) +ℤ t
  pub at : q.column ≡ d
  pub no_higher : q.lowest ≤ℤ p.lowest

-- the window of q reaches further down, to the column d or as far as there is room
record Extended (p : PartialSum) (q : Fields) (d : ℤ) : Type 0 where
  totals : q.totals ≡ p.totals
  column : q.column ≡ p.column
  rest : q.rest ≡ p.rest
  from : q.from ≤ p.from
  lowest : q.lowest +ℤ pos (p.from - q.from) ≡ p.lowest
  reach : d ≤ℤ q.lowest
  full : d <ℤ q.lowest → q.from ≡ 0

abbrev lowered : PartialSum → ℕ → Fields
lowered p k = record { totals = p.totals; from = p.from - k; lowest = p.lowest -ℤ pos k; column = p.column; rest = p.rest }

extended : (p : PartialSum) (k : ℕ) (d : ℤ) → Lowers p k d → Extended p (lowered p k) d
extended p k d l =
    let room = l.room in
    let full = l.full in
    record { totals = refl; column = refl; rest = refl; from = omega arith; lowest = omega (arith, ints); reach = l.reach; full = λ above. (let e = full above in omega arith) }

-- ---- slots
-- a slot of a written window
slot_written : (q : Fields) (ts : List ℤ) (i : ℕ) (v : ℤ) → q.totals ≡ set ts i v → i < length ts → slot_of q i ≡ v
slot_written q ts i v e inside = grind (arith, ints, common_steps)

slot_kept : (q : Fields) (ts : List ℤ) (i k : ℕ) (v : ℤ) → q.totals ≡ set ts i v → k ≢ i → slot_of q k ≡ get_or ts k (pos 0)
slot_kept q ts i k v e other = grind (arith, ints, common_steps)

-- ---- a window of the head alone
pub head_alone : (ts : List ℤ) → length ts ≡ 130 → totals_value (drop 129 ts) ≡ get_or ts 129 (pos 0)
head_alone ts long =
    let step : totals_value (drop 129 ts) ≡ get_or ts 129 (pos 0) +ℤ scale (totals_value (drop 130 ts)) 32 = ap totals_value (drop_more ts 129 (pos 0) (omega arith)) ∙ value_below (get_or ts 129 (pos 0)) (drop 130 ts) in
    let none : scale (totals_value (drop 130 ts)) 32 ≡ pos 0 = ap (λ (l : List ℤ). scale (totals_value l) 32) (drop_all 130 ts (omega arith)) in
    omega (arith, ints)

-- an open partial sum is its window
pub held_open : (p : Fields) → p.lowest ≡ p.column → p.rest ≡ pos 0 → held_of p ≡ window_of p
held_open p at none = grind (arith, ints)

held_alone : (p : Fields) → length p.totals ≡ 130 → p.lowest ≡ p.column → p.rest ≡ pos 0 → p.from ≡ 129 → held_of p ≡ head_of p
held_alone p whole at none alone = held_open p at none ∙ ap (λ (i : ℕ). totals_value (drop i p.totals)) alone ∙ head_alone p.totals whole

-- where some slot is free the partial sum is open
open_where_room : (p : PartialSum) → 0 < p.from → p.column ≡ p.lowest
open_where_room p room = grind (arith, ints)

-- a head alone, small enough, keeps the limits
alone_sound : (p : Fields) → p.lowest ≡ p.column → p.rest ≡ pos 0 → p.from ≡ 129 → ((k : ℕ) → k < 129 → slot_of p k ≡ pos 0) → nat_abs (head_of p) ≤ 2 ^ 52 + 2 ^ 42 → Sound p
alone_sound p at none alone zeros small =
    let within : (b : ℕ) → TotalsWithin b p = λ b k l. (let z = zeros k l in omega (arith, ints)) in
    record {
      shaped = record {
        order = omega (arith, ints);
        open_rest = λ _. none;
        closed_full = λ l. absurd (omega (arith, ints));
        unused = λ k l. zeros k (omega arith);
        head_small = small;
        head_some = λ l. absurd (omega arith);
        head_large = λ l. absurd (omega arith);
        rest_small = omega (arith, ints);
      };
      open_totals = λ _. within most_total;
      all_totals = within (2 ^ 42 + 2 ^ 11);
      near_rest = λ l. absurd (omega (arith, ints));
    }

-- ---- one column
pub started : (p : Fields) (t : ℤ) → nat_abs t ≤ most_total → p.totals ≡ set (replicate 130 (pos 0)) 129 t → p.from ≡ 129 → p.lowest ≡ p.column → p.rest ≡ pos 0 → (held_of p ≡ t) × Sound p
started p t small e alone at none =
    let long : length p.totals ≡ 130 = ap length e ∙ length-set (replicate 130 (pos 0)) 129 t in
    let last : slot_of p 129 ≡ t = slot_written p (replicate 130 (pos 0)) 129 t e (omega arith) in
    let zeros : (k : ℕ) → k < 129 → slot_of p k ≡ pos 0 = λ k l. slot_kept p (replicate 130 (pos 0)) 129 k t e (omega arith) ∙ get_or-replicate 130 k (pos 0) (pos 0) (omega arith) in
    (held_alone p long at none alone ∙ last, alone_sound p at none alone zeros (omega (arith, ints)))

-- ---- a column into the head
pub folded : (p : PartialSum) (q : Fields) (t d : ℤ) → Absorbs p t d → Folds p d → q.totals ≡ set p.totals 129 (scale (head p) 32 +ℤ t) → q.from ≡ p.from → q.lowest ≡ d → q.column ≡ d → q.rest ≡ p.rest
    → Took p q t d × Sound q
folded p q t d a f e from lowest column rest =
    let s : Shaped (fields p) = p.sound.shaped in
    let alone = f.alone in
    let small = f.small in
    let total = a.total in
    let whole = p.whole in
    let further = a.further in
    let at : p.column ≡ p.lowest = open_where_room p (omega arith) in
    let none : p.rest ≡ pos 0 = s.open_rest at in
    let before : held p ≡ head p = held_alone (fields p) p.whole (sym at) none alone in
    let v = scale (head p) 32 +ℤ t in
    let last : slot_of q 129 ≡ v = slot_written q p.totals 129 v e (omega arith) in
    let long : length q.totals ≡ 130 = ap length e ∙ length-set p.totals 129 v ∙ whole in
    let after : held_of q ≡ v = held_alone q long (lowest ∙ sym column) (rest ∙ none) (from ∙ alone) ∙ last in
    let moved : scale (held p) (drop_between p.column d) ≡ scale (head p) 32 = ap (λ (z : ℤ). scale z (drop_between p.column d)) before ∙ ⊎_elim
    (λ (next : p.column ≡ d +ℤ pos 1). ap (scale (head p)) (let g : drop_between p.column d ≡ 32 = omega (arith, ints) in g))
    (λ (nothing : head p ≡ pos 0). ap (λ (z : ℤ). scale z (drop_between p.column d)) nothing ∙ zero_scale (drop_between p.column d) ∙ sym (zero_scale 32) ∙ ap (λ (z : ℤ). scale z 32) (sym nothing))
    f.next in
    let zeros : (k : ℕ) → k < 129 → slot_of q k ≡ pos 0 = λ k l. slot_kept q p.totals 129 k v e (omega arith) ∙ s.unused k (omega arith) in (
      record { value = after ∙ ap (λ (z : ℤ). z +ℤ t) (sym moved); at = column; no_higher = omega (arith, ints) },
      alone_sound q (lowest ∙ sym column) (rest ∙ none) (from ∙ alone) zeros (omega (arith, ints)),
    )

-- ---- a column below the head
-- the window's number after it reaches further down
extended_window : (p : PartialSum) (q : Fields) (d : ℤ) → Extended p q d → window_of q ≡ scale (window p) (32 * (p.from - q.from))
extended_window p q d x =
    let s : Shaped (fields p) = p.sound.shaped in
    let from = x.from in
    let back : q.from + (p.from - q.from) ≡ p.from = omega arith in
    let inside : q.from + (p.from - q.from) ≤ length p.totals = omega (arith, p.whole, p.used) in
    ap (λ (l : List ℤ). totals_value (drop q.from l)) x.totals
    ∙ value_zeros p.totals q.from (p.from - q.from) inside (λ k l. s.unused k (omega arith))
    ∙ ap (λ (i : ℕ). scale (totals_value (drop i p.totals)) (32 * (p.from - q.from))) back

-- the head stays what it was, and it was not 0
head_stays : (p : PartialSum) (d : ℤ) → Appends p d → 0 < nat_abs (head p)
head_stays p d a = grind (arith, ints)

-- where the window_of reaches d
appended : (p : PartialSum) (q r : Fields) (t d : ℤ) → Absorbs p t d → Appends p d → Extended p q d → q.lowest ≡ d → r.totals ≡ set q.totals q.from t → r.from ≡ q.from → r.lowest ≡ q.lowest → r.column ≡ d → r.rest ≡ q.rest
    → Took p r t d × Uncarried r
appended p q r t d a o x reached e from lowest column rest =
    let s : Shaped (fields p) = p.sound.shaped in
    let total = a.total in
    let further = a.further in
    let order = s.order in
    let down = x.lowest in
    let less = x.from in
    let used = p.used in
    let room : q.from < p.from = omega (arith, ints) in
    let at : p.column ≡ p.lowest = open_where_room p (omega arith) in
    let none : p.rest ≡ pos 0 = s.open_rest at in
    let E : r.totals ≡ set p.totals q.from t = e ∙ ap (λ (l : List ℤ). set l q.from t) x.totals in
    let inside : q.from < length p.totals = omega (arith, p.whole) in
    let here : get_or p.totals q.from (pos 0) ≡ pos 0 = s.unused q.from room in
    let steps : drop_between p.column d ≡ 32 * (p.from - q.from) = omega (arith, ints) in
    let wide : window_of r ≡ window_of q +ℤ t =
    ap (λ (i : ℕ). totals_value (drop i r.totals)) from
    ∙ ap (λ (l : List ℤ). totals_value (drop q.from l)) E
    ∙ value_changed p.totals q.from t t inside (omega (arith, ints))
    ∙ ap (λ (l : List ℤ). totals_value (drop q.from l) +ℤ t) (sym x.totals) in
    let before : scale (held p) (drop_between p.column d) ≡ window_of q =
    ap (λ (z : ℤ). scale z (drop_between p.column d)) (held_open (fields p) (sym at) none) ∙ ap (scale (window p)) steps ∙ sym (extended_window p q d x) in
    let written : slot_of r q.from ≡ t = slot_written r p.totals q.from t E inside in
    let kept : (k : ℕ) → k ≢ q.from → slot_of r k ≡ slot p k = λ k ne. slot_kept r p.totals q.from k t E ne in
    let top : slot_of r 129 ≡ slot p 129 = kept 129 (omega arith) in
    let some = head_stays p d o in
    let within : (b : ℕ) → most_total ≤ b → TotalsWithin b r = λ b le k l. ⊎_elim
    (λ (same : k ≡ q.from). (let w : slot_of r k ≡ t = ap (slot_of r) same ∙ written in omega (arith, ints)))
    (λ ne. (let w = kept k ne in let old = p.sound.open_totals at k l in omega (arith, ints)))
    (cases_eq k q.from) in (
      record { value = held_open r (lowest ∙ reached ∙ sym column) (rest ∙ x.rest ∙ none) ∙ wide ∙ ap (λ (z : ℤ). z +ℤ t) (sym before); at = column; no_higher = omega (arith, ints) },
      record {
        shaped = record {
          order = omega (arith, ints);
          open_rest = λ _. rest ∙ x.rest ∙ none;
          closed_full = λ l. absurd (omega (arith, ints));
          unused = λ k l. kept k (omega arith) ∙ s.unused k (omega arith);
          head_small = (let h = s.head_small in omega (arith, ints));
          head_some = λ _. subst (λ (z : ℤ). 0 < nat_abs z) (sym top) some;
          head_large = λ _ little.
              (let small : nat_abs (head p) < 2 ^ 20 = subst (λ (z : ℤ). nat_abs z < 2 ^ 20) top little in
              ⊎_elim
              (λ (l : p.from < 129). kept 128 (omega arith) ∙ s.head_large l small)
              (λ (l : 129 ≤ p.from). (let alone : p.from ≡ 129 = omega arith in let far = o.spaced alone small in kept 128 (omega (arith, ints)) ∙ s.unused 128 (omega arith)))
              (cases_lt p.from 129));
          rest_small = (let z = rest ∙ x.rest ∙ none in omega (arith, ints));
        };
        near_totals = λ _. within most_total (omega arith);
        all_totals = within (2 ^ 42 + 2 ^ 11) (omega arith);
      },
    )

-- where the room ends above d
rested : (p : PartialSum) (q r : Fields) (t d : ℤ) → Absorbs p t d → Appends p d → Extended p q d → d <ℤ q.lowest → r.totals ≡ q.totals → r.from ≡ q.from → r.lowest ≡ q.lowest → r.column ≡ d → r.rest ≡ scale q.rest 32 +ℤ t
    → Took p r t d × Uncarried r
rested p q r t d a o x above e from lowest column rest =
    let s : Shaped (fields p) = p.sound.shaped in
    let total = a.total in
    let further = a.further in
    let few = a.rest_few in
    let order = s.order in
    let down = x.lowest in
    let less = x.from in
    let used = p.used in
    let bottom : q.from ≡ 0 = x.full above in
    let E : r.totals ≡ p.totals = e ∙ x.totals in
    let same : (k : ℕ) → slot_of r k ≡ slot p k = λ k. ap (λ (l : List ℤ). get_or l k (pos 0)) E in
    let A = window p in
    let g = drop_between p.column d in
    let wide : window_of r ≡ scale A (32 * (p.from - q.from)) =
    ap (λ (i : ℕ). totals_value (drop i r.totals)) from ∙ ap (λ (l : List ℤ). totals_value (drop q.from l)) e ∙ extended_window p q d x in
    let deep : 32 * (p.from - q.from) + drop_between r.lowest r.column ≡ drop_between p.lowest p.column + g = omega (arith, ints) in
    let high : scale (window_of r) (drop_between r.lowest r.column) ≡ scale (scale A (drop_between p.lowest p.column)) g =
    ap (λ (z : ℤ). scale z (drop_between r.lowest r.column)) wide ∙ scale_scale A (32 * (p.from - q.from)) (drop_between r.lowest r.column)
    ∙ ap (scale A) deep ∙ sym (scale_scale A (drop_between p.lowest p.column) g) in
    let low : scale p.rest g ≡ scale p.rest 32 =
    by_lt_z (d +ℤ pos 1) p.column
    (λ far. (let z = a.rest_none far in ap (λ (y : ℤ). scale y g) z ∙ zero_scale g ∙ sym (zero_scale 32) ∙ ap (λ (y : ℤ). scale y 32) (sym z)))
    (λ near. ap (scale p.rest) (let i : g ≡ 32 = omega (arith, ints) in i)) in
    let R : r.rest ≡ scale p.rest 32 +ℤ t = rest ∙ ap (λ (z : ℤ). scale z 32 +ℤ t) x.rest in
    let all : scale (held p) g ≡ scale (scale A (drop_between p.lowest p.column)) g +ℤ scale p.rest g = scale_plus (scale A (drop_between p.lowest p.column)) p.rest g in
    let some = head_stays p d o in
    let old = p.sound.all_totals in (
      record { value = (let m : (x y z w : ℤ) → x ≡ y → w ≡ z +ℤ t → x +ℤ w ≡ (y +ℤ z) +ℤ t = λ x y z w i j. omega (arith, ints) in m _ _ _ _ high (R ∙ ap (λ (z : ℤ). z +ℤ t) (sym low)) ∙ ap (λ (z : ℤ). z +ℤ t) (sym all)); at = column; no_higher = omega (arith, ints) },
      record {
        shaped = record {
          order = omega (arith, ints);
          open_rest = λ l. absurd (omega (arith, ints));
          closed_full = λ _. from ∙ bottom;
          unused = λ k l. absurd (omega arith);
          head_small = (let h = s.head_small in let i = same 129 in omega (arith, ints));
          head_some = λ _. subst (λ (z : ℤ). 0 < nat_abs z) (sym (same 129)) some;
          head_large = λ _ little.
              (let small : nat_abs (head p) < 2 ^ 20 = subst (λ (z : ℤ). nat_abs z < 2 ^ 20) (same 129) little in
              same 128 ∙ ⊎_elim (λ (l : p.from < 129). s.head_large l small) (λ (l : 129 ≤ p.from). s.unused 128 (omega arith)) (cases_lt p.from 129));
          rest_small = omega (arith, ints);
        };
        near_totals = λ near k l. (let at : p.column ≡ p.lowest = by_lt_z p.column p.lowest (λ i. absurd (let z = s.closed_full i in let n : ⊥ = omega (arith, ints) in n)) (λ i. omega (arith, ints)) in
            subst (λ (z : ℤ). nat_abs z ≤ most_total) (sym (same k)) (p.sound.open_totals at k l));
        all_totals = λ k l. subst (λ (z : ℤ). nat_abs z ≤ 2 ^ 42 + 2 ^ 11) (sym (same k)) (old k l);
      },
    )

-- ---- the carry
-- where none is due
uncarried : (p : Fields) → Uncarried p → (p.column +ℤ pos 1 ≡ p.lowest → ⊥) → Sound p
uncarried p u far = record {
  shaped = u.shaped;
  open_totals = λ at. u.near_totals (omega (arith, ints));
  all_totals = u.all_totals;
  near_rest = λ near. absurd (far near);
}

-- k goes from the rest into the lowest total
carried : (p q : Fields) (k : ℤ) → length p.totals ≡ 130 → Uncarried p → p.column +ℤ pos 1 ≡ p.lowest → nat_abs k ≤ 2 ^ 11 → nat_abs q.rest ≤ 2 ^ 31 → q.rest +ℤ scale k 32 ≡ p.rest
    → q.totals ≡ set p.totals 0 (slot_of p 0 +ℤ k) → q.from ≡ p.from → q.lowest ≡ p.lowest → q.column ≡ p.column
    → (held_of q ≡ held_of p) × Sound q
carried p q k whole u near few little rest e from lowest column =
    let s = u.shaped in
    let order = s.order in
    let bottom : p.from ≡ 0 = s.closed_full (omega (arith, ints)) in
    let inside : 0 < length p.totals = omega (arith, whole) in
    let v = slot_of p 0 +ℤ k in
    let written : slot_of q 0 ≡ v = slot_written q p.totals 0 v e inside in
    let kept : (j : ℕ) → j ≢ 0 → slot_of q j ≡ slot_of p j = λ j ne. slot_kept q p.totals 0 j v e ne in
    let top : slot_of q 129 ≡ slot_of p 129 = kept 129 (omega arith) in
    let close : TotalsWithin most_total p = u.near_totals (omega (arith, ints)) in
    let wide : window_of q ≡ window_of p +ℤ k =
    ap (λ (i : ℕ). totals_value (drop i q.totals)) (from ∙ bottom) ∙ ap (λ (l : List ℤ). totals_value (drop 0 l)) e
    ∙ value_changed p.totals 0 k v inside refl
    ∙ ap (λ (i : ℕ). totals_value (drop i p.totals) +ℤ k) (sym bottom) in
    let g : drop_between q.lowest q.column ≡ 32 = omega (arith, ints) in
    let h : drop_between p.lowest p.column ≡ 32 = omega (arith, ints) in
    let high : scale (window_of q) (drop_between q.lowest q.column) ≡ scale (window_of p) (drop_between p.lowest p.column) +ℤ scale k 32 =
    ap (scale (window_of q)) g ∙ ap (λ (z : ℤ). scale z 32) wide ∙ scale_plus (window_of p) k 32 ∙ ap (λ (i : ℕ). scale (window_of p) i +ℤ scale k 32) (sym h) in (
      (let m : (x y z a b : ℤ) → x ≡ y +ℤ z → a +ℤ z ≡ b → x +ℤ a ≡ y +ℤ b = λ x y z a b i j. omega (arith, ints) in m _ _ _ _ _ high rest),
      record {
        shaped = record {
          order = omega (arith, ints);
          open_rest = λ l. absurd (omega (arith, ints));
          closed_full = λ _. from ∙ bottom;
          unused = λ j l. absurd (omega arith);
          head_small = (let i = s.head_small in omega (arith, ints));
          head_some = λ l. subst (λ (z : ℤ). 0 < nat_abs z) (sym top) (s.head_some (omega arith));
          head_large = λ _ small. kept 128 (omega arith) ∙ s.head_large (omega arith) (subst (λ (z : ℤ). nat_abs z < 2 ^ 20) top small);
          rest_small = omega arith;
        };
        open_totals = λ l. absurd (omega (arith, ints));
        all_totals = λ j l. ⊎_elim
            (λ (same : j ≡ 0). (let w : slot_of q j ≡ v = ap (slot_of q) same ∙ written in let old = close 0 (omega arith) in omega (arith, ints)))
            (λ ne. subst (λ (z : ℤ). nat_abs z ≤ 2 ^ 42 + 2 ^ 11) (sym (kept j ne)) (u.all_totals j l))
            (cases_eq j 0);
        near_rest = λ _. little;
      },
    )

-- ---- a column below the head, as its fields are written
module _ (p : PartialSum) (k : ℕ) (t d low column : ℤ) (a : Absorbs p t d) (o : Appends p d) (l : Lowers p k d) (lowest : low ≡ p.lowest -ℤ pos k) (at : column ≡ d) where
  -- into a window that reaches it
  pub into_window : (v : ℤ) → low ≡ d → v ≡ t
      → let q : Fields = record { totals = set p.totals (p.from - k) v; from = p.from - k; lowest = low; column = column; rest = p.rest } in Took p q t d × Sound q
  into_window v reached same =
      let q : Fields = record { totals = set p.totals (p.from - k) v; from = p.from - k; lowest = low; column = column; rest = p.rest } in
      let both = appended p (lowered p k) q t d a o (extended p k d l) (sym lowest ∙ reached) (ap (set p.totals (p.from - k)) same) refl lowest at refl in
      (both.0, uncarried q both.1 (omega (arith, ints)))

  -- into the rest, two or more columns below the window
  pub into_rest : (v : ℤ) → (d +ℤ pos 1) <ℤ low → v ≡ scale p.rest 32 +ℤ t
      → let q : Fields = record { totals = p.totals; from = p.from - k; lowest = low; column = column; rest = v } in Took p q t d × Sound q
  into_rest v far same =
      let q : Fields = record { totals = p.totals; from = p.from - k; lowest = low; column = column; rest = v } in
      let both = rested p (lowered p k) q t d a o (extended p k d l) (omega (arith, ints)) refl refl lowest at same in
      (both.0, uncarried q both.1 (omega (arith, ints)))

  -- into the rest right below the window, with n units that go on into the window
  pub into_rest_and_window : (v w n : ℤ) → d +ℤ pos 1 ≡ low → nat_abs n ≤ 2 ^ 11 → nat_abs v ≤ 2 ^ 31 → v +ℤ scale n 32 ≡ scale p.rest 32 +ℤ t → w ≡ slot p 0 +ℤ n
      → let q : Fields = record { totals = set p.totals 0 w; from = p.from - k; lowest = low; column = column; rest = v } in Took p q t d × Sound q
  into_rest_and_window v w n next few little rest same =
      let middle : Fields = record { totals = p.totals; from = p.from - k; lowest = low; column = column; rest = scale p.rest 32 +ℤ t } in
      let q : Fields = record { totals = set p.totals 0 w; from = p.from - k; lowest = low; column = column; rest = v } in
      let before = rested p (lowered p k) middle t d a o (extended p k d l) (omega (arith, ints)) refl refl lowest at refl in
      let took = before.0 in
      let both = carried middle q n p.whole before.1 (omega (arith, ints)) few little rest (ap (set p.totals 0) same) refl refl refl in
      (record { value = both.0 ∙ took.value; at = took.at; no_higher = took.no_higher }, both.1)
