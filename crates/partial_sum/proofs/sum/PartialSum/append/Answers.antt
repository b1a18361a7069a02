use lib.Signed.{lt_z}
use Rattle.std.proofs.Common.{◌≡◌, true, false, ℕ, ◌-◌, ◌^◌, ◌≤◌, set, ℤ, pos, ◌+ℤ◌, ◌-ℤ◌, nat_abs, ◌<ℤ◌, ap, subst, arith, w32, w64, SFits, to_z, of_z, rules}
use Rattle.std.proofs.lemmas.Int.{ints, to_z-of_z}
use Rattle.exact.specs.Integers.{scale}
use Rattle.partial_sum.specs.Limits.{Fields, Sound}
use Rattle.partial_sum.specs.Holding.{slot, Absorbs, Appends, Lowers}
use Rattle.partial_sum.specs.declared.sum.PartialSum.{PartialSum}
use Rattle.partial_sum.proofs.Absorbing.{Took, into_window, into_rest, into_rest_and_window}
use Rattle.partial_sum.proofs.sum.PartialSum.append.Goals as goal

-- the window's lowest column after it went down, as it is worked out
abbrev lowest_after : PartialSum → ℕ → ℤ
lowest_after p k = to_z w32 (of_z w32 (to_z w32 (of_z w32 p.lowest) -ℤ to_z w32 k))

lowest_is : (p : PartialSum) (k : ℕ) (d : ℤ) → SFits w32 p.lowest → SFits w32 d → Lowers p k d → lowest_after p k ≡ p.lowest -ℤ pos k
lowest_is p k d fits column l =
    let room = l.room in
    let reach = l.reach in
    let used = p.used in
    omega (arith, ints)

-- where the column is
module _ (p : PartialSum) (k : ℕ) (d low : ℤ) (fits : SFits w32 p.lowest) (column : SFits w32 d) (l : Lowers p k d) (e : low ≡ p.lowest -ℤ pos k) where
  here : of_z w32 low ≡ of_z w32 d → low ≡ d
  here same = let reach = l.reach in omega (arith, ints, same)

  above : ¬ (of_z w32 low ≡ of_z w32 d) → d <ℤ low
  above other = let reach = l.reach in let apart : ¬ (low ≡ d) = λ same. other (ap (of_z w32) same) in omega (arith, ints)

  apart : d <ℤ low → lt_z (to_z w32 (of_z w32 (to_z w32 (of_z w32 d) +ℤ pos 1))) (to_z w32 (of_z w32 low)) ≡ true → (d +ℤ pos 1) <ℤ low
  apart under test = let reach = l.reach in omega (arith, ints, test)

  beside : d <ℤ low → lt_z (to_z w32 (of_z w32 (to_z w32 (of_z w32 d) +ℤ pos 1))) (to_z w32 (of_z w32 low)) ≡ false → d +ℤ pos 1 ≡ low
  beside under test = let reach = l.reach in omega (arith, ints, test)

-- the carry, as it is worked out
module _ (p : PartialSum) (rest units left t : ℤ) (fits : SFits w64 (slot p 0)) (before : SFits w64 p.rest) (made : SFits w64 rest) (few : nat_abs units ≤ 2 ^ 11) (whole : SFits w64 units) (stays : SFits w64 left) (total : SFits w64 t)
    (joined : rest ≡ scale (to_z w64 (of_z w64 p.rest)) 32 +ℤ to_z w64 (of_z w64 t)) (without : left +ℤ scale (to_z w64 (of_z w64 units)) 32 ≡ to_z w64 (of_z w64 rest)) where
  left_is : to_z w64 (of_z w64 left) +ℤ scale units 32 ≡ scale p.rest 32 +ℤ t
  left_is = omega (arith, ints)

  slot_is : to_z w64 (of_z w64 (to_z w64 (of_z w64 (slot p 0)) +ℤ to_z w64 (of_z w64 units))) ≡ slot p 0 +ℤ units
  slot_is = let small = p.sound.all_totals 0 (omega arith) in omega (arith, ints)

  left_small : nat_abs (to_z w64 (of_z w64 rest) -ℤ scale units 32) ≤ 2 ^ 31 → nat_abs (to_z w64 (of_z w64 left)) ≤ 2 ^ 31
  left_small near = omega (arith, ints)

-- the three ways, as they are worked out
module _ (p : PartialSum) (k : ℕ) (t d : ℤ) (fits : SFits w32 p.lowest) (total : SFits w64 t) (column : SFits w32 d) (a : Absorbs p t d) (o : Appends p d) (m : Lowers p k (to_z w32 (of_z w32 d))) where
  at : to_z w32 (of_z w32 d) ≡ d
  at = to_z-of_z w32 d column

  l : Lowers p k d
  l = subst (Lowers p k) at m

  e : lowest_after p k ≡ p.lowest -ℤ pos k
  e = lowest_is p k d fits column l

  window_way : of_z w32 (lowest_after p k) ≡ of_z w32 d
      → let q : Fields = record { totals = set p.totals (p.from - k) (to_z w64 (of_z w64 t)); from = p.from - k; lowest = lowest_after p k; column = to_z w32 (of_z w32 d); rest = p.rest } in Took p q t d × Sound q
  window_way same = into_window p k t d (lowest_after p k) (to_z w32 (of_z w32 d)) a o l e at (to_z w64 (of_z w64 t)) (here p k d (lowest_after p k) fits column l e same) (to_z-of_z w64 t total)

  module _ (r : ℤ) (rest : SFits w64 p.rest) (made : SFits w64 r) (joined : r ≡ scale (to_z w64 (of_z w64 p.rest)) 32 +ℤ to_z w64 (of_z w64 t)) (other : ¬ (of_z w32 (lowest_after p k) ≡ of_z w32 d)) where
    under : d <ℤ lowest_after p k
    under = above p k d (lowest_after p k) fits column l e other

    rest_way : lt_z (to_z w32 (of_z w32 (to_z w32 (of_z w32 d) +ℤ pos 1))) (to_z w32 (of_z w32 (lowest_after p k))) ≡ true
        → let q : Fields = record { totals = p.totals; from = p.from - k; lowest = lowest_after p k; column = to_z w32 (of_z w32 d); rest = to_z w64 (of_z w64 r) } in Took p q t d × Sound q
    rest_way test =
        into_rest p k t d (lowest_after p k) (to_z w32 (of_z w32 d)) a o l e at (to_z w64 (of_z w64 r)) (apart p k d (lowest_after p k) fits column l e under test) (omega (arith, ints, joined))

    carry_way : (n left : ℤ) → SFits w64 (slot p 0) → SFits w64 n → SFits w64 left → nat_abs n ≤ 2 ^ 11 → nat_abs (to_z w64 (of_z w64 r) -ℤ scale n 32) ≤ 2 ^ 31 → left +ℤ scale (to_z w64 (of_z w64 n)) 32 ≡ to_z w64 (of_z w64 r)
        → lt_z (to_z w32 (of_z w32 (to_z w32 (of_z w32 d) +ℤ pos 1))) (to_z w32 (of_z w32 (lowest_after p k))) ≡ false
        → let q : Fields = record { totals = set p.totals 0 (to_z w64 (of_z w64 (to_z w64 (of_z w64 (slot p 0)) +ℤ to_z w64 (of_z w64 n)))); from = p.from - k; lowest = lowest_after p k; column = to_z w32 (of_z w32 d); rest = to_z w64 (of_z w64 left) } in Took p q t d × Sound q
    carry_way n left slot_fits whole stays few near without test =
        into_rest_and_window p k t d (lowest_after p k) (to_z w32 (of_z w32 d)) a o l e at _ _ n (beside p k d (lowest_after p k) fits column l e under test) few
        (left_small p r n left t slot_fits rest made few whole stays total joined without near)
        (left_is p r n left t slot_fits rest made few whole stays total joined without)
        (slot_is p r n left t slot_fits rest made few whole stays total joined without)

pub invariant_of-self-clause-sound : goal.invariant_of-self-clause-sound
invariant_of-self-clause-sound c =
    let p = c.args.self.now in
    (window_way p c.steps_down_to-steps.result c.args.total c.args.column (search rules) c.ranges.total c.ranges.column c.requires.absorbs c.requires.appends c.steps_down_to-steps.ensures c.if-self-column.true).1

pub returns-then-self-column : goal.returns-then-self-column
returns-then-self-column c =
    let p = c.args.self.now in
    let took = (window_way p c.steps_down_to-steps.result c.args.total c.args.column (search rules) c.ranges.total c.ranges.column c.requires.absorbs c.requires.appends c.steps_down_to-steps.ensures c.if-self-column.true).0 in
    record { value = took.value; at = took.at; no_higher = took.no_higher }

pub invariant_of-self-then-column-self-clause-sound : goal.invariant_of-self-then-column-self-clause-sound
invariant_of-self-then-column-self-clause-sound c =
    let p = c.args.self.now in
    (rest_way p c.steps_down_to-steps.result c.args.total c.args.column (search rules) c.ranges.total c.ranges.column c.requires.absorbs c.requires.appends c.steps_down_to-steps.ensures
    c.joined-rest.result (search rules) (search rules) c.joined-rest.ensures c.if-self-column.false c.if-column-self.true).1

pub returns-then-column-self : goal.returns-then-column-self
returns-then-column-self c =
    let p = c.args.self.now in
    let took = (rest_way p c.steps_down_to-steps.result c.args.total c.args.column (search rules) c.ranges.total c.ranges.column c.requires.absorbs c.requires.appends c.steps_down_to-steps.ensures
    c.joined-rest.result (search rules) (search rules) c.joined-rest.ensures c.if-self-column.false c.if-column-self.true).0 in
    record { value = took.value; at = took.at; no_higher = took.no_higher }

pub overflow_add-self : goal.overflow_add-self
overflow_add-self c =
    let p = c.args.self.now in
    let small = p.sound.all_totals 0 (omega arith) in
    let few = c.nearest_units-units.ensures.few in
    let fits : SFits w64 (slot p 0) = search rules in
    let made : SFits w64 c.nearest_units-units.result = search rules in
    search (rules, small, few)

pub invariant_of-self-2-clause-sound : goal.invariant_of-self-2-clause-sound
invariant_of-self-2-clause-sound c =
    let p = c.args.self.now in
    (carry_way p c.steps_down_to-steps.result c.args.total c.args.column (search rules) c.ranges.total c.ranges.column c.requires.absorbs c.requires.appends c.steps_down_to-steps.ensures
    c.joined-rest.result (search rules) (search rules) c.joined-rest.ensures c.if-self-column.false c.nearest_units-units.result c.without_units-self.result (search rules) (search rules) (search rules) c.nearest_units-units.ensures.few
    c.nearest_units-units.ensures.near c.without_units-self.ensures c.if-column-self.false).1

pub returns : goal.returns
returns c =
    let p = c.args.self.now in
    let took = (carry_way p c.steps_down_to-steps.result c.args.total c.args.column (search rules) c.ranges.total c.ranges.column c.requires.absorbs c.requires.appends c.steps_down_to-steps.ensures
    c.joined-rest.result (search rules) (search rules) c.joined-rest.ensures c.if-self-column.false c.nearest_units-units.result c.without_units-self.result (search rules) (search rules) (search rules) c.nearest_units-units.ensures.few
    c.nearest_units-units.ensures.near c.without_units-self.ensures c.if-column-self.false).0 in
    record { value = took.value; at = took.at; no_higher = took.no_higher }
