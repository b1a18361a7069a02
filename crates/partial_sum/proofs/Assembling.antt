-- What rounding the two ends one by one says of both.
use Rattle.std.proofs.Common.{◌≡◌, ℕ, ◌^◌, ◌≤◌, Bool, true, false, ℤ, pos, ◌+ℤ◌, nat_abs, ◌<ℤ◌, Some, None, Option, sym, refl, ◌∙◌, subst, arith}
use Rattle.std.proofs.lemmas.Bool.{false≢true}
use borrow.Author.Differences.{ints}
use Rattle.std.proofs.lemmas.Int.{by_lt_z}
use Rattle.exact.specs.Integers.{scale}
use Rattle.exact.proofs.Scaling.{zero_scale}
use Rattle.batch.specs.Term.{column_weight}
use Rattle.grid.specs.Spacing.{Lawful}
use Rattle.grid.specs.Rounding.{Mode, rounded, Alike}
use Rattle.grid.proofs.Everywhere.{laws_everywhere}
use Rattle.grid.proofs.Monotone.{congruent}
use Rattle.ends.specs.declared.rounded_end.RoundedEnd.{RoundedEnd}
use Rattle.partial_sum.specs.Lying.{Lies}
use Rattle.partial_sum.specs.Limits.{drop_between, InReach}
use Rattle.partial_sum.specs.Holding.{fields, window}
use Rattle.partial_sum.specs.Ends.{lower_number, upper_number, LiesAt, Reached}
use Rattle.partial_sum.specs.Rounded.{Uncertain, Certain, Undecided, Decided}
use Rattle.partial_sum.specs.declared.sum.PartialSum.{PartialSum}
use Rattle.partial_sum.specs.declared.end.WindowEnd.{WindowEnd}
use Rattle.partial_sum.proofs.Placing.{lies_once}
use Rattle.partial_sum.proofs.Ending.{in_column}
use Rattle.partial_sum.proofs.Deciding.{full_determined, end_number, ends_apart}
use Rattle.partial_sum.proofs.Unique.{same_from_alike, alike_from_same}
use Rattle.partial_sum.proofs.Resting.{rest_few, rest_none}

module _ (u : ℤ → ℤ) (W : ℕ) (L : Lawful u W) (m : Mode) (p : PartialSum) (reach : InReach p.lowest) (n : ℕ) where
  -- closed or open
  by_window : {P : Type 0} → (p.column <ℤ p.lowest → P) → (p.column ≡ p.lowest → P) → P
  by_window closed here = by_lt_z p.column p.lowest closed (λ l. here (let o = p.sound.shaped.order in omega (arith, ints)))

  nothing_left : p.column ≡ p.lowest → nat_abs p.rest ≤ 1024
  nothing_left here = let z = p.sound.shaped.open_rest here in omega (arith, ints)

  rest_whole : p.column ≡ p.lowest → p.rest ≡ scale (pos 0) (drop_between p.lowest p.column)
  rest_whole here = p.sound.shaped.open_rest here ∙ sym (zero_scale (drop_between p.lowest p.column))

  -- both ends without a column below are a whole number of units
  last_whole : (upper : Bool) → p.column ≡ p.lowest → LiesAt p record { offset = pos 0; partial = false } (end_number upper p n None)
  last_whole false here = in_column p record { offset = pos 0; partial = false } (pos 0) p.column p.rest refl (rest_whole here) (omega (arith, ints))
  last_whole true here = in_column p record { offset = pos 0; partial = false } (pos 0) p.column p.rest refl (rest_whole here) (omega (arith, ints))

  pub undecided_at : (upper : Bool) (below : Option ℤ) → Reached p n below → (e : WindowEnd) → nat_abs e.offset ≤ 2 ^ 44 → LiesAt p e (end_number upper p n below) → (e.partial ≡ true) × Uncertain u (window p +ℤ e.offset) (column_weight p.lowest) → Undecided u m p n below
  undecided_at upper None reached e few lies (part, uncertain) =
      by_window (λ closed. absurd (full_determined u W L p e.offset closed reach few uncertain))
      (λ here.
      (let w = column_weight p.lowest in
      false≢true (lies_once false (window p +ℤ pos 0) (window p +ℤ e.offset) w (end_number upper p n None) (last_whole upper here) (subst (λ (b : Bool). Lies b (window p +ℤ e.offset) w (end_number upper p n None)) part lies)).0))
  undecided_at upper (Some d) reached e few lies (part, uncertain) =
      by_window (λ closed. absurd (full_determined u W L p e.offset closed reach few uncertain))
      (λ here. record {
        apart = ends_apart u (laws_everywhere u W L) m p here n d reached upper (window p +ℤ e.offset) (subst (λ (b : Bool). Lies b (window p +ℤ e.offset) (column_weight p.lowest) (end_number upper p n (Some d))) part lies) uncertain;
        rest_few = nothing_left here;
        rest_none = λ _. p.sound.shaped.open_rest here;
      })

  module _ (below : Option ℤ) (reached : Reached p n below) (e f : WindowEnd) (lower : LiesAt p e (lower_number p n below)) (upper : LiesAt p f (upper_number p n below)) (r q : RoundedEnd) (a b : ℕ)
      (one : Certain u m e.partial (window p +ℤ e.offset) (column_weight p.lowest) r a) where
    module _ (two : Certain u m f.partial (window p +ℤ f.offset) (column_weight p.lowest) q b) where
      pub decided : r ≡ q → a ≡ b → Decided u m p n below r a
      decided fields limbs = record {
        alike = alike_from_same u m e.partial f.partial (window p +ℤ e.offset) (window p +ℤ f.offset) (column_weight p.lowest) r q a b (lower_number p n below) (upper_number p n below) one two lower upper fields limbs;
        limbs = one.limbs;
        rounds = one.rounds (lower_number p n below) lower;
      }

      pub apart_where_differ : ¬ ((r ≡ q) × (a ≡ b)) → ¬ Alike (rounded u m (lower_number p n below)) (rounded u m (upper_number p n below))
      apart_where_differ differ alike = differ (same_from_alike u m e.partial f.partial (window p +ℤ e.offset) (window p +ℤ f.offset) (column_weight p.lowest) r q a b (lower_number p n below) (upper_number p n below) one two lower upper alike)

  pub decided_at_once : (below : Option ℤ) → Reached p n below → (e f : WindowEnd) → LiesAt p e (lower_number p n below) → LiesAt p f (upper_number p n below) → (r : RoundedEnd) (a : ℕ) → Certain u m e.partial (window p +ℤ e.offset) (column_weight p.lowest) r a
      → e ≡ f → Decided u m p n below r a
  decided_at_once below reached e f lower upper r a one same =
      decided below reached e e lower (subst (λ (g : WindowEnd). LiesAt p g (upper_number p n below)) (sym same) upper) r r a a one one refl refl

  pub undecided : (below : Option ℤ) → Reached p n below → (e f : WindowEnd) → LiesAt p e (lower_number p n below) → LiesAt p f (upper_number p n below) → (r q : RoundedEnd) (a b : ℕ)
      → Certain u m e.partial (window p +ℤ e.offset) (column_weight p.lowest) r a → Certain u m f.partial (window p +ℤ f.offset) (column_weight p.lowest) q b
      → ¬ (e ≡ f) → ¬ ((r ≡ q) × (a ≡ b)) → Undecided u m p n below
  undecided None reached e f lower upper r q a b one two ends answers =
      apart_where_differ None reached e f lower upper r q a b one two answers (congruent u (laws_everywhere u W L) m (lower_number p n None) (upper_number p n None) refl)
  undecided (Some d) reached e f lower upper r q a b one two ends answers = record {
    apart = apart_where_differ (Some d) reached e f lower upper r q a b one two answers;
    rest_few = by_window (λ closed. rest_few p n d closed reached e f lower upper ends) nothing_left;
    rest_none = λ far. by_window (λ closed. rest_none p n d closed reached e f lower upper ends far) (λ here. p.sound.shaped.open_rest here);
  }
