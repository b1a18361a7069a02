-- A lawful spacing keeps the laws at every exponent, since beyond the range it answers as at the nearer end.
use Rattle.std.proofs.Common.{◌≡◌, ℕ, ℤ, pos, ◌+ℤ◌, ◌≤ℤ◌, ◌<ℤ◌, sym, ap, ◌∙◌, arith}
use borrow.Author.Differences.{ints}
use Rattle.std.proofs.lemmas.Int.{by_lt_z, clamps}
use Rattle.grid.specs.Spacing.{lowest, highest, InRange, nearest_end, Lawful}

pub record LawsEverywhere (u : ℤ → ℤ) : Type 0 where
  pub rises : (e : ℤ) → u e ≤ℤ u (e +ℤ pos 1)
  pub inside : (e : ℤ) → u e <ℤ e → u (e +ℤ pos 1) ≤ℤ e
  pub flat : (e f : ℤ) → e ≤ℤ u e → f ≤ℤ (u e +ℤ pos 1) → u f ≡ u e

pub nearest_end_low : (e : ℤ) → e ≤ℤ lowest → nearest_end e ≡ lowest
nearest_end_low e h = omega (arith, ints, clamps)

pub nearest_end_high : (e : ℤ) → highest ≤ℤ e → nearest_end e ≡ highest
nearest_end_high e h = omega (arith, ints, clamps)

pub laws_everywhere : (u : ℤ → ℤ) (W : ℕ) → Lawful u W → LawsEverywhere u
laws_everywhere u W L = record { rises = rises'; inside = inside'; flat = flat' }
  where
    at_low : (e : ℤ) → e ≤ℤ lowest → u e ≡ u lowest
    at_low e h = L.ends e ∙ ap u (nearest_end_low e h)

    at_high : (e : ℤ) → highest ≤ℤ e → u e ≡ u highest
    at_high e h = L.ends e ∙ ap u (nearest_end_high e h)

    -- below the range, in it, above it
    by_range : {P : Type 0} (e : ℤ) → (e <ℤ lowest → P) → (InRange e → P) → (highest <ℤ e → P) → P
    by_range e a b c = by_lt_z e lowest a (λ l. by_lt_z highest e c (λ g. b record { from = l; upto = g }))

    rises' : (e : ℤ) → u e ≤ℤ u (e +ℤ pos 1)
    rises' e =
        by_range e
        (λ l. let a = at_low e (omega (arith, ints)) in let b = at_low (e +ℤ pos 1) (omega (arith, ints)) in omega (arith, ints))
        (L.rises e)
        (λ l. let a = at_high e (omega (arith, ints)) in let b = at_high (e +ℤ pos 1) (omega (arith, ints)) in omega (arith, ints))

    inside' : (e : ℤ) → u e <ℤ e → u (e +ℤ pos 1) ≤ℤ e
    inside' e h =
        by_range e
        (λ l. let a = at_low e (omega (arith, ints)) in let b = at_low (e +ℤ pos 1) (omega (arith, ints)) in omega (arith, ints))
        (λ r. L.inside e r h)
        (λ l. let a = at_high e (omega (arith, ints)) in let b = at_high (e +ℤ pos 1) (omega (arith, ints)) in omega (arith, ints))

    flat' : (e f : ℤ) → e ≤ℤ u e → f ≤ℤ (u e +ℤ pos 1) → u f ≡ u e
    flat' e f h g =
        by_range e
        (λ l.
        let a = at_low e (omega (arith, ints)) in
        by_lt_z (u lowest) lowest
        (λ b. at_low f (omega (arith, ints)) ∙ sym a)
        (λ b. L.flat lowest record { from = omega (arith, ints); upto = omega (arith, ints) } b f (omega (arith, ints)) ∙ sym a))
        (λ r. L.flat e r h f g)
        (λ l.
        let a = at_high e (omega (arith, ints)) in
        let b = L.below highest record { from = omega (arith, ints); upto = omega (arith, ints) } in
        absurd (omega (arith, ints)))
