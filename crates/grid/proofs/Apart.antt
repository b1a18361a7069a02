-- A grid number strictly between two numbers keeps them from rounding alike.
use Rattle.std.proofs.Common.{◌≡◌, ℤ, pos, negsuc, sym, ◌∙◌, subst, arith}
use borrow.Author.Differences.{ints}
use Rattle.exact.specs.Dyadic.{Dyadic, ◌≤ᴰ◌, ◌<ᴰ◌}
use Rattle.exact.proofs.Order.{≤ᴰ_trans, ≤ᴰ_of_≈, ≈ᴰ_sym, <ᴰ_≤ᴰ_trans, <ᴰ_not_≥, <ᴰ_of_not_≥}
use Rattle.grid.specs.Rounding.{Mode, rounded, OnGrid, Alike}
use Rattle.grid.proofs.Everywhere.{LawsEverywhere}
use Rattle.grid.proofs.Monotone.{monotone}
use Rattle.grid.proofs.Outcomes.{exact, direction}

module _ (u : ℤ → ℤ) (S : LawsEverywhere u) (m : Mode) where
  -- what lies below a grid number rounds to it at most, and what lies above it at least
  pub rounded_≤_grid : (a p : Dyadic) → OnGrid u p → a ≤ᴰ p → (rounded u m a).value ≤ᴰ p
  rounded_≤_grid a p on l = subst (λ (v : Dyadic). (rounded u m a).value ≤ᴰ v) (exact u m p on).0 (monotone u S m a p l)

  pub grid_≤_rounded : (p b : Dyadic) → OnGrid u p → p ≤ᴰ b → p ≤ᴰ (rounded u m b).value
  grid_≤_rounded p b on l = subst (λ (v : Dyadic). v ≤ᴰ (rounded u m b).value) (exact u m p on).0 (monotone u S m p b l)

  <ᴰ_weaker : (x y : Dyadic) → x <ᴰ y → x ≤ᴰ y
  <ᴰ_weaker x y l = omega (arith, ints)

  pub apart : (a p b : Dyadic) → OnGrid u p → a <ᴰ p → p <ᴰ b → ¬ Alike (rounded u m a) (rounded u m b)
  apart a p b on below above same =
      let va = (rounded u m a).value in
      let vb = (rounded u m b).value in
      let from : p ≤ᴰ vb = grid_≤_rounded p b on (<ᴰ_weaker p b above) in
      let upto : va ≤ᴰ p = rounded_≤_grid a p on (<ᴰ_weaker a p below) in
      -- both answers are the grid number, so one lies above its number and one below
      let a_up : a <ᴰ va = <ᴰ_≤ᴰ_trans a p va below (≤ᴰ_trans p vb va from (≤ᴰ_of_≈ vb va (≈ᴰ_sym va vb same.values))) in
      let b_down : vb <ᴰ b = <ᴰ_of_not_≥ vb b (λ (g : b ≤ᴰ vb). <ᴰ_not_≥ p b above (≤ᴰ_trans b vb p g (≤ᴰ_trans vb va p (≤ᴰ_of_≈ vb va (≈ᴰ_sym va vb same.values)) upto))) in
      let up : (rounded u m a).direction ≡ pos 1 = (direction u m a).above a_up in
      let down : (rounded u m b).direction ≡ negsuc 0 = (direction u m b).below b_down in
      let clash : pos 1 ≡ negsuc 0 = sym up ∙ same.directions ∙ down in
      omega (arith, ints)
