-- Downward and upward give the neighbours of a number.
use Rattle.std.proofs.Common.{ℤ, sym, inl, inr}
use Rattle.exact.specs.Integers.{gap, lesser}
use Rattle.exact.specs.Dyadic.{Dyadic, at, ◌≤ᴰ◌}
use Rattle.exact.proofs.Scaling.{scale_mono, lesser_low}
use Rattle.exact.proofs.Order.{at_le, le_at, ≤ᴰ_refl, ≤ᴰ_antisymm, ≤ᴰ_trans, ≤ᴰ_of_≈, ≤ᴰ_total, <ᴰ_not_≥, <ᴰ_of_not_≥}
use Rattle.grid.specs.Rounding.{downward, upward, rounded, OnGrid}
use Rattle.grid.specs.Neighbours.{Lower, Upper}
use Rattle.grid.specs.Claims.{Neighbouring, Enclosed}
use Rattle.grid.proofs.Everywhere.{LawsEverywhere}
use Rattle.grid.proofs.Integers.{down_on, down_le, down_greatest, up_on, up_ge, up_least}
use Rattle.grid.proofs.Dyadics.{spacing_at, laws_at, at_rounded, on_at}
use Rattle.grid.proofs.Members.{divided_on_grid, on_grid_divided, on_grid_≈}

module _ (u : ℤ → ℤ) (S : LawsEverywhere u) (x : Dyadic) where
  downward_on : OnGrid u (rounded u downward x).value
  unfolding rounded
  downward_on = divided_on_grid u (rounded u downward x).value (down_on (spacing_at u x.weight) (laws_at u S x.weight) x.count)

  downward_le : (rounded u downward x).value ≤ᴰ x
  unfolding rounded
  downward_le = scale_mono (rounded u downward x).value.count x.count (gap x.weight x.weight) (down_le (spacing_at u x.weight) (laws_at u S x.weight) x.count)

  downward_greatest : (g : Dyadic) → OnGrid u g → g ≤ᴰ x → g ≤ᴰ (rounded u downward x).value
  unfolding rounded
  downward_greatest g o l =
      let z = lesser g.weight x.weight in
      let (a, b) = lesser_low g.weight x.weight in
      le_at z g (rounded u downward x).value a b
      (rw (at_rounded u downward z x b) (down_greatest (spacing_at u z) (laws_at u S z) (at z x) (at z g) (on_at u z g a (on_grid_divided u g o)) (at_le z g x a b l)))

  pub lower : Lower u x (rounded u downward x).value
  lower = record { on = downward_on; at_most = downward_le; greatest = downward_greatest }

  upward_on : OnGrid u (rounded u upward x).value
  unfolding rounded
  upward_on = divided_on_grid u (rounded u upward x).value (up_on (spacing_at u x.weight) (laws_at u S x.weight) x.count)

  upward_ge : x ≤ᴰ (rounded u upward x).value
  unfolding rounded
  upward_ge = scale_mono x.count (rounded u upward x).value.count (gap x.weight x.weight) (up_ge (spacing_at u x.weight) (laws_at u S x.weight) x.count)

  upward_least : (g : Dyadic) → OnGrid u g → x ≤ᴰ g → (rounded u upward x).value ≤ᴰ g
  unfolding rounded
  upward_least g o l =
      let z = lesser g.weight x.weight in
      let (a, b) = lesser_low g.weight x.weight in
      le_at z (rounded u upward x).value g b a
      (rw (at_rounded u upward z x b) (up_least (spacing_at u z) (laws_at u S z) (at z x) (at z g) (on_at u z g a (on_grid_divided u g o)) (at_le z x g b a l)))

  pub upper : Upper u x (rounded u upward x).value
  upper = record { on = upward_on; at_least = upward_ge; least = upward_least }

-- what lower and upper neighbours are, of any number
module _ (u : ℤ → ℤ) (x lo hi : Dyadic) (L : Lower u x lo) (U : Upper u x hi) where
  pub neighbouring : Neighbouring u lo x hi
  neighbouring = record {
    lower_on = L.on;
    upper_on = U.on;
    lower = L.at_most;
    upper = U.at_least;
    none_between = λ g o above below. elim (≤ᴰ_total g x) [
      | inl l ↦ <ᴰ_not_≥ lo g above (L.greatest g o l)
      | inr l ↦ <ᴰ_not_≥ g hi below (U.least g o l)
    ];
  }

  pub enclosed : Enclosed u x lo hi
  enclosed = record {
    agree = λ o. ≤ᴰ_antisymm lo hi (≤ᴰ_trans lo x hi L.at_most U.at_least) (≤ᴰ_trans hi x lo (U.least x o x≤x) (L.greatest x o x≤x));
    agreed = λ e. on_grid_≈ u lo x (≤ᴰ_antisymm lo x L.at_most (≤ᴰ_trans x hi lo U.at_least (≤ᴰ_of_≈ hi lo (sym e)))) L.on;
    lower = λ n. (L, <ᴰ_of_not_≥ lo x (λ l. n (on_grid_≈ u lo x (≤ᴰ_antisymm lo x L.at_most l) L.on)));
    upper = λ n. (U, <ᴰ_of_not_≥ x hi (λ l. n (on_grid_≈ u hi x (≤ᴰ_antisymm hi x l U.at_least) U.on)));
  }
    where
      x≤x : x ≤ᴰ x
      x≤x = ≤ᴰ_refl x
