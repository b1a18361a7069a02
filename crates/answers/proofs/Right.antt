-- Every answer lies where it should, and has the depth that it should.
use Rattle.std.proofs.Common.{◌≡◌, ℕ, Bool, true, false, ◌⊎◌, List, [], ◌∷◌, ℤ, pos, sym, refl, ◌∙◌, subst, inl, inr, arith}
use borrow.Author.Differences.{ints}
use Rattle.exact.specs.Dyadic.{Dyadic, ◌≤ᴰ◌, ◌<ᴰ◌, ◌≈ᴰ◌, distance}
use Rattle.exact.proofs.Order.{<ᴰ_not_≥}
use Rattle.grid.specs.Spacing.{Lawful}
use Rattle.grid.specs.Rounding.{Mode, nearest, rounded, OnGrid}
use Rattle.grid.specs.Claims.{Toward}
use Rattle.grid.proofs.Theorems.{right, distance as close, monotone, direction}
use Rattle.grid.proofs.Outcomes.{exact}
use Rattle.grid.proofs.Members.{on_grid_≈}
use Rattle.column.specs.Parts.{Part, Regular}
use Rattle.column.specs.PartsOf.{parts_of}
use Rattle.column.specs.Columns.{columns}
use Rattle.column.specs.Depth.{depth}
use Rattle.column.proofs.Counting.{parts_regular}
use Rattle.column.proofs.Depths.{depth_exists, depth_of_none}
use Rattle.answers.specs.Published.{Published, is_zero, answer}
use Rattle.answers.specs.Laws.{answer_value, sum_asked, one_spacing, half_spacing, Near, Deep, AnswersRight}
use Rattle.answers.proofs.Equals.{le_left, le_right, lt_left, distance_≈, wanted_≈, wanted_on, toward_≈}
use Rattle.answers.proofs.Made.{Made, answer_made, zero_count, nonzero_count}
use Rattle.answers.proofs.Asked.{when_answered}

-- ---- distance
module _ (u : ℤ → ℤ) (W : ℕ) (L : Lawful u W) (m : Mode) (x v : Dyadic) (e : v ≈ᴰ (rounded u m x).value) where
  abbrev w : Dyadic
  w = (rounded u m x).value

  -- 0 rounds to itself
  zero_exact : x.count ≡ pos 0 → v ≈ᴰ x
  zero_exact z = subst (λ (y : Dyadic). v ≈ᴰ y) (exact u m x (inl z)).0 e

  within : (b : Bool) → is_zero x ≡ b → (v ≈ᴰ x) ⊎ (distance v x <ᴰ one_spacing u x)
  within true z = inl (zero_exact (zero_count x z))
  within false z = inr (lt_left (distance w x) (distance v x) (distance_≈ w v (sym e) x) (one_spacing u x) ((close u W L x (nonzero_count x z)).spacing m))

  half : (b : Bool) → is_zero x ≡ b → m ≡ nearest → (v ≈ᴰ x) ⊎ (distance v x ≤ᴰ half_spacing u x)
  half true z n = inl (zero_exact (zero_count x z))
  half false z n =
      let f : v ≈ᴰ (rounded u nearest x).value = subst (λ (k : Mode). v ≈ᴰ (rounded u k x).value) n e in
      let y = (rounded u nearest x).value in
      inr (le_left (distance y x) (distance v x) (distance_≈ y v (sym f) x) (half_spacing u x) (close u W L x (nonzero_count x z)).half)

  -- a grid number on one side of x rounds to itself, and so lies on the same side of what x rounds to
  none_above : (g : Dyadic) → OnGrid u g → v <ᴰ g → ¬ (g <ᴰ x)
  none_above g o l h =
      let k : g ≤ᴰ w = subst (λ (y : Dyadic). y ≤ᴰ w) (exact u m g o).0 (monotone u W L m g x (omega (arith, ints))) in
      <ᴰ_not_≥ v g l (le_right w v (sym e) g k)

  none_below : (g : Dyadic) → OnGrid u g → x <ᴰ g → ¬ (g <ᴰ v)
  none_below g o l h =
      let k : w ≤ᴰ g = subst (λ (y : Dyadic). w ≤ᴰ y) (exact u m g o).0 (monotone u W L m x g (omega (arith, ints))) in
      <ᴰ_not_≥ g v h (le_left w v (sym e) g k)

  pub near : (d : ℤ) → d ≡ (rounded u m x).direction → Near u m x v d
  near d f = record {
    on_grid = on_grid_≈ u w v (sym e) (wanted_on u m x w (right u W L m x));
    wanted = wanted_≈ u x w v (sym e) m (right u W L m x);
    within = within (is_zero x) refl;
    half = half (is_zero x) refl;
    none_above = none_above;
    none_below = none_below;
    direction = toward_≈ u x w v (sym e) d (subst (λ (k : ℤ). Toward k w x) (sym f) (direction u W L m x));
  }

-- ---- depth
deep_of : (u : ℤ → ℤ) (m : Mode) (ps : List Part) → Regular ps → Deep u m ps (depth u m ps)
unfolding columns
deep_of u m [] s = grind (arith, ints, depth_of_none)
deep_of u m (p ∷ ps) s = grind (arith, ints, depth_exists u m p ps s)

-- ---- both, of the answer to a question
pub answers_right : AnswersRight
answers_right marks q a p e f m n =
    let k = when_answered marks q a e in
    let u = q.spacing in
    let ps = parts_of marks q.terms in
    let same : k.mode ≡ m = let t = sym k.numbered ∙ n in cc in
    let made : Made (rounded u m (sum_asked marks q)) (depth u m ps) a =
    subst (λ (b : Published). Made (rounded u m (sum_asked marks q)) (depth u m ps) b) (subst (λ (j : Mode). answer marks q.terms u j q.limbs ≡ a) same k.is)
    (answer_made u q.width p.lawful m marks q.terms p.batchable q.limbs k.room f) in
    record {
      near = near u q.width p.lawful m (sum_asked marks q) (answer_value a) made.value a.direction made.direction;
      deep = subst (Deep u m ps) (sym made.depth) (deep_of u m ps (parts_regular marks 0 q.terms p.batchable.each_limited));
    }
