-- Sums, negations and distances of dyadic numbers, as counts at one weight.
use Rattle.std.proofs.Common.{◌≡◌, List, [], ◌∷◌, ℤ, pos, ◌+ℤ◌, ◌-ℤ◌, neg_ℤ, nat_abs, ◌≤ℤ◌, sym, ap, ◌∙◌, ap₂, arith}
use lib.IntN.{+ℤ_comm, +ℤ_assoc}
use borrow.Author.Differences.{ints}
use Rattle.exact.specs.Integers.{gap, lesser}
use Rattle.exact.specs.Dyadic.{Dyadic, dyadic, at, ◌≤ᴰ◌, ◌≈ᴰ◌, plus, negation, magnitude, distance, total}
use Rattle.exact.proofs.Scaling.{scale_plus, lesser_low}
use Rattle.exact.proofs.Order.{at_le, le_at, same_at, at_at}

pub at_plus : (z : ℤ) (x y : Dyadic) → z ≤ℤ x.weight → z ≤ℤ y.weight → at z (plus x y) ≡ at z x +ℤ at z y
at_plus z x y h g =
    let v = lesser x.weight y.weight in
    let b = lesser_low x.weight y.weight in
    let l : z ≤ℤ v = omega (arith, ints) in
    scale_plus (at v x) (at v y) (gap v z) ∙ ap₂ ◌+ℤ◌ (at_at z v x l b.0) (at_at z v y l b.1)

pub at_negation : (z : ℤ) (x : Dyadic) → at z (negation x) ≡ neg_ℤ (at z x)
at_negation z x = grind (arith, ints)

pub at_magnitude : (z : ℤ) (x : Dyadic) → at z (magnitude x) ≡ pos (nat_abs (at z x))
at_magnitude z x = grind (arith, ints)

pub at_distance : (z : ℤ) (x y : Dyadic) → z ≤ℤ x.weight → z ≤ℤ y.weight → at z (distance x y) ≡ pos (nat_abs (at z x -ℤ at z y))
at_distance z x y h g =
    at_magnitude z (plus x (negation y)) ∙ ap (λ (n : ℤ). pos (nat_abs n)) (at_plus z x (negation y) h g ∙ ap (λ (n : ℤ). at z x +ℤ n) (at_negation z y))

-- ---- the laws of sums
pub plus_comm : (x y : Dyadic) → plus x y ≈ᴰ plus y x
plus_comm x y =
    let z = lesser x.weight y.weight in
    let (h, g) = lesser_low x.weight y.weight in
    same_at z (plus x y) (plus y x) (omega (arith, ints)) (omega (arith, ints)) (at_plus z x y h g ∙ +ℤ_comm (at z x) (at z y) ∙ sym (at_plus z y x g h))

pub plus_assoc : (x y w : Dyadic) → plus (plus x y) w ≈ᴰ plus x (plus y w)
plus_assoc x y w =
    let z = lesser (lesser x.weight y.weight) w.weight in
    let X : z ≤ℤ x.weight = omega (arith, ints) in
    let Y : z ≤ℤ y.weight = omega (arith, ints) in
    let W : z ≤ℤ w.weight = omega (arith, ints) in
    let XY : z ≤ℤ (plus x y).weight = omega (arith, ints) in
    let YW : z ≤ℤ (plus y w).weight = omega (arith, ints) in
    let left : at z (plus (plus x y) w) ≡ (at z x +ℤ at z y) +ℤ at z w = at_plus z (plus x y) w XY W ∙ ap (λ (n : ℤ). n +ℤ at z w) (at_plus z x y X Y) in
    let right : at z (plus x (plus y w)) ≡ at z x +ℤ (at z y +ℤ at z w) = at_plus z x (plus y w) X YW ∙ ap (λ (n : ℤ). at z x +ℤ n) (at_plus z y w Y W) in
    same_at z (plus (plus x y) w) (plus x (plus y w)) (omega (arith, ints)) (omega (arith, ints)) (left ∙ +ℤ_assoc (at z x) (at z y) (at z w) ∙ sym right)

pub plus_mono : (x y a b : Dyadic) → x ≤ᴰ a → y ≤ᴰ b → plus x y ≤ᴰ plus a b
plus_mono x y a b h g =
    let z = lesser (lesser x.weight y.weight) (lesser a.weight b.weight) in
    let X : z ≤ℤ x.weight = omega (arith, ints) in
    let Y : z ≤ℤ y.weight = omega (arith, ints) in
    let A : z ≤ℤ a.weight = omega (arith, ints) in
    let B : z ≤ℤ b.weight = omega (arith, ints) in
    let p = at_le z x a X A h in
    let q = at_le z y b Y B g in
    let e = at_plus z x y X Y in
    let f = at_plus z a b A B in
    le_at z (plus x y) (plus a b) (omega (arith, ints)) (omega (arith, ints)) (rw (e, f) (omega (arith, ints)))

pub plus_negation : (x : Dyadic) → plus x (negation x) ≈ᴰ dyadic (pos 0) (pos 0)
plus_negation x = grind (arith, ints)

pub plus_zero : (x : Dyadic) (w : ℤ) → plus x (dyadic (pos 0) w) ≈ᴰ x
plus_zero x w = grind (arith, ints)

-- ---- a sum of many, at a weight below all of them
abbrev pub BelowAll : ℤ → List Dyadic → Type 0
BelowAll z [] = z ≤ℤ pos 0
BelowAll z (x ∷ xs) = (z ≤ℤ x.weight) × BelowAll z xs

abbrev pub total_at : ℤ → List Dyadic → ℤ
total_at z [] = pos 0
total_at z (x ∷ xs) = at z x +ℤ total_at z xs

-- a weight up to the sum's is up to all of them
pub below_all : (z : ℤ) (xs : List Dyadic) → z ≤ℤ (total xs).weight → BelowAll z xs
unfolding total
below_all z [] h = h
below_all z (x ∷ xs) h = (omega (arith, ints), below_all z xs (omega (arith, ints)))

pub total_above : (z : ℤ) (xs : List Dyadic) → BelowAll z xs → z ≤ℤ (total xs).weight
unfolding total
total_above z [] h = h
total_above z (x ∷ xs) (h, g) = let i = total_above z xs g in omega (arith, ints)

pub at_total : (z : ℤ) (xs : List Dyadic) → BelowAll z xs → at z (total xs) ≡ total_at z xs
unfolding total
at_total z [] h = omega (arith, ints)
at_total z (x ∷ xs) (h, g) = at_plus z x (total xs) h (total_above z xs g) ∙ ap (λ (n : ℤ). at z x +ℤ n) (at_total z xs g)
