-- The term of a scaled record: n * 2 ^ s.
use Rattle.std.specs.Prelude.{zero, suc, ◌^◌, true, false, List, [], ◌∷◌, ℤ, pos, negsuc, neg_ℤ, ◌≤ℤ◌, ◌<ℤ◌, refl}
use Rattle.std.proofs.Common.{arith, lit≤}
use Rattle.std.proofs.lemmas.Int.{ints}
use Rattle.batch.specs.Term.{Term, Limited, signed_zero, regular}
use Rattle.list_batch.specs.declared.scaled.Scaled.{Scaled}
use Rattle.list_batch.specs.Lists.{LawfulRecord}
use Rattle.list_batch.specs.Rows.{word_limits}

-- n * 2 ^ s, and +0 where n is 0; `negsuc n` is the number -(n + 1)
abbrev pub scaled_term : ℤ → ℤ → Term
scaled_term (pos zero) s = signed_zero false
scaled_term (pos (suc n)) s = regular false (suc n) s
scaled_term (negsuc n) s = regular true (suc n) s

-- the one term of a scaled record
abbrev pub scaled_parts : Scaled → List Term
scaled_parts x = scaled_term x.count x.scale ∷ []

limited_scaled : (n s : ℤ) → neg_ℤ (pos (2 ^ 63)) ≤ℤ n → n <ℤ pos (2 ^ 63) → neg_ℤ (pos (2 ^ 15)) ≤ℤ s → s <ℤ pos (2 ^ 15) → Limited (scaled_term n s)
limited_scaled (pos zero) s a b c d = tt
limited_scaled (pos (suc n)) s a b c d = word_limits (suc n) s (omega arith) (omega (arith, ints, b)) (omega (arith, ints)) (omega (arith, ints))
limited_scaled (negsuc n) s a b c d = word_limits (suc n) s (omega arith) (omega (arith, ints, a)) (omega (arith, ints)) (omega (arith, ints))

pub scaled_lawful : LawfulRecord 1 scaled_parts
scaled_lawful = record {
  some = lit≤ tt;
  few = lit≤ tt;
  even = λ x. refl;
  each_limited = λ x. (limited_scaled x.count x.scale x.fits.0 x.fits.1 x.fits.2 x.fits.3, tt);
}
