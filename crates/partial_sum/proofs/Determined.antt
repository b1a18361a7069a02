-- What an end's sign and magnitude round to is what the numbers at the end round to.
use Rattle.std.proofs.Common.{◌≡◌, ℕ, Bool, true, false, ℤ, pos, Some, None, Option, sym, ◌∙◌, subst, inl, arith}
use borrow.Author.Differences.{ints}
use Rattle.exact.specs.Integers.{gap}
use Rattle.exact.specs.Dyadic.{Dyadic, dyadic, ◌≈ᴰ◌}
use Rattle.exact.proofs.Scaling.{zero_scale, scale_inj}
use Rattle.grid.specs.Rounding.{Mode, rounded}
use Rattle.grid.proofs.Outcomes.{exact}
use Rattle.ends.specs.Directions.{direction_sign}
use Rattle.ends.specs.Outcome.{RoundsAs, Outcome, Undetermined}
use Rattle.ends.specs.declared.direction.Direction.TheVariants.{Exact}
use Rattle.ends.specs.declared.rounded_end.RoundedEnd.{RoundedEnd}
use Rattle.partial_sum.specs.Lying.{Lies}
use Rattle.partial_sum.specs.Ends.{Meant}
use Rattle.partial_sum.specs.Rounded.{RoundedAt}
use Rattle.partial_sum.proofs.Meaning.{stands, borders}

pub as_rounded : (u : ℤ → ℤ) (m : Mode) (s partial : Bool) (n : ℕ) (v w : ℤ) (r : Option RoundedEnd) (a : ℕ) → Meant s partial n v → Outcome u m s partial n w r a → Undetermined u s partial n w r → RoundedAt u m partial v w r a
as_rounded u m s partial n v w None a meant (part, fine) bordered =
    let whole : Meant s true n v = subst (λ (b : Bool). Meant s b n v) part meant in
    let both = borders u s n v w whole bordered in
    (part, record { negative = s; magnitude = n; meant = whole; fine = fine; low = both.0; high = both.1 })
as_rounded u m s partial n v w (Some r) a meant (coarse, (sign, answered)) determined = record {
  limbs = answered.limbs;
  rounds = λ x l. subst (λ (b : Bool). RoundsAs u m x b r.extent a (direction_sign r.direction)) (sym sign) (answered.rounds x (stands s partial n v w x meant l));
}

-- ---- 0
none_there : (w : ℤ) (x : Dyadic) → x ≈ᴰ dyadic (pos 0) w → x.count ≡ pos 0
none_there w x e = scale_inj x.count (pos 0) (gap x.weight w) (e ∙ zero_scale (gap w x.weight) ∙ sym (zero_scale (gap x.weight w)))

none_rounds : (u : ℤ → ℤ) (m : Mode) (x : Dyadic) (a : ℕ) → x.count ≡ pos 0 → RoundsAs u m x false None a (pos 0)
unfolding rounded
none_rounds u m x a none = grind (arith, ints, exact u m x (inl none))

pub nothing_rounds : (u : ℤ → ℤ) (m : Mode) (s partial : Bool) (n : ℕ) (v w : ℤ) (a : ℕ) → partial ≡ false → n ≡ 0 → a ≡ 0
    → Meant s partial n v → RoundedAt u m partial v w (Some (record { negative = false; direction = Exact; extent = None })) a
nothing_rounds u m s partial n v w a whole none empty meant =
    let z : v ≡ pos 0 = grind (arith, ints) in
    record {
      limbs = empty;
      rounds = λ x l. none_rounds u m x a (none_there w x (subst (λ (y : ℤ). x ≈ᴰ dyadic y w) z (subst (λ (b : Bool). Lies b v w x) whole l)));
    }
