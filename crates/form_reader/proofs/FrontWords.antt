-- Words that stand first: bytes that pass a test, up to one that does not.
use Rattle.std.proofs.Common.{◌≡◌, ℕ, zero, suc, Bool, true, false, List, [], ◌∷◌, ◌++◌, take, drop, sym, refl, subst, inl, inr, arith}
use Rattle.std.specs.List.{AllByRecursion, prefix_len}
use Rattle.std.proofs.lemmas.Bool.{cases_Bool}

-- each byte passes
abbrev pub Pass : (ℕ → Bool) → List ℕ → Type 0
Pass p w = AllByRecursion (λ b. p b ≡ true) w

-- no byte stands first that passes
abbrev pub Stops : (ℕ → Bool) → List ℕ → Type 0
Stops p [] = Unit {0}
Stops p (x ∷ xs) = p x ≡ false

-- no byte both passes and does not
pub Pass-not-Stops : {X : Type 0} (p : ℕ → Bool) (x : ℕ) → p x ≡ true → p x ≡ false → X
Pass-not-Stops p x e f = absurd cc

-- a byte that passes is counted
prefix_len-pass : (p : ℕ → Bool) (x : ℕ) (xs : List ℕ) → p x ≡ true → prefix_len p (x ∷ xs) ≡ suc (prefix_len p xs)
prefix_len-pass p x xs e = rw e (omega arith)

-- one that does not ends the count
prefix_len-stop : (p : ℕ → Bool) (x : ℕ) (xs : List ℕ) → p x ≡ false → prefix_len p (x ∷ xs) ≡ 0
prefix_len-stop p x xs e = rw e refl

-- the bytes that stand first pass, and what follows them stops
pub prefix-parts : (p : ℕ → Bool) (xs : List ℕ) → Pass p (take (prefix_len p xs) xs) × Stops p (drop (prefix_len p xs) xs)
prefix-parts p [] = (tt, tt)
prefix-parts p (x ∷ xs) =
    elim (cases_Bool (p x)) [
      | inl e ↦ subst (λ n. Pass p (take n (x ∷ xs)) × Stops p (drop n (x ∷ xs))) (sym (prefix_len-pass p x xs e)) ((e, (prefix-parts p xs).0), (prefix-parts p xs).1)
      | inr e ↦ subst (λ n. Pass p (take n (x ∷ xs)) × Stops p (drop n (x ∷ xs))) (sym (prefix_len-stop p x xs e)) (tt, e)
    ]

-- a text begins with one word only
pub same-word : (p : ℕ → Bool) (w a s b : List ℕ) → Pass p w → Pass p a → Stops p s → Stops p b → w ++ s ≡ a ++ b → (w ≡ a) × (s ≡ b)
same-word p [] [] s b g h f e q = (refl, q)
same-word p [] (x ∷ a) s b g h f e q = Pass-not-Stops p x h.0 (subst (Stops p) q f)
same-word p (x ∷ w) [] s b g h f e q = Pass-not-Stops p x g.0 (subst (Stops p) (sym q) e)
same-word p (x ∷ w) (v ∷ a) s b g h f e q = let r = same-word p w a s b g.1 h.1 f e (cc) in ((let t = r.0 in cc), r.1)

-- bytes that pass are the beginning of the word that stands first
pub begins-word : (p : ℕ → Bool) (w a s b : List ℕ) → Pass p w → Stops p b → w ++ s ≡ a ++ b → (r : List ℕ) × (a ≡ w ++ r)
begins-word p [] a s b g e q = (a, refl)
begins-word p (x ∷ w) [] s b g e q = Pass-not-Stops p x g.0 (subst (Stops p) (sym q) e)
begins-word p (x ∷ w) (v ∷ a) s b g e q = let r = begins-word p w a s b g.1 e (cc) in (r.0, (let t = r.1 in cc))

-- the beginning of a word passes
pub Pass-take : (p : ℕ → Bool) (w : List ℕ) (k : ℕ) → Pass p w → Pass p (take k w)
Pass-take p [] zero g = tt
Pass-take p [] (suc k) g = tt
Pass-take p (x ∷ w) zero g = tt
Pass-take p (x ∷ w) (suc k) g = (g.0, Pass-take p w k g.1)
