-- Words whose bytes are told by their places.
use Rattle.std.proofs.Common.{◌≡◌, ℕ, ◌+◌, Bool, true, false, cond, List, [], ◌∷◌, ◌++◌, length, Option, Some, None, Ok, Err, refl, sym, ap, ◌∙◌, subst, ⊎_elim, arith, append_assoc, add-zero}
use Rattle.std.specs.Result.{is_ok}
use Rattle.std.proofs.lemmas.Bool.{cases_Bool, cond-true, cond-false, false≢true}
use Rattle.forms.specs.Languages.{Begins, Refused}
use Rattle.fields.specs.Checking.{break_from, unbroken}
use Rattle.fields.specs.Laws.{AnyWord}
use Rattle.fields.proofs.Refusals.{Reads, refused_at, refused_end}

-- the first byte stands, and so do those after it
pub front-stands : (may : ℕ → ℕ → Bool) (i b : ℕ) (bs : List ℕ) → break_from may i (b ∷ bs) ≡ None → (may i b ≡ true) × (break_from may (i + 1) bs ≡ None)
front-stands may i b bs e =
    ⊎_elim
    (λ t. (t, sym (cond-true (may i b) _ _ t) ∙ e))
    (λ f. absurd (let g : Some i ≡ None = sym (cond-false (may i b) (break_from may (i + 1) bs) (Some i) f) ∙ e in cc))
    (cases_Bool (may i b))

-- bytes of which none breaks are passed over
pub break-append : (may : ℕ → ℕ → Bool) (i : ℕ) (front back : List ℕ) → break_from may i front ≡ None → break_from may i (front ++ back) ≡ break_from may (i + length front) back
break-append may i [] back e = ap (λ j. break_from may j back) (sym (add-zero i))
break-append may i (b ∷ bs) back e =
    let h = front-stands may i b bs e in
    let j : i + 1 + length bs ≡ i + length (b ∷ bs) = omega arith in
    cond-true (may i b) _ _ h.0 ∙ break-append may (i + 1) bs back h.1 ∙ ap (λ k. break_from may k back) j

-- where no byte breaks, none does in a part
pub break-split : (may : ℕ → ℕ → Bool) (i : ℕ) (front back : List ℕ) → break_from may i (front ++ back) ≡ None → (break_from may i front ≡ None) × (break_from may (i + length front) back ≡ None)
break-split may i [] back e = (refl, ap (λ j. break_from may j back) (add-zero i) ∙ e)
break-split may i (b ∷ bs) back e =
    let h = front-stands may i b (bs ++ back) e in
    let rest = break-split may (i + 1) bs back h.1 in
    let j : i + length (b ∷ bs) ≡ i + 1 + length bs = omega arith in
    (cond-true (may i b) _ _ h.0 ∙ rest.0, ap (λ k. break_from may k back) j ∙ rest.1)

-- a word in which byte k breaks, and none before it
pub record Broken (may : ℕ → ℕ → Bool) (i k : ℕ) (word : List ℕ) : Type 0 where
  pub front : List ℕ
  pub byte : ℕ
  pub back : List ℕ
  pub is : word ≡ front ++ (byte ∷ back)
  pub place : i + length front ≡ k
  pub stands : break_from may i front ≡ None
  pub breaks : may k byte ≡ false

-- a break splits its word
pub broken : (may : ℕ → ℕ → Bool) (i k : ℕ) (word : List ℕ) → break_from may i word ≡ Some k → Broken may i k word
broken may i k [] e = absurd (cc)
broken may i k (b ∷ bs) e =
    ⊎_elim
    (λ t.
    let r = broken may (i + 1) k bs (sym (cond-true (may i b) _ _ t) ∙ e) in
    record {
      front = b ∷ r.front;
      byte = r.byte;
      back = r.back;
      is = ap (λ l. b ∷ l) r.is;
      place = omega (arith, r.place);
      stands = cond-true (may i b) _ _ t ∙ r.stands;
      breaks = r.breaks;
    })
    (λ f.
    let g : Some i ≡ Some k = sym (cond-false (may i b) (break_from may (i + 1) bs) (Some i) f) ∙ e in
    let same : i ≡ k = cc in
    record {
      front = [];
      byte = b;
      back = bs;
      is = refl;
      place = add-zero i ∙ same;
      stands = refl;
      breaks = ap (λ j. may j b) (sym same) ∙ f;
    })
    (cases_Bool (may i b))

-- a language is told by places: no byte of a word breaks, a word ends where it may, and bytes of which none breaks begin a word
pub record ByPlaces (L : List ℕ → Type 0) (may : ℕ → ℕ → Bool) (may_end : ℕ → Bool) : Type 0 where
  pub stands : (word : List ℕ) → L word → break_from may 0 word ≡ None
  pub ends : (word : List ℕ) → L word → may_end (length word) ≡ true
  pub begins : (front : List ℕ) → break_from may 0 front ≡ None → Begins L front

-- a byte that breaks is where the word is refused
refused-break : (L : List ℕ → Type 0) (may : ℕ → ℕ → Bool) (may_end : ℕ → Bool) → ByPlaces L may may_end → (k : ℕ) (word : List ℕ) → break_from may 0 word ≡ Some k → Refused L word k
refused-break L may may_end places k word e =
    let b = broken may 0 k word e in
    let at : length b.front ≡ k = omega (arith, b.place) in
    let stuck = λ (g : Begins L (b.front ++ (b.byte ∷ []))).
    let none = sym (break-append may 0 b.front (b.byte ∷ g.0) b.stands) ∙ ap (break_from may 0) (sym (append_assoc b.front (b.byte ∷ []) g.0)) ∙ places.stands _ g.1 in
    let more = front-stands may (0 + length b.front) b.byte g.0 none in
    let breaks : may (0 + length b.front) b.byte ≡ false = ap (λ j. may j b.byte) b.place ∙ b.breaks in
    let no : true ≡ false = sym more.0 ∙ breaks in
    let none : ⊥ = cc in none in
    subst (λ w. Refused L w k) (sym b.is) (subst (Refused L (b.front ++ (b.byte ∷ b.back))) at (refused_at L b.front b.back b.byte (places.begins b.front b.stands) stuck))

-- what is read of a word by its places
pub reads_by_places : {A : Type 0} (Spells : A → List ℕ → Type 0) (may : ℕ → ℕ → Bool) (may_end : ℕ → Bool) → ByPlaces (AnyWord Spells) may may_end
    → (a : A) (word : List ℕ) → (break_from may 0 word ≡ None → may_end (length word) ≡ true → Spells a word)
    → Reads Spells word (unbroken (break_from may 0 word) (may_end (length word)) (length word) a)
reads_by_places {A} Spells may may_end places a word whole = by_break (break_from may 0 word) refl
  where
    by_end : (stands : break_from may 0 word ≡ None) (end : Bool) → may_end (length word) ≡ end → Reads Spells word (cond end (Ok a) (Err (length word)))
    by_end stands true e = whole stands e
    by_end stands false e = refused_end (AnyWord Spells) word (places.begins word stands) (λ l. let no : true ≡ false = sym (places.ends word l) ∙ e in cc)

    by_break : (at : Option ℕ) → break_from may 0 word ≡ at → Reads Spells word (unbroken at (may_end (length word)) (length word) a)
    by_break (Some k) e = refused-break (AnyWord Spells) may may_end places k word e
    by_break None e = by_end e (may_end (length word)) refl

-- what a word does where its value is read
pub unbroken-ok : {A : Type 0} (at : Option ℕ) (may_end : Bool) (end : ℕ) (value : A) → is_ok (unbroken at may_end end value) ≡ true → (at ≡ None) × (may_end ≡ true)
unbroken-ok None true end value e = (refl, refl)
unbroken-ok None false end value e = absurd (false≢true e)
unbroken-ok (Some place) may_end end value e = absurd (false≢true e)
