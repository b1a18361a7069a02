-- The texts that are read as forms are the spellings of forms.
use Rattle.std.proofs.Common.{◌≡◌, ℕ, Bool, List, [], ◌∷◌, ◌++◌, Option, ℤ, sym, refl, ap, ◌∙◌, subst, append_assoc}
use Rattle.std.specs.List.{join_with_byte}
use Rattle.std.specs.Fmt.{decimal, signed_decimal}
use Rattle.forms.specs.Parts.{bracketed, sign_text, limbs_text, floor_text, AreLimbs}
use Rattle.forms.specs.Forms.{Form, not_a_number, infinity, signed_zero, term, mark, back, set, reopen, ask, ask_named, fields, WellFormed}
use Rattle.fields.specs.Words.{limbs_between}
use Rattle.form_reader.specs.Claims.{Spells}
use Rattle.form_reader.proofs.FormSteps.{Named, Spaced, Listed}
use Rattle.form_reader.proofs.FormLaws.{Nans, Infinities, Zeros, Terms, Marks, Backs, Sets, Reopens, Asks, NamedAsks}

-- fields after spaces, and the last bracket
abbrev tail : List (List ℕ) → List ℕ
tail [] = 41 ∷ []
tail (w ∷ ws) = 32 ∷ (w ++ tail ws)

-- texts joined by spaces, with the bracket behind them
join-tail : (w : List ℕ) (ws : List (List ℕ)) → join_with_byte 32 (w ∷ ws) ++ (41 ∷ []) ≡ w ++ tail ws
join-tail w [] = refl
join-tail w (x ∷ ws) = append_assoc w (32 ∷ join_with_byte 32 (x ∷ ws)) (41 ∷ []) ∙ ap (λ t. w ++ (32 ∷ t)) (join-tail x ws)

-- limbs in brackets, with what follows
limbs-tail : (limbs rest : List ℕ) → limbs_text limbs ++ rest ≡ 40 ∷ (limbs_between limbs ++ (41 ∷ rest))
limbs-tail limbs rest = ap (λ t. 40 ∷ t) (append_assoc (limbs_between limbs) (41 ∷ []) rest)

-- ---- what a part spells
-- the keyword, and all that follows
named-text : {B : Type 0} (keyword : List ℕ) (K : B → List ℕ → Type 0) (v : B) (s : List ℕ) (h : Named keyword K v s) (ws : List (List ℕ)) → h.rest ≡ tail ws → s ≡ bracketed (keyword ∷ ws)
named-text keyword K v s h ws e = h.joins ∙ ap (λ t. 40 ∷ t) (ap (λ t. keyword ++ t) e ∙ sym (join-tail keyword ws))

-- a field after a space
spaced-text : {A B : Type 0} (F : A → List ℕ → Type 0) (K : A → B → List ℕ → Type 0) (v : B) (s : List ℕ) (h : Spaced F K v s) (text : List ℕ) (ws : List (List ℕ)) → h.word ≡ text → h.rest ≡ tail ws → s ≡ tail (text ∷ ws)
spaced-text F K v s h text ws e f = h.joins ∙ (λ i. 32 ∷ (e i ++ f i))

-- limbs after a space
listed-text : {B : Type 0} (K : List ℕ → B → List ℕ → Type 0) (v : B) (s : List ℕ) (h : Listed K v s) (ws : List (List ℕ)) → h.rest ≡ tail ws → s ≡ tail (limbs_text h.value ∷ ws)
listed-text K v s h ws e = h.joins ∙ (λ i. 32 ∷ 40 ∷ (h.is.1 i ++ (41 ∷ e i))) ∙ ap (λ t. 32 ∷ t) (sym (limbs-tail h.value (tail ws)))

-- ---- each language has spellings only
spelled : (f g : Form) (s : List ℕ) → f ≡ g → WellFormed g → s ≡ bracketed (fields g) → Spells f s
spelled f g s e w q = subst (λ x. Spells x s) (sym e) (w, q)

pub Nans-spelled : (f : Form) (s : List ℕ) → Nans f s → Spells f s
Nans-spelled f s h = spelled f _ s h.goes.0 tt (named-text _ _ f s h [] h.goes.1)

pub Backs-spelled : (f : Form) (s : List ℕ) → Backs f s → Spells f s
Backs-spelled f s h = spelled f _ s h.goes.0 tt (named-text _ _ f s h [] h.goes.1)

pub Sets-spelled : (f : Form) (s : List ℕ) → Sets f s → Spells f s
Sets-spelled f s h = spelled f _ s h.goes.0 tt (named-text _ _ f s h [] h.goes.1)

pub Reopens-spelled : (f : Form) (s : List ℕ) → Reopens f s → Spells f s
Reopens-spelled f s h = spelled f _ s h.goes.0 tt (named-text _ _ f s h [] h.goes.1)

pub Infinities-spelled : (f : Form) (s : List ℕ) → Infinities f s → Spells f s
Infinities-spelled f s h =
    let n = h.goes in
    spelled f _ s n.goes.0 tt
    (named-text _ _ f s h (sign_text n.value ∷ [])
    (spaced-text _ _ f _ n (sign_text n.value) [] n.is n.goes.1))

pub Zeros-spelled : (f : Form) (s : List ℕ) → Zeros f s → Spells f s
Zeros-spelled f s h =
    let n = h.goes in
    spelled f _ s n.goes.0 tt
    (named-text _ _ f s h (sign_text n.value ∷ [])
    (spaced-text _ _ f _ n (sign_text n.value) [] n.is n.goes.1))

pub Marks-spelled : (f : Form) (s : List ℕ) → Marks f s → Spells f s
Marks-spelled f s h =
    let p = h.goes in
    let l = p.goes in
    spelled f _ s l.goes.0 (p.is.0, l.is.0)
    (named-text _ _ f s h (decimal p.value ∷ l.value ∷ [])
    (spaced-text _ _ f _ p (decimal p.value) (l.value ∷ []) p.is.1
    (spaced-text _ _ f _ l l.value [] l.is.1 l.goes.1)))

pub Terms-spelled : (f : Form) (s : List ℕ) → Terms f s → Spells f s
Terms-spelled f s h =
    let n = h.goes in
    let e = n.goes in
    let p = e.goes in
    let l = p.goes in
    spelled f _ s l.goes.0 (e.is.0, p.is.0, l.is.0)
    (named-text _ _ f s h (sign_text n.value ∷ signed_decimal e.value ∷ decimal p.value ∷ limbs_text l.value ∷ [])
    (spaced-text _ _ f _ n (sign_text n.value) (signed_decimal e.value ∷ decimal p.value ∷ limbs_text l.value ∷ []) n.is
    (spaced-text _ _ f _ e (signed_decimal e.value) (decimal p.value ∷ limbs_text l.value ∷ []) e.is.1
    (spaced-text _ _ f _ p (decimal p.value) (limbs_text l.value ∷ []) p.is.1
    (listed-text _ f _ l [] l.goes.1)))))

pub Asks-spelled : (f : Form) (s : List ℕ) → Asks f s → Spells f s
Asks-spelled f s h =
    let w = h.goes in
    let l = w.goes in
    let m = l.goes in
    spelled f _ s m.goes.0 (w.is.0, l.is.0, m.is.0)
    (named-text _ _ f s h (decimal w.value ∷ floor_text l.value ∷ m.value ∷ [])
    (spaced-text _ _ f _ w (decimal w.value) (floor_text l.value ∷ m.value ∷ []) w.is.1
    (spaced-text _ _ f _ l (floor_text l.value) (m.value ∷ []) l.is.1
    (spaced-text _ _ f _ m m.value [] m.is.1 m.goes.1))))

pub NamedAsks-spelled : (f : Form) (s : List ℕ) → NamedAsks f s → Spells f s
NamedAsks-spelled f s h =
    let n = h.goes in
    let m = n.goes in
    spelled f _ s m.goes.0 (n.is.0, m.is.0)
    (named-text _ _ f s h (n.value ∷ m.value ∷ [])
    (spaced-text _ _ f _ n n.value (m.value ∷ []) n.is.1
    (spaced-text _ _ f _ m m.value [] m.is.1 m.goes.1)))

-- ---- and all of them
-- the keyword, and all that follows
named-from : {B : Type 0} (keyword : List ℕ) (K : B → List ℕ → Type 0) (v : B) (s : List ℕ) (ws : List (List ℕ)) → s ≡ bracketed (keyword ∷ ws) → K v (tail ws) → Named keyword K v s
named-from keyword K v s ws e g = record { rest = tail ws; goes = g; joins = e ∙ ap (λ t. 40 ∷ t) (join-tail keyword ws) }

-- a field after a space
spaced-from : {A B : Type 0} {F : A → List ℕ → Type 0} {K : A → B → List ℕ → Type 0} {v : B} (a : A) (word rest : List ℕ) → F a word → K a v rest → Spaced F K v (32 ∷ (word ++ rest))
spaced-from a word rest f g = record { value = a; word = word; rest = rest; is = f; goes = g; joins = refl }

-- limbs after a space
listed-from : {B : Type 0} {K : List ℕ → B → List ℕ → Type 0} {v : B} (limbs rest : List ℕ) → AreLimbs limbs → K limbs v rest → Listed K v (32 ∷ (limbs_text limbs ++ rest))
listed-from limbs rest a g = record { value = limbs; text = limbs_between limbs; rest = rest; is = (a, refl); goes = g; joins = ap (λ t. 32 ∷ t) (limbs-tail limbs rest) }

pub spelled-Nans : (s : List ℕ) → s ≡ bracketed (fields not_a_number) → Nans not_a_number s
spelled-Nans s e = named-from _ _ _ s [] e (refl, refl)

pub spelled-Backs : (s : List ℕ) → s ≡ bracketed (fields back) → Backs back s
spelled-Backs s e = named-from _ _ _ s [] e (refl, refl)

pub spelled-Sets : (s : List ℕ) → s ≡ bracketed (fields set) → Sets set s
spelled-Sets s e = named-from _ _ _ s [] e (refl, refl)

pub spelled-Reopens : (s : List ℕ) → s ≡ bracketed (fields reopen) → Reopens reopen s
spelled-Reopens s e = named-from _ _ _ s [] e (refl, refl)

pub spelled-Infinities : (negative : Bool) (s : List ℕ) → s ≡ bracketed (fields (infinity negative)) → Infinities (infinity negative) s
spelled-Infinities negative s e = named-from _ _ _ s (sign_text negative ∷ []) e (spaced-from negative (sign_text negative) _ refl (refl, refl))

pub spelled-Zeros : (negative : Bool) (s : List ℕ) → s ≡ bracketed (fields (signed_zero negative)) → Zeros (signed_zero negative) s
spelled-Zeros negative s e = named-from _ _ _ s (sign_text negative ∷ []) e (spaced-from negative (sign_text negative) _ refl (refl, refl))

pub spelled-Marks : (place : ℕ) (letter s : List ℕ) → WellFormed (mark place letter) → s ≡ bracketed (fields (mark place letter)) → Marks (mark place letter) s
spelled-Marks place letter s w e =
    named-from _ _ _ s (decimal place ∷ letter ∷ []) e
    (spaced-from place (decimal place) _ (w.0, refl)
    (spaced-from letter letter _ (w.1, refl) (refl, refl)))

pub spelled-Terms : (negative : Bool) (exponent : ℤ) (precision : ℕ) (limbs s : List ℕ) → WellFormed (term negative exponent precision limbs) → s ≡ bracketed (fields (term negative exponent precision limbs)) → Terms (term negative exponent precision limbs) s
spelled-Terms negative exponent precision limbs s w e =
    named-from _ _ _ s (sign_text negative ∷ signed_decimal exponent ∷ decimal precision ∷ limbs_text limbs ∷ []) e
    (spaced-from negative (sign_text negative) _ refl
    (spaced-from exponent (signed_decimal exponent) _ (w.0, refl)
    (spaced-from precision (decimal precision) _ (w.1, refl)
    (listed-from limbs (41 ∷ []) w.2 (refl, refl)))))

pub spelled-Asks : (width : ℕ) (floor : Option ℤ) (mode s : List ℕ) → WellFormed (ask width floor mode) → s ≡ bracketed (fields (ask width floor mode)) → Asks (ask width floor mode) s
spelled-Asks width floor mode s w e =
    named-from _ _ _ s (decimal width ∷ floor_text floor ∷ mode ∷ []) e
    (spaced-from width (decimal width) _ (w.0, refl)
    (spaced-from floor (floor_text floor) _ (w.1, refl)
    (spaced-from mode mode _ (w.2, refl) (refl, refl))))

pub spelled-NamedAsks : (name mode s : List ℕ) → WellFormed (ask_named name mode) → s ≡ bracketed (fields (ask_named name mode)) → NamedAsks (ask_named name mode) s
spelled-NamedAsks name mode s w e =
    named-from _ _ _ s (name ∷ mode ∷ []) e
    (spaced-from name name _ (w.0, refl)
    (spaced-from mode mode _ (w.1, refl) (refl, refl)))
