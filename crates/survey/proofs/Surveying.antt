-- One term more among the kinds that count.
use Rattle.std.proofs.Common.{◌≡◌, ℕ, suc, ◌+◌, ◌<◌, Bool, true, false, cond, eqb, List, [], ◌∷◌, ◌++◌, length, get_or, take, refl, ap, ◌∙◌, arith}
use Rattle.std.proofs.lemmas.List.{take_more, length-take-le}
use Rattle.batch.specs.TermKinds.{kind_number}
use Rattle.batch.specs.declared.kind.Kind.{Kind}
use Rattle.batch.specs.declared.kind.Kind.TheVariants.{Absent}
use Rattle.sheet.specs.declared.mark.Mark.{Mark}
use Rattle.survey.specs.Kinds.{counted_kind, kinds_from, has}

either_first : (a b c : Bool) → cond a true (cond b true c) ≡ cond b true (cond a true c)
either_first true true c = refl
either_first true false c = refl
either_first false true c = refl
either_first false false c = refl

has_push : (ks : List Kind) (j k : Kind) → has (ks ++ j ∷ []) k ≡ cond (eqb (kind_number j) (kind_number k)) true (has ks k)
has_push [] j k = refl
has_push (i ∷ ks) j k =
    ap (cond (eqb (kind_number i) (kind_number k)) true) (has_push ks j k)
    ∙ either_first (eqb (kind_number i) (kind_number k)) (eqb (kind_number j) (kind_number k)) (has ks k)

kinds_push : (marks : ℕ → Mark) (i : ℕ) (ks : List Kind) (k : Kind) → kinds_from marks i (ks ++ k ∷ []) ≡ kinds_from marks i ks ++ counted_kind (marks (i + length ks)) k ∷ []
kinds_push marks i [] k = ap (λ (p : ℕ). counted_kind (marks p) k ∷ []) (let e : i ≡ i + 0 = omega arith in e)
kinds_push marks i (j ∷ ks) k =
    ap (λ (l : List Kind). counted_kind (marks i) j ∷ l)
    (kinds_push marks (suc i) ks k ∙ ap (λ (p : ℕ). kinds_from marks (suc i) ks ++ counted_kind (marks p) k ∷ []) (let e : suc i + length ks ≡ i + suc (length ks) = omega arith in e))

-- the kinds of the first i + 1 terms are those of the first i, and the kind that term i counts as
pub has_more : (marks : ℕ → Mark) (ks : List Kind) (i : ℕ) → i < length ks → (k : Kind)
    → has (kinds_from marks 0 (take (i + 1) ks)) k ≡ cond (eqb (kind_number (counted_kind (marks i) (get_or ks i Absent))) (kind_number k)) true (has (kinds_from marks 0 (take i ks)) k)
has_more marks ks i within k =
    let long : 0 + length (take i ks) ≡ i = omega (arith, length-take-le i ks (omega arith)) in
    ap (λ (l : List Kind). has (kinds_from marks 0 l) k) (take_more ks i Absent within)
    ∙ ap (λ (l : List Kind). has l k) (kinds_push marks 0 (take i ks) (get_or ks i Absent))
    ∙ has_push (kinds_from marks 0 (take i ks)) (counted_kind (marks (0 + length (take i ks))) (get_or ks i Absent)) k
    ∙ ap (λ (p : ℕ). cond (eqb (kind_number (counted_kind (marks p) (get_or ks i Absent))) (kind_number k)) true (has (kinds_from marks 0 (take i ks)) k)) long
