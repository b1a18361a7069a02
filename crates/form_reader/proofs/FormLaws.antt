-- Each form is read exactly: its language, and that its reader reads it.
use Rattle.std.proofs.Common.{ℕ, List, codes, refl}
use Rattle.forms.specs.Forms.{Form, not_a_number, infinity, signed_zero, term, mark, back, set, reopen, ask, ask_named}
use Rattle.fields.specs.Words.{IsSign, IsNatural, IsInteger, IsFloor, IsRunWord}
use Rattle.form_reader.specs.Reading.{term_at, mark_at, ask_at, ask_named_at, infinity_at, zero_at, not_a_number_at, back_at, set_at, reopen_at}
use Rattle.form_reader.proofs.StepLaws.{Reads}
use Rattle.form_reader.proofs.FormSteps.{Named, Spaced, Listed, Closed, Spaced-stops, Listed-stops, Closed-stops, named-reads, spaced-reads, limbs-reads, closing-reads}
use Rattle.form_reader.proofs.FieldWords.{sign-field, natural-field, integer-field, floor-field, run-field, limbs-field, keyword-field}

-- ---- the languages
abbrev pub Nans : Form → List ℕ → Type 0
Nans = Named (codes "nan") (Closed not_a_number)

abbrev pub Infinities : Form → List ℕ → Type 0
Infinities = Named (codes "inf") (Spaced IsSign (λ negative. Closed (infinity negative)))

abbrev pub Zeros : Form → List ℕ → Type 0
Zeros = Named (codes "zero") (Spaced IsSign (λ negative. Closed (signed_zero negative)))

abbrev pub Terms : Form → List ℕ → Type 0
Terms = Named (codes "term") (Spaced IsSign (λ negative. Spaced IsInteger (λ exponent. Spaced IsNatural (λ precision. Listed (λ limbs. Closed (term negative exponent precision limbs))))))

abbrev pub Marks : Form → List ℕ → Type 0
Marks = Named (codes "mark") (Spaced IsNatural (λ place. Spaced IsRunWord (λ letter. Closed (mark place letter))))

abbrev pub Backs : Form → List ℕ → Type 0
Backs = Named (codes "back") (Closed back)

abbrev pub Sets : Form → List ℕ → Type 0
Sets = Named (codes "set") (Closed set)

abbrev pub Reopens : Form → List ℕ → Type 0
Reopens = Named (codes "reopen") (Closed reopen)

abbrev pub Asks : Form → List ℕ → Type 0
Asks = Named (codes "ask") (Spaced IsNatural (λ width. Spaced IsFloor (λ floor. Spaced IsRunWord (λ mode. Closed (ask width floor mode)))))

abbrev pub NamedAsks : Form → List ℕ → Type 0
NamedAsks = Named (codes "ask") (Spaced IsRunWord (λ name. Spaced IsRunWord (λ mode. Closed (ask_named name mode))))

-- ---- their readers
pub nan-reads : Reads Nans not_a_number_at
unfolding not_a_number_at
nan-reads = named-reads (keyword-field (codes "nan") (refl, (refl, (refl, tt)))) (Closed-stops not_a_number) (closing-reads not_a_number)

pub infinity-reads : Reads Infinities infinity_at
unfolding infinity_at
infinity-reads = named-reads (keyword-field (codes "inf") (refl, (refl, (refl, tt)))) (Spaced-stops _ _)
    (spaced-reads sign-field (λ negative. Closed-stops _)
    (λ negative. closing-reads (infinity negative)))

pub zero-reads : Reads Zeros zero_at
unfolding zero_at
zero-reads = named-reads (keyword-field (codes "zero") (refl, (refl, (refl, (refl, tt))))) (Spaced-stops _ _)
    (spaced-reads sign-field (λ negative. Closed-stops _)
    (λ negative. closing-reads (signed_zero negative)))

pub term-reads : Reads Terms term_at
unfolding term_at
term-reads = named-reads (keyword-field (codes "term") (refl, (refl, (refl, (refl, tt))))) (Spaced-stops _ _)
    (spaced-reads sign-field (λ negative. Spaced-stops _ _)
    (λ negative. spaced-reads integer-field (λ exponent. Spaced-stops _ _)
    (λ exponent. spaced-reads natural-field (λ precision. Listed-stops _)
    (λ precision. limbs-reads limbs-field
    (λ limbs. closing-reads (term negative exponent precision limbs))))))

pub mark-reads : Reads Marks mark_at
unfolding mark_at
mark-reads = named-reads (keyword-field (codes "mark") (refl, (refl, (refl, (refl, tt))))) (Spaced-stops _ _)
    (spaced-reads natural-field (λ place. Spaced-stops _ _)
    (λ place. spaced-reads run-field (λ letter. Closed-stops _)
    (λ letter. closing-reads (mark place letter))))

pub back-reads : Reads Backs back_at
unfolding back_at
back-reads = named-reads (keyword-field (codes "back") (refl, (refl, (refl, (refl, tt))))) (Closed-stops back) (closing-reads back)

pub set-reads : Reads Sets set_at
unfolding set_at
set-reads = named-reads (keyword-field (codes "set") (refl, (refl, (refl, tt)))) (Closed-stops set) (closing-reads set)

pub reopen-reads : Reads Reopens reopen_at
unfolding reopen_at
reopen-reads = named-reads (keyword-field (codes "reopen") (refl, (refl, (refl, (refl, (refl, (refl, tt))))))) (Closed-stops reopen) (closing-reads reopen)

pub ask-reads : Reads Asks ask_at
unfolding ask_at
ask-reads = named-reads (keyword-field (codes "ask") (refl, (refl, (refl, tt)))) (Spaced-stops _ _)
    (spaced-reads natural-field (λ width. Spaced-stops _ _)
    (λ width. spaced-reads floor-field (λ floor. Spaced-stops _ _)
    (λ floor. spaced-reads run-field (λ mode. Closed-stops _)
    (λ mode. closing-reads (ask width floor mode)))))

pub ask_named-reads : Reads NamedAsks ask_named_at
unfolding ask_named_at
ask_named-reads = named-reads (keyword-field (codes "ask") (refl, (refl, (refl, tt)))) (Spaced-stops _ _)
    (spaced-reads run-field (λ name. Spaced-stops _ _)
    (λ name. spaced-reads run-field (λ mode. Closed-stops _)
    (λ mode. closing-reads (ask_named name mode))))
