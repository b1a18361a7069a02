-- The terms of well-formed forms without a fault are within the limits of a batch.
use Rattle.std.proofs.Common.{◌≡◌, ℕ, zero, suc, ◌<◌, ◌≤◌, ◌^◌, Bool, false, List, [], ◌∷◌, ◌++◌, length, ℤ, None, Option, is_some, sym, ap, subst, arith}
use Rattle.std.specs.List.{AllByRecursion}
use Rattle.std.proofs.lemmas.List.{length-map, length-take}
use Rattle.batch.specs.Term.{Term, Limited, most_terms}
use Rattle.batch.specs.declared.fault.RecordFault.{RecordFault}
use Rattle.forms.specs.Parts.{AreLimbs}
use Rattle.forms.specs.Forms.{Form, not_a_number, infinity, signed_zero, term, mark, back, set, reopen, ask, ask_named, WellFormed}
use Rattle.limb_batch.specs.Opening.{fault_at, opening_fault}
use Rattle.limb_batch.specs.SoundRecords.{Words, terms_batchable}
use Rattle.text_terms.specs.Meaning.{IsTerm, term_fault, term_meant, regular_record}
use Rattle.text_terms.specs.declared.list.TermList.{TermList}
use Rattle.text_terms.specs.TermLists.{terms_of}
use Rattle.text_terms.proofs.Faults.{none_behind, term_behind}
use Rattle.text_call.specs.Law.{AreTerms}

-- limbs of 32 bits are words of a pool
limbs-words : (limbs : List ℕ) → AllByRecursion (λ x. x < 2 ^ 32) limbs → Words limbs
limbs-words [] small k = omega arith
limbs-words (x ∷ xs) small zero = small.0
limbs-words (x ∷ xs) small (suc k) = limbs-words xs small.1 k

-- a regular term without a fault
meant-limited : (negative : Bool) (e : ℤ) (p : ℕ) (limbs : List ℕ) → AreLimbs limbs → term_fault e p limbs ≡ None → Limited (term_meant negative e p limbs)
meant-limited negative e p limbs are none =
    let record_of = regular_record negative e p 0 in
    let sound : is_some (opening_fault limbs (record_of ∷ [])) ≡ false = ap (λ (f : Option RecordFault). is_some (fault_at 0 f None)) (none_behind [] limbs negative e p none) in
    subst Limited (term_behind [] limbs negative e p none) (terms_batchable limbs (record_of ∷ []) (limbs-words limbs are.each) sound).each_limited.0

-- the term that a form means
pub term-limited : (f : Form) (t : Term) → WellFormed f → IsTerm f t → Limited t
term-limited not_a_number t w is = subst Limited (sym is) tt
term-limited (infinity negative) t w is = subst Limited (sym is) tt
term-limited (signed_zero negative) t w is = subst Limited (sym is) tt
term-limited (term negative e p limbs) t w is = subst Limited (sym is.1) (meant-limited negative e p limbs w.2 is.0)
term-limited (mark place letter) t w is = absurd is
term-limited back t w is = absurd is
term-limited set t w is = absurd is
term-limited reopen t w is = absurd is
term-limited (ask width floor mode) t w is = absurd is
term-limited (ask_named name mode) t w is = absurd is

-- the terms that forms mean, which stand before other forms
pub terms-limited : (fs gs : List Form) (ts : List Term) → AllByRecursion WellFormed (fs ++ gs) → AreTerms fs ts → AllByRecursion Limited ts
terms-limited [] gs [] w are = tt
terms-limited [] gs (t ∷ ts) w are = absurd are
terms-limited (f ∷ fs) gs [] w are = absurd are
terms-limited (f ∷ fs) gs (t ∷ ts) w are = (term-limited f t w.0 are.0, terms-limited fs gs ts w.1 are.1)

-- a list of terms holds no more of them than it counts
pub terms_of-few : (l : TermList) → length (terms_of l) ≤ most_terms
terms_of-few l = let few = l.few in rw length-map (omega (arith, few, length-take l.count l.records))
