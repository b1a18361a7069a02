-- What is read of a run.
use Rattle.std.proofs.Common.{◌≡◌, ℕ, ◌+◌, Bool, true, List, [], ◌∷◌, ◌++◌, length, None, refl, sym, ap, ◌∙◌, arith, length-append}
use Rattle.std.specs.Prelude.{nat_lt}
use Rattle.std.specs.List.{AllByRecursion}
use Rattle.std.proofs.lemmas.Bool.{cond-true, ltb-true, lt-ltb}
use Rattle.forms.specs.Parts.{is_alphanumeric}
use Rattle.forms.specs.Languages.{Begins}
use Rattle.fields.specs.Words.{IsRunWord}
use Rattle.fields.specs.Checking.{break_from, run_of}
use Rattle.fields.specs.Laws.{AnyWord, Checks}
use Rattle.fields.proofs.Refusals.{Reads, checks}
use Rattle.fields.proofs.ByPlaces.{ByPlaces, front-stands, break-append, reads_by_places}

-- bytes of one kind stand at all places
pub all-stand : (test : ℕ → Bool) (i : ℕ) (word : List ℕ) → AllByRecursion (λ b. test b ≡ true) word → break_from (λ place b. test b) i word ≡ None
all-stand test i [] h = refl
all-stand test i (b ∷ bs) h = cond-true (test b) _ _ h.0 ∙ all-stand test (i + 1) bs h.1

-- what stands is of the kind
pub standing-all : (test : ℕ → Bool) (i : ℕ) (word : List ℕ) → break_from (λ place b. test b) i word ≡ None → AllByRecursion (λ b. test b ≡ true) word
standing-all test i [] e = tt
standing-all test i (b ∷ bs) e = let h = front-stands (λ place b. test b) i b bs e in (h.0, standing-all test (i + 1) bs h.1)

-- bytes that stand are a run with a digit after them
standing-begins : (front : List ℕ) → break_from (λ place b. is_alphanumeric b) 0 front ≡ None → Begins (AnyWord IsRunWord) front
standing-begins front e = (
  48 ∷ [],
  (
    front ++ (48 ∷ []),
    (
      record {
        some = omega (arith, length-append front (48 ∷ []));
        each = standing-all is_alphanumeric 0 (front ++ (48 ∷ [])) (break-append (λ place b. is_alphanumeric b) 0 front (48 ∷ []) e);
      },
      refl,
    ),
  ),
)

-- a run is told by its places
by_places : ByPlaces (AnyWord IsRunWord) (λ place b. is_alphanumeric b) (λ n. nat_lt 0 n)
by_places = record {
  stands = λ word l. ap (break_from (λ place b. is_alphanumeric b) 0) l.1.1 ∙ all-stand is_alphanumeric 0 l.0 l.1.0.each;
  ends = λ word l. lt-ltb 0 (length word) (omega (arith, l.1.0.some, ap length l.1.1));
  begins = standing-begins;
}

-- a run is read or refused
pub reads-run : (word : List ℕ) → Reads IsRunWord word (run_of word)
reads-run word = reads_by_places IsRunWord (λ place b. is_alphanumeric b) (λ n. nat_lt 0 n) by_places word word (λ stands end. (
  record {
    some = ltb-true 0 (length word) end;
    each = standing-all is_alphanumeric 0 word stands;
  },
  refl,
))

-- runs are checked
pub runs_check : Checks IsRunWord run_of
runs_check = checks IsRunWord run_of reads-run (λ a b word e f. sym e.1 ∙ f.1)
