-- The head and the text of each limb are the text of the answer.
use Rattle.std.proofs.Common.{◌≡◌, List, ℕ, ℤ, ◌∷◌, ◌++◌, take, min, ◌/◌, ◌%◌, ◌+◌, rules, arith, append_assoc, codes, FitsSigned, w32, ◌∙◌}
use Rattle.std.specs.Fmt.{decimal, signed_decimal}
use Rattle.std.specs.List.{flat_map}
use Rattle.std.proofs.lemmas.Int.{to_z-of_z}
use Rattle.std.proofs.lemmas.Iterator.{YieldsList-from_slice, YieldsList-from_take}
use Rattle.std.proofs.lemmas.Iterator.Consumers.{YieldsList-at, YieldsList-end}
use Rattle.ask.specs.Told.{published}
use Rattle.ask.specs.declared.answer.Answer.{Answer}
use Rattle.batch.specs.TermKinds.{kind_number}
use Rattle.ends.specs.Directions.{direction_sign}
use Rattle.limb_batch.specs.Records.{limbs_for}
use Rattle.vectors.specs.Lines.{limb_text, answer_text}
use Rattle.vectors.proofs.writing.write_answer.Goals as goal

joined : (k e p d ls : List ℕ) → (k ++ 32 ∷ (e ++ 32 ∷ (p ++ 32 ∷ d))) ++ ls ≡ k ++ codes " " ++ e ++ codes " " ++ p ++ codes " " ++ d ++ ls
joined k e p d ls = simp append_assoc

head_and_limbs : (a : Answer) (ls : List ℕ) (k n : ℕ) (e d : ℤ) (head whole shown : List ℕ) → k ≡ kind_number a.kind → e ≡ a.exponent → d ≡ direction_sign a.direction
    → head ≡ decimal k ++ 32 ∷ (signed_decimal e ++ 32 ∷ (decimal a.precision ++ 32 ∷ signed_decimal d))
    → whole ≡ head ++ flat_map limb_text shown → shown ≡ take n ls → n ≡ limbs_for a.precision → whole ≡ answer_text (published a ls)
unfolding answer_text
head_and_limbs a ls k n e d head whole shown kind exponent direction one two all count =
    two ∙ rw (one, kind, exponent, direction, all, count) (joined _ _ _ _ _)

limbs_taken : (p n : ℕ) → n ≡ p / 32 + min 1 (p % 32) → n ≡ limbs_for p
limbs_taken p n e = omega arith

pub returns : goal.returns
returns c =
    let fits_exponent : FitsSigned w32 c.args.answer.exponent = search rules in
    let fits_direction : FitsSigned w32 c.number-direction.result = search rules in
    let source = YieldsList-at c.take-limb-items.ensures.source (YieldsList-from_slice c.args.limbs.now c.iter.ensures.rest) in
    let chain = YieldsList-at c.into_iter-limb-iterator.ensures.into_iter_gives (YieldsList-from_take _ source c.take-limb-items.ensures.count) in
    let all = YieldsList-end chain c.loop-limb.yielded _ c.loop-limb.yielded_by _ _ c.in-None.is c.next.ensures.steps in
    head_and_limbs c.args.answer c.args.limbs.now _ _ _ _ _ _ _ c.number-kind.ensures (to_z-of_z w32 _ fits_exponent)
    (to_z-of_z w32 _ fits_direction ∙ c.number-direction.ensures) c.in_ok-line.ensures.ok c.loop-limb.invariant all.0 (limbs_taken _ _ c.div_ceil.ensures)
