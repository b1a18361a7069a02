-- The line of an answer, and of a refusal, is that of what the ask gets.
use Rattle.std.proofs.Common.{◌≡◌, ℕ, List, Ok, Err, Result, sym}
use Rattle.answers.specs.Asked.{Reply}
use Rattle.ask.specs.Told.{published}
use Rattle.ask.specs.declared.answer.Answer.{Answer}
use Rattle.limb_batch.specs.declared.record.LimbRecord.{LimbRecord}
use Rattle.whole_ask.specs.Asked.{asked_whole}
use Rattle.whole_ask.specs.Told.{fault_refusal, told_whole}
use Rattle.whole_ask.specs.declared.fault.WholeFault.{WholeFault}
use Rattle.vectors.specs.Lines.{answer_text, refusal_text, reply_text}
use Rattle.vectors.proofs.answering.answer_line.Goals as goal

-- what the ask of these records over this pool gets
told_of : (r : Result Answer WholeFault) (ls : List ℕ) (rs records : List LimbRecord) (ps pool : List ℕ) (width mode : ℕ)
    → told_whole r ls ≡ asked_whole rs ps width mode 128 → rs ≡ records → ps ≡ pool → asked_whole records pool width mode 128 ≡ told_whole r ls
told_of r ls rs records ps pool width mode told one two = rw (← one, ← two) (sym told)

answered_text : (a : Answer) (r : Result Answer WholeFault) (ls : List ℕ) (reply : Reply) → reply ≡ told_whole r ls → r ≡ Ok a → reply_text reply ≡ answer_text (published a ls)
unfolding reply_text
answered_text a r ls reply told is = rw (told, is)

refused_text : (f : WholeFault) (r : Result Answer WholeFault) (ls : List ℕ) (reply : Reply) → reply ≡ told_whole r ls → r ≡ Err f → reply_text reply ≡ refusal_text (fault_refusal f).number
unfolding reply_text
refused_text f r ls reply told is = rw (told, is)

pub returns-in-Ok : goal.returns-in-Ok
returns-in-Ok c =
    let case = c.args.case.now in
    let told = told_of c.ask_whole.result _ _ case.records.items _ case.pool.items case.width case.mode c.ask_whole.ensures.equals c.as_slice-records.ensures.value c.as_slice-pool.ensures.value in
    rw (answered_text c.in-Ok.answer _ _ _ told c.in-Ok.is) c.write_answer.ensures

pub returns-in-Err : goal.returns-in-Err
returns-in-Err c =
    let case = c.args.case.now in
    let told = told_of c.ask_whole.result _ _ case.records.items _ case.pool.items case.width case.mode c.ask_whole.ensures.equals c.as_slice-records.ensures.value c.as_slice-pool.ensures.value in
    rw (refused_text c.in-Err.fault _ _ _ told c.in-Err.is) c.write_refusal.ensures
