-- What an ask gets: its refusal, or its answer.
use Rattle.std.specs.Prelude.{ℕ, cond, List, length, ℤ, Some, None, Option, nat_lt}
use Rattle.grid.specs.Rounding.{Mode, mode_numbered}
use Rattle.limbs.specs.Bits.{limbs_for}
use Rattle.batch.specs.Term.{Term}
use Rattle.sheet.specs.Numbers.{Refusal, refused_by}
use Rattle.sheet.specs.declared.mark.Mark.{Mark}
use Rattle.survey.specs.Places.{lowest_marked}
use Rattle.answers.specs.Published.{Published, answer}

-- A question: the terms of a batch, the spacing and the width of a grid, the number of a mode, and how many limbs are lent for the answer.
pub record Question : Type 0 where
  pub terms : List Term
  pub spacing : ℤ → ℤ
  pub width : ℕ
  pub mode : ℕ
  pub limbs : ℕ

-- the question with these parts
abbrev pub question : List Term → (ℤ → ℤ) → ℕ → ℕ → ℕ → Question
question ts u w m n = record { terms = ts; spacing = u; width = w; mode = m; limbs = n }

-- What a call gets: it was done, refused, or answered.
pub data Reply : Type 0 where
  done : Reply
  refused : Refusal → Reply
  answered : Published → Reply

-- a mark stands past the last term, or all is well
abbrev pub reply_past : Option ℕ → Mode → (ℕ → Mark) → Question → Reply
reply_past (Some p) m marks q = refused (record { number = 17; place = p })
reply_past None m marks q = answered (answer marks q.terms q.spacing m q.limbs)

-- the mode is one of the five, or there is none with its number
abbrev pub reply_in_mode : Option Mode → (ℕ → Mark) → Question → Reply
reply_in_mode None marks q = refused (refused_by 15)
reply_in_mode (Some m) marks q = cond (nat_lt q.limbs (limbs_for q.width)) (refused (refused_by 16)) (reply_past (lowest_marked marks (length q.terms)) m marks q)

-- what an ask gets under the marks of a sheet
abbrev pub asked : (ℕ → Mark) → Question → Reply
asked marks q = reply_in_mode (mode_numbered q.mode) marks q
