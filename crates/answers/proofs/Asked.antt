-- What is known of an ask that was answered: its mode, that there are limbs enough, and which answer it is.
use Rattle.std.proofs.Common.{◌≡◌, ℕ, ◌≤◌, Some, Option, arith}
use borrow.Author.Differences.{ints}
use Rattle.grid.specs.Rounding.{Mode, mode_numbered}
use Rattle.limbs.specs.Bits.{limbs_for}
use Rattle.sheet.specs.declared.mark.Mark.{Mark}
use Rattle.answers.specs.Published.{Published, answer}
use Rattle.answers.specs.Asked.{Question, answered, asked}

pub record Answered (marks : ℕ → Mark) (q : Question) (o : Option Mode) (a : Published) : Type 0 where
  pub mode : Mode
  pub numbered : o ≡ Some mode
  pub room : limbs_for q.width ≤ q.limbs
  pub is : answer marks q.terms q.spacing mode q.limbs ≡ a

pub when_answered : (marks : ℕ → Mark) (q : Question) (a : Published) → asked marks q ≡ answered a → Answered marks q (mode_numbered q.mode) a
when_answered marks q a e = grind (arith, ints)
