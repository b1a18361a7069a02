-- What the entry of the benchmark returns and leaves.
use Rattle.std.specs.Prelude.{ℕ, List, ℤ, pos, neg_ℤ}
use Rattle.answers.specs.Asked.{Reply, done, refused, answered}

-- what is returned: the depth of an answer, or the opposite of the number of a refusal
abbrev pub status : Reply → ℤ
status done = pos 0
status (refused r) = neg_ℤ (pos r.number)
status (answered a) = pos a.depth

-- the limbs that are left: those of an answer, or else those that were there
abbrev pub limbs_left : Reply → List ℕ → List ℕ
limbs_left done old = old
limbs_left (refused r) old = old
limbs_left (answered a) old = a.limbs
