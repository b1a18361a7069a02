-- What the parse of a limb gives is the number that the word spells.
use Rattle.std.proofs.Common.{◌∙◌, ap}
use Rattle.vectors.specs.Words.{number_of}
use Rattle.vectors.proofs.WordLists.{number_of-parsed}
use Rattle.vectors.proofs.words.Words.limb.Goals as goal

pub returns-clause-limb : goal.returns-clause-limb
returns-clause-limb c = number_of-parsed 16 c.next.result.now c.from_str_radix.result c.from_str_radix.ensures.value ∙ ap (number_of 16) c.next.ensures.word
