use Rattle.fields.proofs.WordBytes.{signs_are_words, naturals_are_words, integers_are_words, floors_are_words, runs_are_words, limb_texts_have_limb_bytes}
use Rattle.fields.proofs.words_stand.Goals as goal

pub returns-clause-signs : goal.returns-clause-signs
returns-clause-signs c = signs_are_words

pub returns-clause-naturals : goal.returns-clause-naturals
returns-clause-naturals c = naturals_are_words

pub returns-clause-integers : goal.returns-clause-integers
returns-clause-integers c = integers_are_words

pub returns-clause-floors : goal.returns-clause-floors
returns-clause-floors c = floors_are_words

pub returns-clause-runs : goal.returns-clause-runs
returns-clause-runs c = runs_are_words

pub returns-clause-limb_texts : goal.returns-clause-limb_texts
returns-clause-limb_texts c = limb_texts_have_limb_bytes
