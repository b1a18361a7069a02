use Rattle.fields.proofs.Signs.{signs_check}
use Rattle.fields.proofs.Naturals.{naturals_check}
use Rattle.fields.proofs.Integers.{integers_check}
use Rattle.fields.proofs.Floors.{floors_check}
use Rattle.fields.proofs.Runs.{runs_check}
use Rattle.fields.proofs.LimbTexts.{limb_texts_check}
use Rattle.fields.proofs.Keywords.{keywords_check}
use Rattle.fields.proofs.fields_stand.Goals as goal

pub returns-clause-signs : goal.returns-clause-signs
returns-clause-signs c = signs_check

pub returns-clause-naturals : goal.returns-clause-naturals
returns-clause-naturals c = naturals_check

pub returns-clause-integers : goal.returns-clause-integers
returns-clause-integers c = integers_check

pub returns-clause-floors : goal.returns-clause-floors
returns-clause-floors c = floors_check

pub returns-clause-runs : goal.returns-clause-runs
returns-clause-runs c = runs_check

pub returns-clause-limb_texts : goal.returns-clause-limb_texts
returns-clause-limb_texts c = limb_texts_check

pub returns-clause-keywords : goal.returns-clause-keywords
returns-clause-keywords c = keywords_check
