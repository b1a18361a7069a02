use Rattle.form_reader.proofs.Lines.{one-reading, one-end}
use Rattle.form_reader.proofs.reading.spellings_stand.Goals as goal

pub returns-clause-one_reading : goal.returns-clause-one_reading
returns-clause-one_reading c = one-reading

pub returns-clause-one_end : goal.returns-clause-one_end
returns-clause-one_end c = one-end
