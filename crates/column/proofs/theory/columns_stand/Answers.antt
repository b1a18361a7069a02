-- The laws of columns and ends, each by its proof.
use Rattle.column.proofs.Laws as laws
use Rattle.column.proofs.Ranges.{in_range}
use Rattle.column.proofs.theory.columns_stand.Goals as goal

pub returns : goal.returns
returns c = record {
  listed = laws.columns_listed;
  starts = laws.sum_starts;
  goes_on = laws.sum_goes_on;
  totals = laws.totals_bounded;
  nested = laws.ends_nested;
  meet = laws.ends_meet;
  enclosed = laws.sum_enclosed;
  in_range = in_range;
}
