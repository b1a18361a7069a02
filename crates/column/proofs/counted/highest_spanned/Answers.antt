-- The highest column or none, as computed in 64 bits.
use Rattle.column.proofs.SpannedColumns.{spans_none, highest_fits, spans_some}
use Rattle.column.proofs.counted.highest_spanned.Goals as goal

pub overflow_cast-result : goal.overflow_cast-result
overflow_cast-result c =
    highest_fits c.args.low c.args.top c.args.below c.ranges.low c.ranges.top c.ranges.below c.from.result c.from-2.result c.from-3.result c.min-highest.result
    c.from.ensures c.from-2.ensures c.from-3.ensures c.min-highest.ensures.value c.if-highest-lowest.false

pub returns-then-highest-lowest : goal.returns-then-highest-lowest
returns-then-highest-lowest c =
    spans_none c.args.low c.args.top c.args.below c.ranges.low c.ranges.top c.ranges.below c.from.result c.from-2.result c.from-3.result c.min-highest.result
    c.from.ensures c.from-2.ensures c.from-3.ensures c.min-highest.ensures.value c.if-highest-lowest.true

pub returns-else-highest-lowest : goal.returns-else-highest-lowest
returns-else-highest-lowest c =
    spans_some c.args.low c.args.top c.args.below c.ranges.low c.ranges.top c.ranges.below c.from.result c.from-2.result c.from-3.result c.min-highest.result
    c.from.ensures c.from-2.ensures c.from-3.ensures c.min-highest.ensures.value c.if-highest-lowest.false
