use Rattle.qfs_laws_tables.specs.Distinct.{distinct-once, once-distinct}
use Rattle.qfs_laws_tables.proofs.distinct_numbers_count_once.Goals as goal

pub returns : goal.returns
returns c = record { once = distinct-once; distinct = once-distinct }
