-- What the check leaves to show of `entries::Entries::mark`.
use Rattle.qfs_blocks.proofs.TableLaws.{entries_marked}
use Rattle.qfs_blocks.proofs.entries.Entries.mark.Goals as goal

pub invariant_of-self : goal.invariant_of-self
invariant_of-self c =
    entries_marked c.self.invariant c.change.new.self c.self.inside.by_copy c.args.number
    c.change.ensures.rows c.change.ensures.spare
