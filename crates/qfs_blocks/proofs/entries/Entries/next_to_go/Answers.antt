-- What the check leaves to show of `entries::Entries::next_to_go`.
use Rattle.std.proofs.Common.{ap, find, ◌∙◌}
use Rattle.std.specs.Option.{option_map}
use Rattle.qfs_blocks.specs.BlockTables.{CondemnedEntries}
use Rattle.qfs_blocks.specs.Entries.{condemned_of, entry_may_go, next_entry}
use Rattle.qfs_blocks.proofs.EntryLaws.{found_to_go}
use Rattle.qfs_blocks.proofs.entries.Entries.next_to_go.Goals as goal

pub returns : goal.returns
returns g c =
    let servers = c.args.servers.now in
    let leases = g.V.LeaseView.leases c.args.leases.now in
    c.first_to_go.ensures
    ∙ ap (option_map condemned_of) (ap (find (entry_may_go servers leases)) c.run.ensures
    ∙ found_to_go servers leases c.args.after c.self.inside.table.rows
    ∙ ap (λ (it : CondemnedEntries). next_entry servers leases c.args.after it.entries)
    c.self.view_is)
