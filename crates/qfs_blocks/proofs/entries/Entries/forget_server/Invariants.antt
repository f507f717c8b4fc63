-- What the loop of `entries::Entries::forget_server` keeps.
use Rattle.std.proofs.Common.{◌≡◌, length}
use Rattle.qfs_base.specs.Table.{without}
use Rattle.qfs_blocks.specs.Entries.{is_entry_on}
use Rattle.qfs_blocks.proofs.entries.Entries.forget_server.Given as goal

-- only copies on the server went
abbrev pub invariant-loop-number : goal.invariant-loop-number
invariant-loop-number l = record {
  left : without (is_entry_on l.server) l.self.entries
      ≡ without (is_entry_on l.server) l.fn.self.entries;
  next : l.self.next ≡ l.fn.self.next;
  spare : l.self.spare ≡ l.fn.self.spare;
}

abbrev pub decreases-loop-number : goal.decreases-loop-number
decreases-loop-number l = length l.self.entries
