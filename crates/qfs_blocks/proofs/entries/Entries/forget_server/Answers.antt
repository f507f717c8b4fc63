-- What the check leaves to show of `entries::Entries::forget_server`.
use Rattle.std.proofs.Common.{ap, ◌∙◌, length, subst, sym, ◌<◌}
use Rattle.qfs_base.specs.Table.{without}
use Rattle.qfs_blocks.specs.Entries.{is_entry, is_entry_on}
use Rattle.qfs_blocks.proofs.RowLaws.{without_after, without_fewer}
use Rattle.qfs_blocks.proofs.entries.Entries.forget_server.Goals as goal

pub loop-number-smaller : goal.loop-number-smaller
loop-number-smaller c =
    subst (λ entries. length entries < length c.loop-number.self.entries)
    (sym c.take.ensures.entries)
    (without_fewer (is_entry c.in-Some.number) c.loop-number.self.entries c.in-Some.ensures.there)

pub loop-number-preserved : goal.loop-number-preserved
loop-number-preserved c =
    let was = c.loop-number.invariant in
    record {
      left = ap (without (is_entry_on c.args.server)) c.take.ensures.entries
          ∙ without_after (is_entry c.in-Some.number) (is_entry_on c.args.server)
          c.loop-number.self.entries c.in-Some.ensures.on
          ∙ was.left;
      next = c.take.ensures.next ∙ was.next;
      spare = c.take.ensures.spare ∙ was.spare;
    }
