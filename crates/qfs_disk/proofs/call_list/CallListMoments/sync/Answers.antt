-- One more call is one more moment.
use Rattle.std.proofs.Common.{refl, ◌∙◌}
use Rattle.qfs_disk.proofs.PastLaws.{one_more, push_keeps}
use Rattle.qfs_disk.proofs.call_list.CallListMoments.sync.Goals as goal

pub invariant_of-self : goal.invariant_of-self
invariant_of-self c = record {
  kept = c.args.self.now.kept ∙ push_keeps c.args.self.now.start.items c.args.self.now.calls.items c.push.new.self.items _ _ refl c.push.ensures.items;
}

pub returns-clause-ok : goal.returns-clause-ok
returns-clause-ok c = one_more c.args.self.now.start.items c.args.self.now.calls.items _ _ c.in_ok-push.ensures.items
