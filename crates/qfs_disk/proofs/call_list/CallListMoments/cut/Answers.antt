-- One more call is one more moment.
use Rattle.std.proofs.Common.{rules, ◌≡◌, take, ap, ◌∙◌, sym, ℕ, List}
use Rattle.qfs_disk.specs.Moments.{Moment}
use Rattle.qfs_disk.proofs.PastLaws.{one_more, held_more}
use Rattle.qfs_disk.proofs.call_list.CallListMoments.cut.Goals as goal

pub invariant_of-self-2 : goal.invariant_of-self-2
invariant_of-self-2 c =
    let was = c.args.self.now in
    let shorter : c.truncate.new.self.items ≡ take c.args.len was.bytes.items = search rules in
    record {
      kept = shorter ∙ ap (λ (l : List ℕ). take c.args.len l) was.kept
          ∙ sym (ap (λ (m : Moment). m.bytes) (held_more was.start.items was.calls.items c.push.new.self.items _ c.in_ok-push.ensures.items));
    }

pub returns-clause-ok : goal.returns-clause-ok
returns-clause-ok c = one_more c.args.self.now.start.items c.args.self.now.calls.items _ _ c.in_ok-push.ensures.items
