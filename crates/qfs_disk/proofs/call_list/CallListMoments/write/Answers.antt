-- One more call is one more moment.
use Rattle.std.proofs.Common.{rules, ◌≡◌, ap, ◌∙◌, sym, ℕ, List}
use Rattle.qfs_disk.specs.Disk.{written}
use Rattle.qfs_disk.specs.Moments.{Moment, now, then, past_of, after_write}
use Rattle.qfs_disk.proofs.PastLaws.{one_more, held_more}
use Rattle.qfs_disk.proofs.call_list.CallListMoments.write.Goals as goal

pub invariant_of-self-2 : goal.invariant_of-self-2
invariant_of-self-2 c =
    let was = c.args.self.now in
    let same : c.in_ok-kept.kept.items ≡ c.args.bytes.now = search rules in
    let put : c.put_at.new.old.items ≡ written c.args.at c.args.bytes.now was.bytes.items = search rules in
    record {
      kept = put ∙ ap (λ (l : List ℕ). written c.args.at c.args.bytes.now l) was.kept
          ∙ ap (λ (l : List ℕ). written c.args.at l (now (past_of was.start.items was.calls.items)).bytes) (sym same)
          ∙ sym (ap (λ (m : Moment). m.bytes) (held_more was.start.items was.calls.items c.push.new.self.items _ c.in_ok-push.ensures.items));
    }

pub returns-clause-ok : goal.returns-clause-ok
returns-clause-ok c =
    let was = c.args.self.now in
    let same : c.in_ok-kept.kept.items ≡ c.args.bytes.now = search rules in
    one_more was.start.items was.calls.items _ _ c.in_ok-push.ensures.items
    ∙ ap (λ (l : List ℕ). then (after_write c.args.at l (now (past_of was.start.items was.calls.items))) (past_of was.start.items was.calls.items)) same
