use Rattle.std.proofs.Common.{◌++◌}
use Rattle.std.proofs.lemmas.Result.{on_ok_weaker}
use Rattle.qfs_model_disks.specs.Image.{condemned_row, dropped_actor, entry, lease}
use Rattle.qfs_record.specs.Part.{listed}
use Rattle.qfs_spelling.proofs.Fronts.{before}
use Rattle.qfs_image.proofs.writing.put_later_lists.Goals as goal

pub returns-clause-ok : goal.returns-clause-ok
returns-clause-ok c =
    let state = c.args.state.now in
    let all = c.put-4.new.out.items in
    let leases = (listed lease).text state.leases in
    let condemned = (listed condemned_row).text state.condemned in
    let dropped = (listed dropped_actor).text state.dropped in
    let history = (listed entry).text state.history in
    on_ok_weaker c.put-4.result
    (λ e.
    before c.args.out.now.items c.put.new.out.items all leases (condemned ++ (dropped ++ history)) c.in_ok-put.ensures.ok
    (before c.put.new.out.items c.put-2.new.out.items all condemned (dropped ++ history) c.in_ok-put-2.ensures.ok
    (before c.put-2.new.out.items c.put-3.new.out.items all dropped history c.in_ok-put-3.ensures.ok e)))
    c.put-4.ensures.ok
