use Rattle.std.proofs.Common.{◌++◌}
use Rattle.std.proofs.lemmas.Result.{on_ok_weaker}
use Rattle.qfs_model_disks.specs.Image.{counters, server_view, tree_row}
use Rattle.qfs_record.specs.Part.{listed}
use Rattle.qfs_spelling.specs.Sets.{set_row}
use Rattle.qfs_spelling.proofs.Fronts.{before}
use Rattle.qfs_image.specs.Kept.{later_lists}
use Rattle.qfs_image.proofs.writing.put_state.Goals as goal

pub returns-clause-ok : goal.returns-clause-ok
returns-clause-ok c =
    let state = c.args.state.now in
    let all = c.put_later_lists.new.out.items in
    let counted = counters.text (state.turn, (state.clock, (state.next_file, (state.next_lease, state.next_condemned)))) in
    let servers = (listed server_view).text state.servers in
    let tree = (listed tree_row).text state.tree in
    let slots = (listed set_row).text state.slots in
    let later = later_lists.text (state.leases, (state.condemned, (state.dropped, state.history))) in
    on_ok_weaker c.put_later_lists.result
    (λ e.
    before c.args.out.now.items c.put_counters.new.out.items all counted (servers ++ (tree ++ (slots ++ later))) c.in_ok-put_counters.ensures.ok
    (before c.put_counters.new.out.items c.put.new.out.items all servers (tree ++ (slots ++ later)) c.in_ok-put.ensures.ok
    (before c.put.new.out.items c.put-2.new.out.items all tree (slots ++ later) c.in_ok-put-2.ensures.ok
    (before c.put-2.new.out.items c.put-3.new.out.items all slots later c.in_ok-put-3.ensures.ok e))))
    c.put_later_lists.ensures.ok
