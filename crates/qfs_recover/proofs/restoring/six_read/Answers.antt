use Rattle.std.proofs.Common.{◌≡◌, ◌∙◌, ap, sym, ◌*◌, ◌+◌}
use Rattle.qfs_base.specs.declared.layout.Window.{Window}
use Rattle.qfs_model_actor.specs.Pieces.{restored_slot}
use Rattle.qfs_recover.specs.Rest.{course_of, rest_of_groups}
use Rattle.qfs_recover.proofs.restoring.six_read.Goals as goal
use Rattle.qfs_repair.proofs.RowGroups.{filled-more, within}
use Rattle.qfs_repair.specs.RowGroups.{group_rows}
use Rattle.qfs_window.specs.Parts.{pieces_of}

pub restore_group-requires-clause-place : goal.restore_group-requires-clause-place
restore_group-requires-clause-place c =
    rw c.group_start-start.ensures.value
    (within c.args.layout.now.s c.args.grant.rows c.args.group c.group_bytes-size.result _ c.requires.more c.group_bytes-size.ensures c.requires.room)

pub restore_group-requires-clause-nine : goal.restore_group-requires-clause-nine
restore_group-requires-clause-nine c =
    let rows : c.args.read.window.rows ≡ group_rows c.args.grant.rows c.args.group = ap (λ (w : Window). w.rows) c.requires.window in
    c.requires.six.room ∙ ap (λ n. 9 * (n * c.args.layout.now.s)) rows ∙ ap (λ n. 9 * n) (sym c.group_bytes-size.ensures)

pub returns-clause-rest : goal.returns-clause-rest
returns-clause-rest c =
    let layout = c.args.layout.now in
    let grant = c.args.grant in
    let rows : group_rows grant.rows c.args.group ≡ c.args.read.window.rows = sym (ap (λ (w : Window). w.rows) c.requires.window) in
    let size : c.group_bytes-size.result ≡ c.args.read.window.rows * layout.s = c.group_bytes-size.ensures ∙ ap (λ n. n * layout.s) rows in
    let put = rw c.group_start-start.ensures.value at c.restore_group.ensures.put in
    let got = filled-more layout.s grant.rows c.args.group c.group_bytes-size.result c.args.chunk.items c.restore_group.new.chunk.items
    (restored_slot (pieces_of c.group_bytes-size.result c.args.read.nine.items c.args.read.have) grant.slot) c.requires.more
    (c.restore_group.ensures.len ∙ c.requires.room) c.group_bytes-size.ensures put in
    c.next_group.ensures.rest
    ∙ ap (rest_of_groups layout (course_of layout c.args.errand) grant (c.args.group + 1) c.args.read.sources) (rw size at got)
