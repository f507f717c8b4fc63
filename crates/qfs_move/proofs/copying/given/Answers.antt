use Rattle.std.proofs.Common.{◌∙◌, refl, sym, arith, length, ◌*◌, ◌+◌, ◌≤◌}
use Rattle.qfs_move.specs.Rest.{course_of, rest_of_move}
use Rattle.qfs_repair.specs.Deliveries.{rest_of_delivery}
use Rattle.qfs_move.proofs.Groups.{last-group, next-group}
use Rattle.qfs_repair.proofs.RowGroups.{chunk-bound, filled-all, filled-more, within}
use Rattle.qfs_move.proofs.copying.given.Goals as goal

pub put_group-requires : goal.put_group-requires
put_group-requires c =
    rw c.group_start-start.ensures.value
    (within c.args.layout.now.s c.args.copying.grant.rows c.args.copying.group (length c.args.bytes.now) _ c.requires.at.more c.requires.bytes c.requires.room)

pub returns-then-copying-clause-rest : goal.returns-then-copying-clause-rest
unfolding rest_of_move
returns-then-copying-clause-rest c =
    let layout = c.args.layout.now in
    let copying = c.args.copying in
    let put = rw c.group_start-start.ensures.value at c.put_group.ensures.put in
    let got = filled-more layout.s copying.grant.rows copying.group (length c.args.bytes.now) copying.chunk.items c.put_group.new.chunk.items c.args.bytes.now c.requires.at.more
    (c.put_group.ensures.len ∙ c.requires.room) c.requires.bytes put in
    next-group layout (course_of layout c.args.errand copying.source) copying _ c.args.bytes.now refl refl refl got

pub returns-clause-rest : goal.returns-clause-rest
unfolding rest_of_move rest_of_delivery
returns-clause-rest c =
    let layout = c.args.layout.now in
    let copying = c.args.copying in
    let past : copying.grant.rows ≤ (copying.group + 1) * 16 = omega (arith, c.if-copying.false) in
    let whole = c.put_group.ensures.len ∙ c.requires.room in
    let put = rw c.group_start-start.ensures.value at c.put_group.ensures.put in
    let got = filled-more layout.s copying.grant.rows copying.group (length c.args.bytes.now) copying.chunk.items c.put_group.new.chunk.items c.args.bytes.now c.requires.at.more
    whole c.requires.bytes put in
    let all = sym (filled-all layout.s copying.grant.rows (copying.group + 1) c.put_group.new.chunk.items past whole) ∙ got in
    rw (c.new-chunk.ensures.bytes, c.from_vec.ensures, all)
    (last-group layout (course_of layout c.args.errand copying.source) copying c.args.bytes.now past)

pub returns-clause-at : goal.returns-clause-at
returns-clause-at c = (
  c.requires.errand,
  (
    c.requires.at.slot,
    rw (c.new-chunk.ensures.bytes, c.from_vec.ensures)
        (chunk-bound c.args.layout.now.s c.args.copying.grant.rows c.put_group.new.chunk.items (c.put_group.ensures.len ∙ c.requires.room) c.requires.at.rows c.group_start-start.ensures.stripe),
  ),
)
