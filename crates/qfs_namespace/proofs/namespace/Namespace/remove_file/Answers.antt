use Rattle.std.proofs.Common.{List, None, ap, arith, subst, sym, ◌<◌, ◌∙◌, ◌≡◌}
use Rattle.qfs_base.specs.NameTree.{look_refusal, taken}
use Rattle.qfs_model_meta.specs.TreeRows as image
use Rattle.qfs_names.specs.Names as names
use Rattle.qfs_names.specs.declared.row.NameRow.{NameRow}
use Rattle.qfs_namespace.specs.Joined.{joined}
use Rattle.qfs_namespace.specs.Namespaces.{IsTied, Namespace}
use Rattle.qfs_namespace.specs.declared.file.KnownFile.{KnownFile}
use Rattle.qfs_namespace.proofs.FindLaws.{at-as, looked-number}
use Rattle.qfs_namespace.proofs.JoinLaws.{as-rows, joined-gone, joined-taken, standing-joined, written-from}
use Rattle.qfs_namespace.proofs.TieLaws.{removed-rows, tied-removed}
use Rattle.qfs_namespace.proofs.namespace.Namespace.remove_file.Goals as goal

pub take_closed-file-requires : goal.take_closed-file-requires
take_closed-file-requires c =
    let free = ap (λ s. look_refusal s c.args.path.now)
    (standing-joined c.self.inside.files.rows c.self.inside.tree.rows
    ∙ ap (λ (n : Namespace). image.standing n.tree) c.self.view_is) ∙ c.requires.closed in
    free

pub invariant_of-self : goal.invariant_of-self
invariant_of-self c =
    let rows = c.self.inside.tree.rows in
    let files = c.self.inside.files.rows in
    let next = c.self.inside.next_file in
    let tie = c.self.invariant.0 in
    let free = ap (λ s. look_refusal s c.args.path.now)
    (standing-joined c.self.inside.files.rows c.self.inside.tree.rows
    ∙ ap (λ (n : Namespace). image.standing n.tree) c.self.view_is) ∙ c.requires.closed in
    let looks = as-rows (λ s. look_refusal s c.args.path.now ≡ None) rows free in
    let own = at-as c.args.path.now rows ∙ sym c.take_closed-file.ensures.file in
    let room = c.self.invariant.1 in (
      subst (λ (more : List NameRow). IsTied more c.remove.new.self.rows next)
          (sym c.take_closed-file.ensures.rows)
          (subst (λ (left : List KnownFile). IsTied (taken names.row_path c.args.path.now rows) left next)
          (sym c.remove.ensures.rows)
          (tied-removed rows files next tie c.form_tree.ensures c.args.path.now
          c.take_closed-file.result looks own)),
      record {
        names = omega (arith, room.names, c.take_closed-file.ensures.spare);
        files = omega (arith, room.files, c.remove.ensures.spare);
      },
    )

pub returns-clause-written : goal.returns-clause-written
returns-clause-written c =
    let rows = c.self.inside.tree.rows in
    let files = c.self.inside.files.rows in
    let next = c.self.inside.next_file in
    let tie = c.self.invariant.0 in
    let free = ap (λ s. look_refusal s c.args.path.now)
    (standing-joined c.self.inside.files.rows c.self.inside.tree.rows
    ∙ ap (λ (n : Namespace). image.standing n.tree) c.self.view_is) ∙ c.requires.closed in
    let looks = as-rows (λ s. look_refusal s c.args.path.now ≡ None) rows free in
    let own = at-as c.args.path.now rows ∙ sym c.take_closed-file.ensures.file in
    let path = c.args.path.now in
    written-from c.args.entry (λ n. image.take_path path n.tree) 0 _ _ _ c.self.view_is
    (record {
      tree = (λ i. joined (c.remove.ensures.rows i) (c.take_closed-file.ensures.rows i))
          ∙ joined-gone files c.take_closed-file.result (taken names.row_path path rows)
          (removed-rows rows files next tie c.form_tree.ensures path c.take_closed-file.result looks own
          (subst (λ n. 0 < n) own (looked-number path rows looks)))
          ∙ joined-taken files path rows;
      history = c.push_reserved.ensures.items;
      spare = omega arith;
      spare_entries = c.push_reserved.ensures.spare;
    })
