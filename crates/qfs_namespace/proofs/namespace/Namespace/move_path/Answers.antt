use Rattle.std.proofs.Common.{List, None, ap, arith, length, map, subst, sym, ◌∙◌, ◌≡◌, ◌≤◌}
use Rattle.qfs_base.specs.NameTree.{rename_refusal}
use Rattle.qfs_base.specs.Path.{IsPath}
use Rattle.qfs_model_meta.specs.TreeRows as image
use Rattle.qfs_names.specs.Moves.{IsMove}
use Rattle.qfs_names.specs.declared.row.NameRow.{NameRow}
use Rattle.qfs_namespace.specs.Joined.{joined}
use Rattle.qfs_namespace.specs.Namespaces.{IsTied, Namespace, name_in_row}
use Rattle.qfs_namespace.proofs.JoinLaws.{as-rows, joined-moved, names-joined, standing-joined, written-from}
use Rattle.qfs_namespace.proofs.TieLaws.{tied-moved}
use Rattle.qfs_namespace.proofs.namespace.Namespace.move_path.Goals as goal

pub put_moved-requires-clause-free : goal.put_moved-requires-clause-free
put_moved-requires-clause-free c =
    let free = ap (λ s. rename_refusal s c.args.from.now c.args.to.now)
    (standing-joined c.self.inside.files.rows c.self.inside.tree.rows
    ∙ ap (λ (n : Namespace). image.standing n.tree) c.self.view_is) ∙ c.requires.free in
    free

pub put_moved-requires-clause-plan : goal.put_moved-requires-clause-plan
put_moved-requires-clause-plan c =
    subst (λ (more : List NameRow). IsMove c.args.from.now c.args.to.now more c.args.moved)
    (ap (λ (n : Namespace). map name_in_row n.tree) (sym c.self.view_is)
    ∙ names-joined c.self.inside.files.rows c.self.inside.tree.rows)
    c.requires.plan

pub invariant_of-self : goal.invariant_of-self
invariant_of-self c =
    let rows = c.self.inside.tree.rows in
    let files = c.self.inside.files.rows in
    let next = c.self.inside.next_file in
    let tie = c.self.invariant.0 in
    let free = ap (λ s. rename_refusal s c.args.from.now c.args.to.now)
    (standing-joined c.self.inside.files.rows c.self.inside.tree.rows
    ∙ ap (λ (n : Namespace). image.standing n.tree) c.self.view_is) ∙ c.requires.free in
    let room = c.self.invariant.1 in
    let some = subst (λ (n : Namespace). length c.args.moved.rows.items ≤ n.spare) (sym c.self.view_is)
    c.requires.room in (
      subst (λ (more : List NameRow). IsTied more files next) (sym c.put_moved.ensures.rows)
          (tied-moved rows files next tie c.form_tree.ensures c.args.from.now c.args.to.now
          (subst IsPath c.to.view_is c.to.invariant)
          (as-rows (λ s. rename_refusal s c.args.from.now c.args.to.now ≡ None) rows free)),
      record {
        names = omega (arith, some, c.len.ensures, room.names, c.put_moved.ensures.spare);
        files = omega (arith, room.files);
      },
    )

pub returns-clause-written : goal.returns-clause-written
returns-clause-written c =
    let some = subst (λ (n : Namespace). length c.args.moved.rows.items ≤ n.spare) (sym c.self.view_is)
    c.requires.room in
    written-from c.args.entry (λ n. image.move_path c.args.from.now c.args.to.now n.tree)
    (length c.args.moved.rows.items) _ _ _ c.self.view_is
    (record {
      tree = ap (joined c.self.inside.files.rows) c.put_moved.ensures.rows
          ∙ joined-moved c.self.inside.files.rows c.args.from.now c.args.to.now c.self.inside.tree.rows;
      history = c.push_reserved.ensures.items;
      spare = omega (arith, some, c.len.ensures);
      spare_entries = c.push_reserved.ensures.spare;
    })
