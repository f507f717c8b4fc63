use Rattle.std.proofs.Common.{List, None, ap, arith, subst, sym, ◌∙◌, ◌≡◌, ◌≤◌}
use Rattle.qfs_base.specs.NameTree.{add_refusal}
use Rattle.qfs_model_meta.specs.TreeRows as image
use Rattle.qfs_names.specs.declared.row.NameRow.{NameRow}
use Rattle.qfs_namespace.specs.Joined.{joined}
use Rattle.qfs_namespace.specs.Namespaces.{IsTied, Namespace}
use Rattle.qfs_namespace.proofs.FindLaws.{zero-known}
use Rattle.qfs_namespace.proofs.JoinLaws.{as-rows, joined-directory, standing-joined, written-from}
use Rattle.qfs_namespace.proofs.TieLaws.{tied-directory}
use Rattle.qfs_namespace.proofs.namespace.Namespace.add_directory.Goals as goal

pub put_directory-requires-clause-free : goal.put_directory-requires-clause-free
put_directory-requires-clause-free c =
    let free = ap (λ s. add_refusal s c.args.path)
    (standing-joined c.self.inside.files.rows c.self.inside.tree.rows
    ∙ ap (λ (n : Namespace). image.standing n.tree) c.self.view_is) ∙ c.requires.free in
    free

pub invariant_of-self : goal.invariant_of-self
invariant_of-self c =
    let rows = c.self.inside.tree.rows in
    let files = c.self.inside.files.rows in
    let next = c.self.inside.next_file in
    let tie = c.self.invariant.0 in
    let free = ap (λ s. add_refusal s c.args.path)
    (standing-joined c.self.inside.files.rows c.self.inside.tree.rows
    ∙ ap (λ (n : Namespace). image.standing n.tree) c.self.view_is) ∙ c.requires.free in
    let room = c.self.invariant.1 in
    let some : 1 ≤ c.self.inside.spare =
    subst (λ (n : Namespace). 1 ≤ n.spare) (sym c.self.view_is) c.requires.room in (
      subst (λ (more : List NameRow). IsTied more files next) (sym c.put_directory.ensures.rows)
          (tied-directory rows files next tie c.args.path
          (as-rows (λ s. add_refusal s c.args.path ≡ None) rows free)),
      record {
        names = omega (arith, room.names, c.put_directory.ensures.spare);
        files = omega (arith, room.files);
      },
    )

pub returns-clause-written : goal.returns-clause-written
returns-clause-written c =
    let rows = c.self.inside.tree.rows in
    let files = c.self.inside.files.rows in
    let next = c.self.inside.next_file in
    let tie = c.self.invariant.0 in
    let some : 1 ≤ c.self.inside.spare =
    subst (λ (n : Namespace). 1 ≤ n.spare) (sym c.self.view_is) c.requires.room in
    written-from c.args.entry (λ n. image.add_row (image.directory_row c.args.path) n.tree) 1 _ _ _
    c.self.view_is
    (record {
      tree = ap (joined files) c.put_directory.ensures.rows
          ∙ joined-directory files c.args.path rows (zero-known rows files next tie);
      history = c.push_reserved.ensures.items;
      spare = omega (arith, some);
      spare_entries = c.push_reserved.ensures.spare;
    })
