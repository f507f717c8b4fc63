use Rattle.std.proofs.Common.{List, None, ap, arith, subst, sym, ◌∙◌, ◌≡◌}
use Rattle.qfs_base.specs.NameTree.{rmdir_refusal}
use Rattle.qfs_model_meta.specs.TreeRows as image
use Rattle.qfs_names.specs.declared.row.NameRow.{NameRow}
use Rattle.qfs_namespace.specs.Joined.{joined}
use Rattle.qfs_namespace.specs.Namespaces.{IsTied, Namespace}
use Rattle.qfs_namespace.proofs.JoinLaws.{as-rows, joined-taken, standing-joined, written-from}
use Rattle.qfs_namespace.proofs.TieLaws.{tied-emptied}
use Rattle.qfs_namespace.proofs.namespace.Namespace.take_directory.Goals as goal

pub take_directory-requires : goal.take_directory-requires
take_directory-requires c =
    let free = ap (λ s. rmdir_refusal s c.args.path.now)
    (standing-joined c.self.inside.files.rows c.self.inside.tree.rows
    ∙ ap (λ (n : Namespace). image.standing n.tree) c.self.view_is) ∙ c.requires.empty in
    free

pub invariant_of-self : goal.invariant_of-self
invariant_of-self c =
    let rows = c.self.inside.tree.rows in
    let files = c.self.inside.files.rows in
    let next = c.self.inside.next_file in
    let tie = c.self.invariant.0 in
    let free = ap (λ s. rmdir_refusal s c.args.path.now)
    (standing-joined c.self.inside.files.rows c.self.inside.tree.rows
    ∙ ap (λ (n : Namespace). image.standing n.tree) c.self.view_is) ∙ c.requires.empty in
    let room = c.self.invariant.1 in (
      subst (λ (more : List NameRow). IsTied more files next) (sym c.take_directory.ensures.rows)
          (tied-emptied rows files next tie c.form_tree.ensures c.args.path.now
          (as-rows (λ s. rmdir_refusal s c.args.path.now ≡ None) rows free)),
      record {
        names = omega (arith, room.names, c.take_directory.ensures.spare);
        files = room.files;
      },
    )

pub returns-clause-written : goal.returns-clause-written
returns-clause-written c =
    written-from c.args.entry (λ n. image.take_path c.args.path.now n.tree) 0 _ _ _ c.self.view_is
    (record {
      tree = ap (joined c.self.inside.files.rows) c.take_directory.ensures.rows
          ∙ joined-taken c.self.inside.files.rows c.args.path.now c.self.inside.tree.rows;
      history = c.push_reserved.ensures.items;
      spare = omega arith;
      spare_entries = c.push_reserved.ensures.spare;
    })
