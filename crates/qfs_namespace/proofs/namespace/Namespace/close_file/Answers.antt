use Rattle.std.proofs.Common.{List, ap, arith, subst, sym, ◌∙◌}
use Rattle.std.specs.Prelude.{IsSome}
use Rattle.qfs_model_meta.specs.TreeRows as image
use Rattle.qfs_names.specs.declared.row.NameRow.{NameRow}
use Rattle.qfs_namespace.specs.Joined.{joined}
use Rattle.qfs_namespace.specs.Namespaces.{IsTied, Namespace}
use Rattle.qfs_namespace.proofs.FindLaws.{open-there}
use Rattle.qfs_namespace.proofs.JoinLaws.{joined-closed, written-from}
use Rattle.qfs_namespace.proofs.TieLaws.{tied-closed}
use Rattle.qfs_namespace.proofs.namespace.Namespace.close_file.Goals as goal

pub close-requires : goal.close-requires
close-requires c =
    let rows = c.self.inside.tree.rows in
    let files = c.self.inside.files.rows in
    let next = c.self.inside.next_file in
    let tie = c.self.invariant.0 in
    open-there rows files next tie c.args.actor c.args.file
    (subst (λ (n : Namespace). IsSome (image.unclosed_file c.args.actor c.args.file n.tree))
    (sym c.self.view_is) c.requires.unclosed)

pub invariant_of-self : goal.invariant_of-self
invariant_of-self c =
    let rows = c.self.inside.tree.rows in
    let files = c.self.inside.files.rows in
    let next = c.self.inside.next_file in
    let tie = c.self.invariant.0 in
    let room = c.self.invariant.1 in (
      subst (λ (more : List NameRow). IsTied more files next) (sym c.close.ensures.rows)
          (tied-closed rows files next tie c.form_tree.ensures c.args.file),
      record {
        names = omega (arith, room.names, c.close.ensures.spare);
        files = room.files;
      },
    )

pub returns-clause-written : goal.returns-clause-written
returns-clause-written c =
    written-from c.args.entry (λ n. image.close_file c.args.file n.tree) 0 _ _ _ c.self.view_is
    (record {
      tree = ap (joined c.self.inside.files.rows) c.close.ensures.rows
          ∙ joined-closed c.self.inside.files.rows c.args.file c.self.inside.tree.rows;
      history = c.push_reserved.ensures.items;
      spare = omega arith;
      spare_entries = c.push_reserved.ensures.spare;
    })
