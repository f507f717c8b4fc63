use Rattle.std.proofs.Common.{List, arith, subst, sym, ◌∙◌}
use Rattle.std.specs.Prelude.{IsSome}
use Rattle.qfs_model_meta.specs.TreeRows as image
use Rattle.qfs_names.specs.Names as names
use Rattle.qfs_names.specs.declared.row.NameRow.{NameRow}
use Rattle.qfs_namespace.specs.Joined.{joined}
use Rattle.qfs_namespace.specs.Namespaces.{IsTied, Namespace}
use Rattle.qfs_namespace.specs.declared.file.KnownFile.{KnownFile}
use Rattle.qfs_namespace.proofs.FindLaws.{open-some, open-there}
use Rattle.qfs_namespace.proofs.JoinLaws.{joined-gone, joined-without_file, written-from}
use Rattle.qfs_namespace.proofs.TieLaws.{aborted-rows, tied-aborted}
use Rattle.qfs_namespace.proofs.namespace.Namespace.abort_file.Goals as goal

pub take-requires : goal.take-requires
take-requires c =
    let rows = c.self.inside.tree.rows in
    let files = c.self.inside.files.rows in
    let next = c.self.inside.next_file in
    let tie = c.self.invariant.0 in
    let there = open-there rows files next tie c.requires.unclosed.0 c.args.file
    (subst (λ (n : Namespace). IsSome (image.unclosed_file c.requires.unclosed.0 c.args.file n.tree))
    (sym c.self.view_is) c.requires.unclosed.1) in
    there

pub invariant_of-self : goal.invariant_of-self
invariant_of-self c =
    let rows = c.self.inside.tree.rows in
    let files = c.self.inside.files.rows in
    let next = c.self.inside.next_file in
    let tie = c.self.invariant.0 in
    let room = c.self.invariant.1 in (
      subst (λ (more : List NameRow). IsTied more c.remove.new.self.rows next) (sym c.take.ensures.rows)
          (subst (λ (left : List KnownFile). IsTied (names.take_file c.args.file rows) left next)
          (sym c.remove.ensures.rows)
          (tied-aborted rows files next tie c.form_tree.ensures c.args.file)),
      record {
        names = omega (arith, room.names, c.take.ensures.spare);
        files = omega (arith, room.files, c.remove.ensures.spare);
      },
    )

pub returns-clause-written : goal.returns-clause-written
returns-clause-written c =
    let rows = c.self.inside.tree.rows in
    let files = c.self.inside.files.rows in
    let next = c.self.inside.next_file in
    let tie = c.self.invariant.0 in
    let there = open-there rows files next tie c.requires.unclosed.0 c.args.file
    (subst (λ (n : Namespace). IsSome (image.unclosed_file c.requires.unclosed.0 c.args.file n.tree))
    (sym c.self.view_is) c.requires.unclosed.1) in
    let left = names.take_file c.args.file rows in
    written-from c.args.entry (λ n. image.take_file c.args.file n.tree) 0 _ _ _ c.self.view_is
    (record {
      tree = (λ i. joined (c.remove.ensures.rows i) (c.take.ensures.rows i))
          ∙ joined-gone files c.args.file left
          (aborted-rows rows files next tie c.form_tree.ensures c.args.file
          (open-some c.args.file rows there))
          ∙ joined-without_file files c.args.file rows;
      history = c.push_reserved.ensures.items;
      spare = omega arith;
      spare_entries = c.push_reserved.ensures.spare;
    })
