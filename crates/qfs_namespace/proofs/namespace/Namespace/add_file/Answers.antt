use Rattle.std.proofs.Common.{List, None, ap, arith, refl, subst, sym, ◌+◌, ◌∙◌, ◌≡◌, ◌≤◌}
use Rattle.qfs_base.specs.NameTree.{add_refusal, added}
use Rattle.qfs_model_meta.specs.TreeRows as image
use Rattle.qfs_names.specs.Names as names
use Rattle.qfs_names.specs.declared.row.NameRow.{NameRow}
use Rattle.qfs_namespace.specs.Joined.{joined}
use Rattle.qfs_namespace.specs.Namespaces.{IsTied, Namespace}
use Rattle.qfs_namespace.specs.declared.file.KnownFile.{KnownFile}
use Rattle.qfs_namespace.proofs.JoinLaws.{as-rows, joined-file, standing-joined, written-from}
use Rattle.qfs_namespace.proofs.TieLaws.{fresh-rows, tied-file}
use Rattle.qfs_namespace.proofs.namespace.Namespace.add_file.Goals as goal

pub put_file-requires-clause-free : goal.put_file-requires-clause-free
put_file-requires-clause-free c =
    let free = ap (λ s. add_refusal s c.args.path)
    (standing-joined c.self.inside.files.rows c.self.inside.tree.rows
    ∙ ap (λ (n : Namespace). image.standing n.tree) c.self.view_is) ∙ c.requires.free in
    free

pub put_file-requires-clause-some : goal.put_file-requires-clause-some
put_file-requires-clause-some c = c.self.invariant.0.first

pub put_file-requires-clause-fresh : goal.put_file-requires-clause-fresh
put_file-requires-clause-fresh c =
    let rows = c.self.inside.tree.rows in
    let files = c.self.inside.files.rows in
    let next = c.self.inside.next_file in
    let tie = c.self.invariant.0 in
    fresh-rows rows files next tie tie.first

pub invariant_of-self : goal.invariant_of-self
invariant_of-self c =
    let rows = c.self.inside.tree.rows in
    let files = c.self.inside.files.rows in
    let next = c.self.inside.next_file in
    let tie = c.self.invariant.0 in
    let free = ap (λ s. add_refusal s c.args.path)
    (standing-joined c.self.inside.files.rows c.self.inside.tree.rows
    ∙ ap (λ (n : Namespace). image.standing n.tree) c.self.view_is) ∙ c.requires.free in
    let new : KnownFile = record { file = next; actor = c.args.actor; command = c.args.command; len = c.args.len } in
    let room = c.self.invariant.1 in
    let some : 1 ≤ c.self.inside.spare =
    subst (λ (n : Namespace). 1 ≤ n.spare) (sym c.self.view_is) c.requires.room in (
      subst (λ (more : List NameRow). IsTied more c.insert.new.self.rows (next + 1))
          (sym c.put_file.ensures.rows)
          (subst (λ (known : List KnownFile). IsTied (added names.row_path (names.file_at c.args.path next) rows) known (next + 1))
          (sym c.insert.ensures.rows)
          (tied-file rows files next tie c.args.path new
          (as-rows (λ s. add_refusal s c.args.path ≡ None) rows free) refl tie.first)),
      record {
        names = omega (arith, room.names, c.put_file.ensures.spare);
        files = omega (arith, room.files, c.insert.ensures.few);
      },
    )

pub returns-clause-written : goal.returns-clause-written
returns-clause-written c =
    let rows = c.self.inside.tree.rows in
    let files = c.self.inside.files.rows in
    let next = c.self.inside.next_file in
    let tie = c.self.invariant.0 in
    let new : KnownFile = record { file = next; actor = c.args.actor; command = c.args.command; len = c.args.len } in
    let some : 1 ≤ c.self.inside.spare =
    subst (λ (n : Namespace). 1 ≤ n.spare) (sym c.self.view_is) c.requires.room in
    written-from c.args.entry
    (λ n. image.add_row (image.file_row c.args.path n.next_file c.args.actor c.args.command c.args.len) n.tree)
    1 _ _ _ c.self.view_is
    (record {
      tree = (λ i. joined (c.insert.ensures.rows i) (c.put_file.ensures.rows i))
          ∙ joined-file files c.args.path new rows (fresh-rows rows files next tie tie.first);
      history = c.push_reserved.ensures.items;
      spare = omega (arith, some);
      spare_entries = c.push_reserved.ensures.spare;
    })
