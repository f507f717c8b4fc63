use Rattle.std.proofs.Common.{Some, ap, find, not, sym, ◌∙◌}
use Rattle.std.specs.Option.{option_map}
use Rattle.qfs_model_meta.specs.TreeRows.{unclosed_file}
use Rattle.qfs_names.specs.Names.{is_open_of, row_path}
use Rattle.qfs_namespace.specs.Joined.{known_in}
use Rattle.qfs_namespace.specs.Namespaces.{Namespace}
use Rattle.qfs_namespace.specs.declared.file.KnownFile.{KnownFile}
use Rattle.qfs_namespace.proofs.FindLaws.{seen-none, seen-some, unclosed-known, unclosed-none, unclosed-other}
use Rattle.qfs_namespace.proofs.namespace.Namespace.unclosed_file.Goals as goal

pub returns-then-is_none : goal.returns-then-is_none
returns-then-is_none c =
    let rows = c.self.inside.tree.rows in
    let none = seen-none row_path (find (is_open_of c.args.file) rows) c.unclosed_path.result
    c.unclosed_path.ensures (c.is_none.ensures ∙ ap not c.if-is_none.true) in
    sym (ap (option_map known_in) (unclosed-none rows c.self.inside.files.rows c.self.inside.next_file
    c.self.invariant.0 c.args.actor c.args.file none))
    ∙ ap (λ (n : Namespace). option_map known_in (unclosed_file c.args.actor c.args.file n.tree)) c.self.view_is

pub returns-then-row-actor : goal.returns-then-row-actor
returns-then-row-actor c =
    let rows = c.self.inside.tree.rows in
    let some = seen-some row_path (find (is_open_of c.args.file) rows) c.unclosed_path.result
    c.unclosed_path.ensures (c.is_none.ensures ∙ ap not c.if-is_none.false) in
    ap Some c.known-row.ensures
    ∙ unclosed-known rows c.self.inside.files.rows c.self.inside.next_file c.self.invariant.0
    c.args.actor c.args.file some.0 some.1
    (ap (λ (k : KnownFile). k.actor) (sym c.known-row.ensures) ∙ c.if-row-actor.true)
    ∙ ap (λ (n : Namespace). option_map known_in (unclosed_file c.args.actor c.args.file n.tree)) c.self.view_is

pub returns-else-row-actor : goal.returns-else-row-actor
returns-else-row-actor c =
    sym (ap (option_map known_in) (unclosed-other c.self.inside.tree.rows c.self.inside.files.rows
    c.self.inside.next_file c.self.invariant.0 c.args.actor c.args.file
    (λ same. c.if-row-actor.false (ap (λ (k : KnownFile). k.actor) c.known-row.ensures ∙ same))))
    ∙ ap (λ (n : Namespace). option_map known_in (unclosed_file c.args.actor c.args.file n.tree)) c.self.view_is
