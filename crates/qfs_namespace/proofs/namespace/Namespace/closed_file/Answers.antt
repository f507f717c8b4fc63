use Rattle.std.proofs.Common.{ap, find, sym, ◌∙◌}
use Rattle.std.specs.Option.{option_copied, option_map}
use Rattle.qfs_model_meta.specs.TreeRows.{closed_file}
use Rattle.qfs_names.specs.Names.{is_open_of, row_path}
use Rattle.qfs_namespace.specs.Joined.{known_in}
use Rattle.qfs_namespace.specs.Namespaces.{Namespace}
use Rattle.qfs_namespace.proofs.FindLaws.{closed-known, closed-open, closed-unknown, seen-none, seen-some}
use Rattle.qfs_namespace.proofs.namespace.Namespace.closed_file.Goals as goal

pub returns-then-is_some : goal.returns-then-is_some
returns-then-is_some c =
    let rows = c.self.inside.tree.rows in
    let some = seen-some row_path (find (is_open_of c.args.file) rows) c.unclosed_path.result
    c.unclosed_path.ensures (sym c.is_some.ensures ∙ c.if-is_some.true) in
    sym (ap (option_map known_in) (closed-open rows c.self.inside.files.rows c.self.inside.next_file
    c.self.invariant.0 c.form_tree.ensures c.args.file some.0 some.1))
    ∙ ap (λ (n : Namespace). option_map known_in (closed_file c.args.file n.tree)) c.self.view_is

pub returns-in-Some : goal.returns-in-Some
returns-in-Some c =
    let rows = c.self.inside.tree.rows in
    let none = seen-none row_path (find (is_open_of c.args.file) rows) c.unclosed_path.result
    c.unclosed_path.ensures (sym c.is_some.ensures ∙ c.if-is_some.false) in
    closed-known rows c.self.inside.files.rows c.self.inside.next_file c.self.invariant.0 c.args.file
    c.in-Some.row.now (sym c.get.ensures ∙ ap option_copied c.in-Some.is) none
    ∙ ap (λ (n : Namespace). option_map known_in (closed_file c.args.file n.tree)) c.self.view_is

pub returns-in-None : goal.returns-in-None
returns-in-None c =
    sym (ap (option_map known_in) (closed-unknown c.self.inside.tree.rows c.self.inside.files.rows
    c.self.inside.next_file c.self.invariant.0 c.args.file
    (sym c.get.ensures ∙ ap option_copied c.in-None.is)))
    ∙ ap (λ (n : Namespace). option_map known_in (closed_file c.args.file n.tree)) c.self.view_is
