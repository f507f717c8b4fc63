-- What the check leaves to show of `files::Files::close`.
use Rattle.std.proofs.Common.{ap, sym, subst, ◌∙◌, fold}
use Rattle.qfs_base.specs.Table.{change_where}
use Rattle.qfs_files.specs.Open.{Covers, finds}
use Rattle.qfs_files.specs.Rows.{closed_by, is_unclosed_row}
use Rattle.qfs_files.proofs.OpenLaws.{closed_own, covers_closed}
use Rattle.qfs_files.proofs.files.Files.close.Goals as goal

pub invariant_of-self : goal.invariant_of-self
invariant_of-self c =
    let close = c.args.close.now in
    let rows = c.self.inside.rows.rows in
    let places = c.self.inside.places.rows in
    let closed = c.close_rows.ensures
    ∙ ap (fold (λ rows kept. change_where (finds kept)
    (closed_by close.file close.actor close.command) rows) rows) c.run.ensures
    ∙ closed_own close.file close.actor close.command places rows c.self.invariant in
    subst (Covers places) (sym closed)
    (covers_closed close.file close.actor close.command places rows c.self.invariant)

pub returns : goal.returns
returns c =
    let close = c.args.close.now in
    let rows = c.self.inside.rows.rows in
    let places = c.self.inside.places.rows in
    let closed = c.close_rows.ensures
    ∙ ap (fold (λ rows kept. change_where (finds kept)
    (closed_by close.file close.actor close.command) rows) rows) c.run.ensures
    ∙ closed_own close.file close.actor close.command places rows c.self.invariant in
    closed ∙ ap (change_where (is_unclosed_row close.file)
    (closed_by close.file close.actor close.command)) c.self.view_is
