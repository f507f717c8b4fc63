-- What the check leaves to show of `files::Files::give_up`.
use Rattle.std.proofs.Common.{ap, sym, subst, ◌∙◌, fold}
use Rattle.qfs_base.specs.EachLaws.{each_filter}
use Rattle.qfs_base.specs.Table.{without}
use Rattle.qfs_files.specs.Open.{Covers, IsCovered, finds}
use Rattle.qfs_files.specs.Rows.{is_unclosed_row}
use Rattle.qfs_files.proofs.OpenLaws.{taken_own}
use Rattle.qfs_files.proofs.files.Files.give_up.Goals as goal

pub invariant_of-self : goal.invariant_of-self
invariant_of-self c =
    let rows = c.self.inside.rows.rows in
    let places = c.self.inside.places.rows in
    let taken = c.take_rows.ensures
    ∙ ap (fold (λ rows kept. without (finds kept) rows) rows) c.run.ensures
    ∙ taken_own c.args.file places rows c.self.invariant in
    subst (Covers places) (sym taken)
    (each_filter (IsCovered places) _ rows c.self.invariant)

pub returns : goal.returns
returns c =
    let rows = c.self.inside.rows.rows in
    let places = c.self.inside.places.rows in
    let taken = c.take_rows.ensures
    ∙ ap (fold (λ rows kept. without (finds kept) rows) rows) c.run.ensures
    ∙ taken_own c.args.file places rows c.self.invariant in
    taken ∙ ap (without (is_unclosed_row c.args.file)) c.self.view_is
