-- What the check leaves to show of `changes::keep_open`.
use Rattle.std.proofs.Common.{sym, subst, ◌∙◌}
use Rattle.qfs_base.specs.Table.{place}
use Rattle.qfs_files.specs.Keys.{open_cmp}
use Rattle.qfs_files.specs.Open.{IsCovered}
use Rattle.qfs_files.proofs.OpenLaws.{covers_own, kept_finds}
use Rattle.qfs_files.proofs.changes.keep_open.Goals as goal

pub returns-in_ok-reserve-clause-own : goal.returns-in_ok-reserve-clause-own
returns-in_ok-reserve-clause-own c =
    let places = c.reserve.new.self.rows in
    let row = c.args.row.now in
    subst (λ places. IsCovered places row) (sym c.insert.ensures.rows)
    (subst (λ names. IsCovered (place open_cmp (record { file = c.in-Unclosed.file; names = names })
    places) row) (sym (c.in_ok-names.ensures ∙ c.as_slice.ensures))
    (covers_own c.in-Unclosed.file places row c.in-Unclosed.is))

pub returns-in_ok-reserve-clause-others : goal.returns-in_ok-reserve-clause-others
returns-in_ok-reserve-clause-others c row covered file own =
    let places = c.reserve.new.self.rows in
    subst (λ places. IsCovered places row) (sym c.insert.ensures.rows)
    (λ file own. kept_finds _ places row
    (subst (λ places. IsCovered places row) (sym c.reserve.ensures.rows) covered file own)) file own
