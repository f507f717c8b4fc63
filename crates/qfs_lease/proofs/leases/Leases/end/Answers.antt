-- What the check leaves to show of `leases::Leases::end`.
use Rattle.std.proofs.Common.{ap, sym, ◌∙◌}
use Rattle.std.specs.Option.{is_some}
use Rattle.qfs_base.specs.Table.{has_key, without}
use Rattle.qfs_model_meta.specs.Leases.{end_lease, is_lease, is_live_lease}
use Rattle.qfs_laws_tables.specs.SomeRow.{some-any}
use Rattle.qfs_lease.specs.Indexes.{end_of, file_of, row_by}
use Rattle.qfs_lease.specs.IndexKeys.{index_cmp}
use Rattle.qfs_lease.specs.LiveLeases.{LiveLeases}
use Rattle.qfs_lease.proofs.TableLaws.{tables_ended, tables_kept}
use Rattle.qfs_lease.proofs.leases.Leases.end.Goals as goal

pub invariant_of-self : goal.invariant_of-self
invariant_of-self c =
    let files = c.remove-in-Some.ensures in
    let ends = c.remove-in-Some-2.ensures in
    let numbers = c.remove.ensures in
    tables_ended c.self.invariant c.remove.new.self c.remove-in-Some.new.self
    c.remove-in-Some-2.new.self c.args.lease c.in-Some.row (sym numbers.row ∙ c.in-Some.is)
    numbers.rows
    (files.rows ∙ ap (λ row. without (has_key (index_cmp row)) c.self.inside.by_file.rows)
    (c.by_file.ensures ∙ ap (row_by file_of) c.lease-lease.ensures))
    (ends.rows ∙ ap (λ row. without (has_key (index_cmp row)) c.self.inside.by_end.rows)
    (c.by_end.ensures ∙ ap (row_by end_of) c.lease-lease.ensures))
    numbers.spare files.spare ends.spare

pub invariant_of-self-in-None : goal.invariant_of-self-in-None
invariant_of-self-in-None c =
    let numbers = c.remove.ensures in
    tables_kept c.self.invariant c.remove.new.self c.args.lease (sym numbers.row ∙ c.in-None.is)
    numbers.rows numbers.spare

pub returns-in-Some-clause-live : goal.returns-in-Some-clause-live
unfolding is_live_lease is_lease
returns-in-Some-clause-live c =
    let seen = ap (λ (it : LiveLeases). it.leases) c.self.view_is in
    sym (ap is_some (sym c.remove.ensures.row ∙ c.in-Some.is))
    ∙ some-any (is_lease c.args.lease) c.self.inside.by_number.rows
    ∙ ap (is_live_lease c.args.lease) seen

pub returns-in-Some-clause-leases : goal.returns-in-Some-clause-leases
unfolding end_lease is_lease
returns-in-Some-clause-leases c =
    c.remove.ensures.rows
    ∙ ap (λ (it : LiveLeases). end_lease c.args.lease it.leases) c.self.view_is

pub returns-in-None-clause-live : goal.returns-in-None-clause-live
unfolding is_live_lease is_lease
returns-in-None-clause-live c =
    let seen = ap (λ (it : LiveLeases). it.leases) c.self.view_is in
    sym (ap is_some (sym c.remove.ensures.row ∙ c.in-None.is))
    ∙ some-any (is_lease c.args.lease) c.self.inside.by_number.rows
    ∙ ap (is_live_lease c.args.lease) seen

pub returns-in-None-clause-leases : goal.returns-in-None-clause-leases
unfolding end_lease is_lease
returns-in-None-clause-leases c =
    c.remove.ensures.rows
    ∙ ap (λ (it : LiveLeases). end_lease c.args.lease it.leases) c.self.view_is
