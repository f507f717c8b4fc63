-- What the check leaves to show of `leases::Leases::put`.
use Rattle.std.proofs.Common.{◌≤◌, ◌++◌, ◌∷◌, [], ap, ◌∙◌, arith, length, length-append}
use Rattle.qfs_base.specs.Table.{place}
use Rattle.qfs_model_meta.specs.Leases.{lease_cmp}
use Rattle.qfs_lease.specs.IndexKeys.{index_cmp}
use Rattle.qfs_lease.specs.LiveLeases.{LiveLeases}
use Rattle.qfs_lease.proofs.TableLaws.{given_last, tables_given}
use Rattle.qfs_lease.proofs.leases.Leases.put.Goals as goal

pub invariant_of-self : goal.invariant_of-self
invariant_of-self c =
    let rows = c.self.inside.by_number.rows in
    let seen = ap (λ (it : LiveLeases). it.next) c.self.view_is in
    let high : c.self.inside.next ≤ c.args.lease.lease = omega (arith, seen, c.requires.number) in
    let placed = c.insert-2.ensures.rows ∙ ap (λ lease. place lease_cmp lease rows) c.new.ensures in
    let last = placed ∙ given_last c.self.invariant c.args.lease high in
    tables_given c.self.invariant c.insert-2.new.self c.insert.new.self c.put_end.new.by_end
    c.args.lease high c.requires.last placed
    (c.insert.ensures.rows
    ∙ ap (λ row. place index_cmp row c.self.inside.by_file.rows) c.by_file.ensures)
    c.put_end.ensures.rows
    (omega (
      arith,
      c.insert-2.ensures.spare,
      ap length last,
      length-append rows (c.args.lease ∷ []),
    ))
    c.insert.ensures.few c.put_end.ensures.spare

pub returns-clause-leases : goal.returns-clause-leases
returns-clause-leases c =
    let seen = ap (λ (it : LiveLeases). it.next) c.self.view_is in
    let high : c.self.inside.next ≤ c.args.lease.lease = omega (arith, seen, c.requires.number) in
    c.insert-2.ensures.rows
    ∙ ap (λ lease. place lease_cmp lease c.self.inside.by_number.rows) c.new.ensures
    ∙ given_last c.self.invariant c.args.lease high
    ∙ ap (λ (it : LiveLeases). it.leases ++ c.args.lease ∷ []) c.self.view_is

pub returns-clause-spare : goal.returns-clause-spare
returns-clause-spare c =
    let rows = c.self.inside.by_number.rows in
    let seen = ap (λ (it : LiveLeases). it.next) c.self.view_is in
    let high : c.self.inside.next ≤ c.args.lease.lease = omega (arith, seen, c.requires.number) in
    let last = c.insert-2.ensures.rows ∙ ap (λ lease. place lease_cmp lease rows) c.new.ensures
    ∙ given_last c.self.invariant c.args.lease high in
    omega (
      arith,
      c.insert-2.ensures.spare,
      ap length last,
      length-append rows (c.args.lease ∷ []),
      ap (λ (it : LiveLeases). it.spare) c.self.view_is,
    )
