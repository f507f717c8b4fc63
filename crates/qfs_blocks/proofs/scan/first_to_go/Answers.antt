-- What the check leaves to show of `scan::first_to_go`.
use Rattle.std.proofs.Common.{ap, sym, ◌∙◌, cond, find, Some}
use Rattle.std.specs.Option.{option_map}
use Rattle.qfs_blocks.specs.Entries.{condemned_of, entry_may_go}
use Rattle.qfs_blocks.proofs.scan.first_to_go.Goals as goal

pub loop-row-preserved : goal.loop-row-preserved
loop-row-preserved g c =
    let goes = entry_may_go c.args.servers.now (g.V.LeaseView.leases c.args.leases.now) in
    c.loop-row.invariant ∙ ap (find goes) c.in-Some.ensures.steps
    ∙ ap (λ b. cond b (Some c.in-Some.row.now) (find goes c.next.new.self))
    (sym (c.may_go.ensures ∙ ap goes c.entry-entry.ensures) ∙ c.if-may_go.false)

pub returns-then-may_go : goal.returns-then-may_go
returns-then-may_go g c =
    let goes = entry_may_go c.args.servers.now (g.V.LeaseView.leases c.args.leases.now) in
    ap (λ entry. Some (condemned_of entry)) c.entry-entry.ensures
    ∙ sym (ap (option_map condemned_of) (c.loop-row.invariant
    ∙ ap (find goes) c.in-Some.ensures.steps
    ∙ ap (λ b. cond b (Some c.in-Some.row.now) (find goes c.next.new.self))
    (sym (c.may_go.ensures ∙ ap goes c.entry-entry.ensures) ∙ c.if-may_go.true)))
