-- What the check leaves to show of `listing::names_below`.
use Rattle.std.proofs.Common.{ap, sym, ◌∙◌, ◌++◌}
use Rattle.std.proofs.lemmas.List.{append-nil}
use Rattle.std.specs.List.{filter_map}
use Rattle.qfs_files.specs.Rows.{child_at}
use Rattle.qfs_files.proofs.RuleLaws.{children, push_option}
use Rattle.qfs_files.proofs.listing.names_below.Goals as goal

pub loop-row-preserved : goal.loop-row-preserved
loop-row-preserved c =
    let child = child_at c.args.directory.now in
    ap (λ names. names ++ filter_map child c.next.new.self) c.in_ok-push_child.ensures
    ∙ push_option c.loop-row.found (child c.in-Some.row.now) (filter_map child c.next.new.self)
    ∙ sym (ap (λ rows. c.loop-row.found ++ filter_map child rows) c.in-Some.ensures.steps)
    ∙ c.loop-row.invariant

pub returns : goal.returns
returns c =
    let child = child_at c.args.directory.now in
    sym (append-nil c.loop-row.found)
    ∙ sym (ap (λ rows. c.loop-row.found ++ filter_map child rows) c.in-None.ensures.steps.0)
    ∙ c.loop-row.invariant
    ∙ sym (children c.args.directory.now c.args.rows)
