-- What the check leaves to show of `refusals::any_too_deep`.
use Rattle.std.proofs.Common.{ap, sym, ◌∙◌, ◌||◌}
use Rattle.std.specs.List.{list_any}
use Rattle.qfs_files.specs.Rows.{is_deep}
use Rattle.qfs_files.proofs.refusals.any_too_deep.Goals as goal

pub loop-row-preserved : goal.loop-row-preserved
loop-row-preserved c =
    let deep = is_deep c.args.from.now c.args.to.now in
    c.loop-row.invariant ∙ ap (list_any deep) c.in-Some.ensures.steps
    ∙ ap (λ b. b || list_any deep c.next.new.self)
    (sym c.is_too_deep.ensures ∙ c.if-is_too_deep.false)

pub returns-then-is_too_deep : goal.returns-then-is_too_deep
returns-then-is_too_deep c =
    let deep = is_deep c.args.from.now c.args.to.now in
    sym (c.loop-row.invariant ∙ ap (list_any deep) c.in-Some.ensures.steps
    ∙ ap (λ b. b || list_any deep c.next.new.self)
    (sym c.is_too_deep.ensures ∙ c.if-is_too_deep.true))
