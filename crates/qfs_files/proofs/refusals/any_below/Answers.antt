-- What the check leaves to show of `refusals::any_below`.
use Rattle.std.proofs.Common.{Bool, ap, sym, ◌∙◌, ◌||◌}
use Rattle.std.specs.List.{list_any}
use Rattle.qfs_base.specs.NameTree.{is_below}
use Rattle.qfs_files.specs.declared.row.FileRow.{FileRow}
use Rattle.qfs_files.proofs.refusals.any_below.Goals as goal

pub loop-row-preserved : goal.loop-row-preserved
loop-row-preserved c =
    let below : FileRow → Bool = λ row. is_below c.args.top.now row.names in
    c.loop-row.invariant ∙ ap (list_any below) c.in-Some.ensures.steps
    ∙ ap (λ b. b || list_any below c.next.new.self)
    (ap (is_below c.args.top.now) (sym c.as_slice.ensures) ∙ sym c.is_below.ensures
    ∙ c.if-is_below.false)

pub returns-then-is_below : goal.returns-then-is_below
returns-then-is_below c =
    let below : FileRow → Bool = λ row. is_below c.args.top.now row.names in
    sym (c.loop-row.invariant ∙ ap (list_any below) c.in-Some.ensures.steps
    ∙ ap (λ b. b || list_any below c.next.new.self)
    (ap (is_below c.args.top.now) (sym c.as_slice.ensures) ∙ sym c.is_below.ensures
    ∙ c.if-is_below.true))
