-- What the check leaves to show of `scan::first_on`.
use Rattle.std.proofs.Common.{ap, sym, ◌∙◌, cond, find, Some}
use Rattle.std.specs.Option.{option_map}
use Rattle.qfs_model_meta.specs.Slots.{slot_id}
use Rattle.qfs_blocks.specs.Records.{has_current_on}
use Rattle.qfs_blocks.proofs.scan.first_on.Goals as goal

pub loop-row-preserved : goal.loop-row-preserved
loop-row-preserved c =
    let on = has_current_on c.args.server c.args.life in
    c.loop-row.invariant ∙ ap (find on) c.in-Some.ensures.steps
    ∙ ap (λ b. cond b (Some c.in-Some.row.now) (find on c.next.new.self))
    (sym c.has_current_on.ensures ∙ c.if-has_current_on.false)

pub returns-then-has_current_on : goal.returns-then-has_current_on
returns-then-has_current_on c =
    let on = has_current_on c.args.server c.args.life in
    ap (λ id. Some id) c.id_of.ensures
    ∙ sym (ap (option_map slot_id) (c.loop-row.invariant ∙ ap (find on) c.in-Some.ensures.steps
    ∙ ap (λ b. cond b (Some c.in-Some.row.now) (find on c.next.new.self))
    (sym c.has_current_on.ensures ∙ c.if-has_current_on.true)))
