use Rattle.std.proofs.Common.{◌∙◌, ◌++◌, ◌∷◌, [], sym, ap, List}
use Rattle.qfs_base.specs.declared.lists.SlotCause.{SlotCause}
use Rattle.qfs_window.proofs.Passing.{causes_below-some, causes_below-none, causes_below-all}
use Rattle.qfs_window.proofs.sources.causes_of.Goals.{in-Some+in_ok-push, in_default}
use Rattle.qfs_window.proofs.sources.causes_of.Goals as goal

pub loop-slot-preserved : goal.loop-slot-preserved
loop-slot-preserved c =
    elim c.match-cause_at.branch [
      | in-Some+in_ok-push w ↦
          w.causes-is
          ∙ w.in_ok-push.ensures.ok
          ∙ ap (λ (causes : List SlotCause). causes ++ w.in-Some.cause ∷ []) c.loop-slot.invariant
          ∙ sym (causes_below-some c.args.sources.now c.loop-slot.slot c.source_at.result w.in-Some.cause c.source_at.ensures (sym c.cause_at.ensures ∙ w.in-Some.is))
      | in_default w ↦
          w.causes-is
          ∙ c.loop-slot.invariant
          ∙ sym (causes_below-none c.args.sources.now c.loop-slot.slot c.source_at.result c.source_at.ensures (sym c.cause_at.ensures ∙ w.in_default.is))
    ]

pub returns : goal.returns
returns c = c.loop-slot.invariant ∙ causes_below-all c.args.sources.now c.loop-slot.slot c.told-sources c.loop-slot-test.false
