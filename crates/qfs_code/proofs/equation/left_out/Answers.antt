use Rattle.std.proofs.Common.{unwrap_or, sym, ap, ◌∙◌, arith}
use Rattle.qfs_model_slot.specs.Restored.{left_out, last_besides}
use Rattle.qfs_code.proofs.Spares.{first_spare_here, first_spare_later, first_spare_past}
use Rattle.qfs_code.proofs.equation.left_out.Goals as goal

pub loop-slot-preserved : goal.loop-slot-preserved
loop-slot-preserved c =
    c.loop-slot.invariant
    ∙ first_spare_later c.args.have c.args.want c.args.other c.loop-slot.slot c.loop-slot-test.true (sym c.is_spare.ensures ∙ c.if-is_spare.false)

pub returns-then-is_spare-clause-value : goal.returns-then-is_spare-clause-value
unfolding left_out
returns-then-is_spare-clause-value c =
    let found = c.loop-slot.invariant
    ∙ first_spare_here c.args.have c.args.want c.args.other c.loop-slot.slot c.loop-slot-test.true (sym c.is_spare.ensures ∙ c.if-is_spare.true) in
    sym (ap (λ o. unwrap_or o (last_besides c.args.want c.args.other)) found)

pub returns-clause-value : goal.returns-clause-value
unfolding left_out
returns-clause-value c =
    let none = c.loop-slot.invariant ∙ first_spare_past c.args.have c.args.want c.args.other c.loop-slot.slot (omega arith) in
    c.last_besides.ensures.value ∙ sym (ap (λ o. unwrap_or o (last_besides c.args.want c.args.other)) none)
