use Rattle.std.proofs.lemmas.Result.{on_ok_weaker}
use Rattle.qfs_print.proofs.Lines.{head_told}
use Rattle.qfs_print.proofs.script.push_head.Goals as goal

pub returns : goal.returns
returns c =
    on_ok_weaker c.push_audit.result
    (head_told c.args.script.now c.from.result c.args.out.now.items c.extend_from_slice.new.self.items
    c.push_layout.new.out.items c.push_numbered.new.out.items c.push_term.new.out.items
    c.push_audit.new.out.items c.from.ensures c.in_ok-extend_from_slice.ensures.items c.in_ok-push_layout.ensures
    c.in_ok-push_numbered.ensures c.in_ok-push_term.ensures)
    c.push_audit.ensures
