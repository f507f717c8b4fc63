use Rattle.std.proofs.Common.{◌++◌}
use Rattle.std.specs.Int.{to_be_bytes, w32, w64}
use Rattle.std.proofs.lemmas.Result.{on_ok_weaker}
use Rattle.qfs_spelling.proofs.Fronts.{before}
use Rattle.qfs_image.proofs.writing.put_counters.Goals as goal

pub returns-clause-ok : goal.returns-clause-ok
returns-clause-ok c =
    let state = c.args.state.now in
    let all = c.put_u64-4.new.out.items in
    let turn = to_be_bytes w64 state.turn in
    let clock = to_be_bytes w64 state.clock in
    let file = to_be_bytes w32 state.next_file in
    let lease = to_be_bytes w64 state.next_lease in
    let number = to_be_bytes w64 state.next_condemned in
    on_ok_weaker c.put_u64-4.result
    (λ e.
    before c.args.out.now.items c.put_u64.new.out.items all turn (clock ++ (file ++ (lease ++ number))) c.in_ok-put_u64.ensures.ok
    (before c.put_u64.new.out.items c.put_u64-2.new.out.items all clock (file ++ (lease ++ number)) c.in_ok-put_u64-2.ensures.ok
    (before c.put_u64-2.new.out.items c.put_u32.new.out.items all file (lease ++ number) c.in_ok-put_u32.ensures.ok
    (before c.put_u32.new.out.items c.put_u64-3.new.out.items all lease number c.in_ok-put_u64-3.ensures.ok e))))
    c.put_u64-4.ensures.ok
