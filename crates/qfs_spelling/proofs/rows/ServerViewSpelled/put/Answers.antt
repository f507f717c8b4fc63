use Rattle.std.proofs.Common.{◌++◌}
use Rattle.std.specs.Int.{to_be_bytes, w32, w64}
use Rattle.std.proofs.lemmas.Result.{on_ok_weaker}
use Rattle.qfs_record.specs.Part.{flag}
use Rattle.qfs_spelling.proofs.Fronts.{before}
use Rattle.qfs_spelling.proofs.rows.ServerViewSpelled.put.Goals as goal

pub returns-clause-ok : goal.returns-clause-ok
returns-clause-ok c =
    let server = c.args.self.now in
    let all = c.put_u64.new.out.items in
    let until = to_be_bytes w64 server.until in
    let life = to_be_bytes w32 server.life in
    on_ok_weaker c.put_u64.result
    (λ e.
    before c.args.out.now.items c.put_flag.new.out.items all (flag.text server.up) (flag.text server.leaving ++ (life ++ until)) c.in_ok-put_flag.ensures.ok
    (before c.put_flag.new.out.items c.put_flag-2.new.out.items all (flag.text server.leaving) (life ++ until) c.in_ok-put_flag-2.ensures.ok
    (before c.put_flag-2.new.out.items c.put_u32.new.out.items all life until c.in_ok-put_u32.ensures.ok e)))
    c.put_u64.ensures.ok
