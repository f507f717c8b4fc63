use Rattle.std.proofs.Common.{arith, ap, length, length-append, subst}
use Rattle.std.specs.Int.{to_be_bytes, w16}
use Rattle.qfs_base.specs.Path.{IsPath, path_text}
use Rattle.qfs_spelling.proofs.PathLaws.{path_short}
use Rattle.qfs_spelling.proofs.values.put_path.Goals as goal

pub overflow_cast-len : goal.overflow_cast-len
overflow_cast-len c =
    let short = path_short c.args.names.now (subst IsPath c.names.view_is c.names.invariant) in
    let text = ap length c.in_ok-print.ensures.ok in
    let count = ap length c.in_ok-put_u16.ensures.ok in
    omega (
      arith,
      short,
      text,
      count,
      c.print.new.out.ok,
      c.args.out.now.ok,
      length-append c.put_u16.new.out.items (path_text c.args.names.now),
      length-append c.args.out.now.items (to_be_bytes w16 0),
    )
