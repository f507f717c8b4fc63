use Rattle.std.proofs.Common.{◌∙◌, ◌++◌, ap, length}
use Rattle.std.specs.Prelude.{flat_map}
use Rattle.std.specs.Int.{to_be_bytes, w32}
use Rattle.std.proofs.lemmas.Result.{on_ok_weaker}
use Rattle.qfs_model_disks.specs.Values.{from_one}
use Rattle.qfs_spelling.proofs.Fronts.{before}
use Rattle.qfs_spelling.proofs.sets.put_set.Goals as goal

pub returns-clause-ok : goal.returns-clause-ok
returns-clause-ok c =
    let old = c.args.out.now.items in
    let servers = flat_map from_one.text c.args.set in
    on_ok_weaker c.put_servers.result
    (λ e.
    before old c.put_u32.new.out.items c.put_servers.new.out.items (to_be_bytes w32 (length c.args.set)) servers
    (c.in_ok-put_u32.ensures.ok ∙ ap (λ count. old ++ to_be_bytes w32 count) c.count_of.ensures) e)
    c.put_servers.ensures.ok
