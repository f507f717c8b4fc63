use Rattle.std.proofs.Common.{rules, ◌≡◌, length, replicate, ap, sym, ◌∙◌}
use Rattle.std.proofs.Math.Seq.{drop-length}
use Rattle.qfs_meta.specs.Loads.{loads_of}
use Rattle.qfs_meta.proofs.LoadLaws.{zeros}
use Rattle.qfs_meta.proofs.loads.loads_of.Goals as goal

pub count-requires-clause-loads : goal.count-requires-clause-loads
count-requires-clause-loads c =
    let made : c.in_ok-loads.loads.items ≡ replicate (length c.args.servers.now) 0 = search rules in
    c.as_mut_slice.ensures.value
    ∙ made
    ∙ zeros c.args.servers.now
    ∙ ap (loads_of c.args.servers.now) (sym (drop-length c.args.slots.now))
