-- What the check leaves to show of `puts::span_of`.
use Rattle.std.proofs.Common.{◌+◌, ◌-◌, min, ap, sym, ◌∙◌}
use Rattle.std.specs.List.{slice_range}
use Rattle.qfs_base.specs.FileReplies.{wanted_bytes}
use Rattle.qfs_files.proofs.PutLaws.{span_all, span_cut}
use Rattle.qfs_files.proofs.puts.span_of.Goals as goal

pub returns-in-None-clause-bytes : goal.returns-in-None-clause-bytes
unfolding wanted_bytes
returns-in-None-clause-bytes c bytes long =
    span_all c.args.len bytes long ∙ sym (ap (wanted_bytes bytes) c.in-None.is)

pub returns-in-Some-clause-bytes : goal.returns-in-Some-clause-bytes
unfolding wanted_bytes
returns-in-Some-clause-bytes c bytes long =
    let count = c.min.ensures
    ∙ ap (λ from. min c.in-Some.range.count (c.args.len - from)) c.min-from.ensures in
    (λ i. slice_range bytes (c.min-from.ensures i) (c.min-from.ensures i + count i))
    ∙ span_cut c.in-Some.range.from c.in-Some.range.count c.args.len bytes long
    ∙ sym (ap (wanted_bytes bytes) c.in-Some.is)
