use Rattle.std.proofs.Common.{◌≡◌, ap, ap₂, sym, ◌∙◌}
use Rattle.qfs_model_slot.specs.Restored.{dot, combination, without_slots, left_out, counts_of}
use Rattle.qfs_code.proofs.WantedSlot.{counts_some}
use Rattle.qfs_code.proofs.equation.equation.Goals as goal

pub inv-scale-requires : goal.inv-scale-requires
unfolding combination
inv-scale-requires c none =
    let have = c.args.have in
    let want = c.args.want in
    let first = c.left_out-first.ensures.value in
    let second = c.left_out.ensures.value ∙ ap (left_out have want) first in
    let is : c.dot.result ≡ dot (combination have want) (counts_of want) =
    c.dot.ensures ∙ ap₂ dot (c.without_slots-combination.ensures ∙ ap₂ without_slots first second) c.counts_of.ensures in
    counts_some have want c.requires.mask c.requires.enough c.requires.want c.requires.missing (sym is ∙ none)
