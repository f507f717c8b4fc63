use Rattle.std.proofs.Common.{◌∙◌, sym, ap}
use Rattle.qfs_model_actor.specs.Grants.{listed_slots, source_of}
use Rattle.qfs_move.specs.Sources.{listed_in, sole_of}
use Rattle.qfs_move.proofs.Sources.{sole-is, sole-none}
use Rattle.qfs_move.proofs.grant.source_of.Goals as goal

pub returns-in-One : goal.returns-in-One
unfolding source_of sole_of
returns-in-One c =
    let grant = c.args.grant.now in
    c.copy_if.ensures
    ∙ ap (sole_of grant.slot) (sym c.in-One.is ∙ c.listed_in.ensures ∙ ap listed_in c.as_slice.ensures)
    ∙ sole-is grant.slot (listed_slots grant.sources)

pub returns-in_default : goal.returns-in_default
unfolding source_of
returns-in_default c =
    let grant = c.args.grant.now in
    sole-none grant.slot c.listed_in.result c.in_default.not-One
    ∙ ap (sole_of grant.slot) (c.listed_in.ensures ∙ ap listed_in c.as_slice.ensures)
    ∙ sole-is grant.slot (listed_slots grant.sources)
