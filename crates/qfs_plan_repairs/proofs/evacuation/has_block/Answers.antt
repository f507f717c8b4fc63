-- What the check leaves to show of `evacuation::has_block`.
use Rattle.std.proofs.Common.{◌∙◌, sym, ap}
use Rattle.std.specs.Option.{option_map}
use Rattle.qfs_model_meta.specs.TreeRows.{closed_file}
use Rattle.qfs_namespace.specs.Joined.{known_in}
use Rattle.qfs_plan_repairs.proofs.ToMove.{block_some, block_none}
use Rattle.qfs_plan_repairs.proofs.evacuation.has_block.Goals as goal

pub returns-in-Some : goal.returns-in-Some
returns-in-Some c =
    block_some c.args.layout.now c.args.block.index c.blocks_of.result
    (closed_file c.args.block.file c.args.state.now.image.tree) c.in-Some.known
    (ap (λ tree. option_map known_in (closed_file c.args.block.file tree))
    (sym c.names.ensures.tree) ∙ sym c.closed_file.ensures ∙ c.in-Some.is) c.blocks_of.ensures

pub returns-in-None : goal.returns-in-None
returns-in-None c =
    block_none c.args.layout.now c.args.block.index
    (closed_file c.args.block.file c.args.state.now.image.tree)
    (ap (λ tree. option_map known_in (closed_file c.args.block.file tree))
    (sym c.names.ensures.tree) ∙ sym c.closed_file.ensures ∙ c.in-None.is)
