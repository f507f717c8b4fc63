use Rattle.std.proofs.Common.{◌≡◌, ◌∙◌, ap, sym, subst, arith, ◌<◌, ◌≤◌, false, true, List, ◌∷◌}
use Rattle.qfs_base.specs.Layout.{blocks_of}
use Rattle.qfs_base.specs.declared.layout.Window.{Window}
use Rattle.qfs_model_actor.specs.Get.{listed_in}
use Rattle.qfs_model_actor.specs.Read.{are_too_few, sources_of}
use Rattle.qfs_stripe.specs.Touched.{first_touched, AreInOrder}
use Rattle.qfs_reader.specs.Rest.{rest_of_get, rest_of_windows, report_of_get}
use Rattle.qfs_reader.proofs.Blocks.{no_blocks, block-begins, block-stops, begins_behind, from_first_row}
use Rattle.qfs_reader.proofs.block.next_block.Goals as goal

pub returns-then-block-blocks-clause-rest : goal.returns-then-block-blocks-clause-rest
unfolding rest_of_get report_of_get
returns-then-block-blocks-clause-rest c =
    let get = c.args.get.now in
    let past : blocks_of get.layout.s get.layout.r c.args.attempt.to ≤ c.args.block = omega (arith, c.if-block-blocks.true, c.blocks_touched-blocks.ensures.past) in
    no_blocks get c.args.attempt c.args.block c.args.attempt.got past

pub returns-then-are_too_few-clause-rest : goal.returns-then-are_too_few-clause-rest
returns-then-are_too_few-clause-rest c =
    let get = c.args.get.now in
    let within : c.args.block < blocks_of get.layout.s get.layout.r c.args.attempt.to = omega (arith, c.if-block-blocks.false, c.blocks_touched-blocks.ensures.past) in
    let few : are_too_few (sources_of (listed_in c.args.attempt.opened c.args.block)) ≡ true = rw (← c.sources_in-sources.ensures) (sym c.if-are_too_few.ensures) in
    c.too_few.ensures.rest
    ∙ rw c.sources_in-sources.ensures (block-stops get c.args.attempt c.args.block c.args.attempt.got within few)

pub windows_in-windows-requires : goal.windows_in-windows-requires
windows_in-windows-requires c =
    c.blocks_touched-blocks.ensures.touched c.requires.range.some c.args.block (omega (arith, c.blocks_touched-blocks.ensures.first, c.requires.first)) c.if-block-blocks.false

pub begin_window-requires-clause-window : goal.begin_window-requires-clause-window
begin_window-requires-clause-window c =
    let layout = c.args.get.now.layout in
    let start = first_touched layout.s layout.r c.args.attempt.from c.args.block in
    let order : AreInOrder c.args.block start layout.r (c.in-Some.window ∷ c.next.new.self) =
    subst (AreInOrder c.args.block start layout.r) c.in-Some.ensures.steps c.windows_in-windows.ensures.order in
    record {
      range = c.requires.range;
      block = c.blocks_touched-blocks.ensures.touched c.requires.range.some c.args.block (omega (arith, c.blocks_touched-blocks.ensures.first, c.requires.first)) c.if-block-blocks.false;
      order = from_first_row c.args.block start layout.r c.in-Some.window c.next.new.self order;
      got = begins_behind layout c.args.block c.args.attempt.from c.args.attempt.got c.in-Some.window order.0.index c.requires.got;
    }

pub returns-clause-rest : goal.returns-clause-rest
returns-clause-rest c =
    let get = c.args.get.now in
    let within : c.args.block < blocks_of get.layout.s get.layout.r c.args.attempt.to = omega (arith, c.if-block-blocks.false, c.blocks_touched-blocks.ensures.past) in
    let enough : are_too_few (sources_of (listed_in c.args.attempt.opened c.args.block)) ≡ false = rw (← c.sources_in-sources.ensures) (sym c.if-are_too_few.ensures) in
    c.begin_window.ensures.rest
    ∙ ap (λ (windows : List Window). rest_of_windows get c.args.attempt c.args.block windows c.sources_in-sources.result c.args.attempt.got) (sym c.in-Some.ensures.steps ∙ c.windows_in-windows.ensures.value)
    ∙ rw c.sources_in-sources.ensures (block-begins get c.args.attempt c.args.block c.args.attempt.got within enough)
