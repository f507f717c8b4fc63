use Rattle.std.proofs.Common.{◌≡◌, ◌∙◌, ap, sym, subst, arith, ℕ, ◌+◌, ◌<◌, ◌^◌, List, ◌∷◌, ◌++◌, length}
use Rattle.qfs_base.specs.Layout.{block_bytes}
use Rattle.qfs_base.specs.declared.layout.Window.{Window}
use Rattle.qfs_stripe.specs.Touched.{AreInOrder}
use Rattle.qfs_reader.specs.Rest.{rest_of_windows, reading_at, pieces_at}
use Rattle.qfs_reader.proofs.Blocks.{from_first_row, window_kept, starts_early, before_next, before_end, first_before, few_blocks, no_windows}
use Rattle.qfs_reader.proofs.block.window_read.Goals as goal

pub window_offset-start-requires-clause-start : goal.window_offset-start-requires-clause-start
window_offset-start-requires-clause-start c =
    let window = c.requires.window in
    starts_early c.args.get.now.layout c.args.position.block c.args.position.window c.args.attempt.to window.order.0.index window.block.starts window.range.most

pub window_offset-start-requires-clause-within : goal.window_offset-start-requires-clause-within
window_offset-start-requires-clause-within c = c.requires.window.order.0.within

pub add_window-requires-clause-rows : goal.add_window-requires-clause-rows
add_window-requires-clause-rows c = omega (arith, c.requires.window.order.0.few)

pub add_window-requires-clause-fits : goal.add_window-requires-clause-fits
add_window-requires-clause-fits c = rw c.stripe.ensures.value c.window_offset-start.ensures.fits

pub add_window-requires-clause-got : goal.add_window-requires-clause-got
add_window-requires-clause-got c = rw c.window_offset-start.ensures.value c.requires.window.got

pub begin_window-requires-clause-window : goal.begin_window-requires-clause-window
begin_window-requires-clause-window c =
    let layout = c.args.get.now.layout in let position = c.args.position in let w = position.window in
    let window = c.requires.window in
    let order : AreInOrder position.block (w.first_row + w.rows) layout.r (c.in-Some.window ∷ c.next.new.self) =
    subst (AreInOrder position.block (w.first_row + w.rows) layout.r) c.in-Some.ensures.steps window.order.1 in
    let bound = rw (c.window_offset-start.ensures.value, c.stripe.ensures.value) at c.add_window.ensures.bound in
    record {
      range = window.range;
      block = window.block;
      order = from_first_row position.block (w.first_row + w.rows) layout.r c.in-Some.window c.next.new.self order;
      got = before_next layout position.block c.args.attempt.from (length c.add_window.new.got) w c.in-Some.window window.order.0.index order.0 bound;
    }

pub overflow_add-block : goal.overflow_add-block
overflow_add-block c =
    let layout = c.args.get.now.layout in let window = c.requires.window in
    let few : c.args.position.block + 1 < 2 ^ 32 =
    few_blocks c.args.attempt.from c.args.attempt.to c.args.position.block (block_bytes layout.s layout.r) window.block.ends window.block.starts window.range.most in
    omega (arith, few)

pub next_block-requires-clause-first : goal.next_block-requires-clause-first
next_block-requires-clause-first c =
    let layout = c.args.get.now.layout in
    first_before c.args.attempt.from c.args.position.block (block_bytes layout.s layout.r) c.requires.window.block.ends

pub next_block-requires-clause-got : goal.next_block-requires-clause-got
next_block-requires-clause-got c =
    let layout = c.args.get.now.layout in let position = c.args.position in let w = position.window in
    let bound = rw (c.window_offset-start.ensures.value, c.stripe.ensures.value) at c.add_window.ensures.bound in
    before_end layout position.block c.args.attempt.from (length c.add_window.new.got) w c.requires.window.order.0.index c.requires.window.order.0.within bound

pub returns-in-Some-clause-rest : goal.returns-in-Some-clause-rest
returns-in-Some-clause-rest c =
    let get = c.args.get.now in let attempt = c.args.attempt in let position = c.args.position in
    let added = rw (c.window_offset-start.ensures.value, c.stripe.ensures.value, c.as_mut_slice.ensures.value) at c.add_window.ensures.got in
    let got : c.add_window.new.got ≡ attempt.got ++ (reading_at get attempt position.block).kept position.window (pieces_at get attempt position) =
    added ∙ ap (λ (bytes : List ℕ). attempt.got ++ bytes) (sym (window_kept get attempt position.block position.window (pieces_at get attempt position))) in
    c.begin_window.ensures.rest
    ∙ ap (λ (windows : List Window). rest_of_windows get attempt position.block windows position.sources c.add_window.new.got) (sym c.in-Some.ensures.steps)
    ∙ ap (rest_of_windows get attempt position.block position.windows position.sources) got

pub returns-in-None-clause-rest : goal.returns-in-None-clause-rest
returns-in-None-clause-rest c =
    let get = c.args.get.now in let attempt = c.args.attempt in let position = c.args.position in
    let added = rw (c.window_offset-start.ensures.value, c.stripe.ensures.value, c.as_mut_slice.ensures.value) at c.add_window.ensures.got in
    let got : c.add_window.new.got ≡ attempt.got ++ (reading_at get attempt position.block).kept position.window (pieces_at get attempt position) =
    added ∙ ap (λ (bytes : List ℕ). attempt.got ++ bytes) (sym (window_kept get attempt position.block position.window (pieces_at get attempt position))) in
    c.next_block.ensures.rest
    ∙ no_windows get attempt position.block position.sources c.add_window.new.got
    ∙ ap (λ (windows : List Window). rest_of_windows get attempt position.block windows position.sources c.add_window.new.got) (sym c.in-None.ensures.steps.0)
    ∙ ap (rest_of_windows get attempt position.block position.windows position.sources) got
