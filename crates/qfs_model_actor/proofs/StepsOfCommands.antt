-- Each command asks a bounded number of requests.
use Rattle.std.proofs.Common.{◌≡◌, ℕ, zero, suc, ◌+◌, ◌-◌, ◌*◌, ◌≤◌, min, Bool, true, false, List, [], ◌∷◌, ◌++◌, length, Option, Some, None, arith, refl, suc-mul, mul-le-mul_right, nat_lt, nat_le}
use Rattle.std.proofs.lemmas.Bool.{leb-true, and_parts}
use Rattle.qfs_base.specs.Shape.{Shape}
use Rattle.qfs_base.specs.declared.chunk.Copy.{Copy}
use Rattle.qfs_base.specs.declared.command.Command.{Command}
use Rattle.qfs_base.specs.declared.command.Command.TheVariants as Does
use Rattle.qfs_base.specs.declared.command.FileCommand.{FileCommand}
use Rattle.qfs_base.specs.declared.command.FileCommand.TheVariants as File
use Rattle.qfs_base.specs.declared.command.Range.{Range}
use Rattle.qfs_base.specs.declared.layout.Window.{Window}
use Rattle.qfs_base.specs.declared.reply.ChunkAnswer.{ChunkAnswer}
use Rattle.qfs_base.specs.declared.reply.ChunkAnswer.TheVariants as Did
use Rattle.qfs_base.specs.declared.reply.Granted.{Granted}
use Rattle.qfs_base.specs.declared.reply.MetaReply.{MetaReply}
use Rattle.qfs_base.specs.declared.reply.MetaReply.TheVariants as Said
use Rattle.qfs_base.specs.declared.reply.Opened.{Opened}
use Rattle.qfs_base.specs.Recipe.{bytes_of}
use Rattle.qfs_base.specs.Sizes.{SLOTS, MOST_ROWS, MOST_FILE_BYTES}
use Rattle.qfs_base.specs.declared.rules.Rules.{Rules}
use Rattle.qfs_model_actor.specs.Work.{Report, Work, ends}
use Rattle.qfs_model_actor.specs.Hold.{opened, granted}
use Rattle.qfs_model_actor.specs.Grants.{if_meant, is_in_range, with_proper, with_source, source_of}
use Rattle.qfs_base.specs.Layout.{blocks_of, blocks_touched, windows_touched, windows_of_rows, window_rows}
use Rattle.qfs_base.specs.ListLaws.{div_ceil-least}
use Rattle.qfs_model_actor.specs.Get.{reading_of, listed_in, read_blocks, read_if_any, read_range, is_whole, read_if_whole, was_opened, attempt, attempts, range_of, get_work}
use Rattle.qfs_model_actor.specs.Repair.{after_confirm, confirm, give_up, store_granted}
use Rattle.qfs_model_actor.specs.Recover.{reading_for, restore_chunk, recover_slot, recovered, after_recover_at, recover_work, Healing, after_heal_next, heal_on, heal_work}
use Rattle.qfs_model_actor.specs.Move.{copy_windows, copy_chunk, move_slot, moved, after_move_at, move_work, after_balance_next, rebalance_on, rebalance_work, Leaving, evacuated, count_left, after_evac_next, evacuate_on, after_leave, evacuate_work}
use Rattle.qfs_model_actor.specs.Sweep.{say_swept, after_erase, erase, after_order, sweep_on, sweep_work}
use Rattle.qfs_model_actor.specs.Servers.{after_bye, after_stop, stop_work, after_hello, after_inventory, tell_copies, after_start, start_work, after_wipe, wipe_work, after_rest, after_hibernate, hibernate_work, after_upgrade, upgrade_work}
use Rattle.qfs_model_actor.specs.System.{ticked, dropped, saved, restarted, tick_work, drop_work, checkpoint_work, restart_work}
use Rattle.qfs_model_actor.specs.Command.{file_work, work_of}
use Rattle.qfs_model_actor.specs.Steps.{AsksAtMost, MOST_WINDOWS, steps_of_attempt, steps_of_get, steps_of_recovery, steps_of_move, most_file_steps, most_steps}
use Rattle.qfs_model_actor.proofs.Steps.{more_steps, give_back-steps, was_given_back-steps, end_with-steps, ask-steps, ask-nothing-steps, ask_server-steps, ask_server-nothing-steps, after_store-steps, fetch-steps}
use Rattle.qfs_model_actor.proofs.StepsOfPut.{refused-steps, change_work-steps, list_work-steps, if_meant-steps, with_grant_of-steps, put_work-steps}
use Rattle.qfs_model_actor.proofs.StepsOfReads.{read_block-steps, length-windows_of_rows, length-windows_touched, length-blocks_touched}

-- ---- gets

-- a Release, and n requests of what comes next
too_few-steps : (layout : Shape) (again : Report → Work) (o : Opened) (from to k n : ℕ)
    → ((report : Report) → AsksAtMost n (again report))
    → (causes : _) → AsksAtMost (suc n) ((reading_of layout again o from to k).too_few causes)
unfolding reading_of
too_few-steps layout again o from to k n h causes = give_back-steps n _ (opened o.lease) (h _)

-- what an attempt asks, where n requests may follow it
module _ (layout : Shape) (again : Report → Work) (n : ℕ) (h : (report : Report) → AsksAtMost n (again report)) where
  read_blocks-steps : (o : Opened) (from to : ℕ) (ks : List ℕ) (got : List ℕ)
      → AsksAtMost (length ks * (layout.r * SLOTS) + suc n) (read_blocks layout again o from to ks got)
  unfolding read_blocks
  read_blocks-steps o from to [] got =
      more_steps (read_blocks layout again o from to [] got) (suc n) (0 * (layout.r * SLOTS) + suc n) (grind arith)
      (end_with-steps n (opened o.lease) _)
  read_blocks-steps o from to (k ∷ ks) got =
      let m = length ks * (layout.r * SLOTS) + n in
      let windows = windows_touched layout.s layout.r from to k in
      more_steps (read_blocks layout again o from to (k ∷ ks) got) (length windows * SLOTS + suc m)
      (length (k ∷ ks) * (layout.r * SLOTS) + suc n)
      (omega (arith, suc-mul (length ks) (layout.r * SLOTS), length-windows_touched layout from to k))
      (read_block-steps (reading_of layout again o from to k) m windows (listed_in o k) got _
      (too_few-steps layout again o from to k m (λ report. more_steps (again report) n m (omega arith) (h report)))
      (λ more. more_steps (read_blocks layout again o from to ks more) (length ks * (layout.r * SLOTS) + suc n) (suc m) (omega arith) (read_blocks-steps o from to ks more)))

  abbrev most_fetches : ℕ
  most_fetches = blocks_of layout.s layout.r MOST_FILE_BYTES * (layout.r * SLOTS)

  read_if_any-steps : (o : Opened) (from to : ℕ) → to ≤ MOST_FILE_BYTES → (b : Bool)
      → AsksAtMost (most_fetches + suc n) (read_if_any layout again o from to b)
  unfolding read_if_any
  read_if_any-steps o from to short true =
      let ks = blocks_touched layout.s layout.r from to in
      more_steps (read_blocks layout again o from to ks []) (length ks * (layout.r * SLOTS) + suc n) (most_fetches + suc n)
      (omega (arith, mul-le-mul_right (layout.r * SLOTS) (length-blocks_touched layout from to MOST_FILE_BYTES short)))
      (read_blocks-steps o from to ks [])
  read_if_any-steps o from to short false =
      more_steps (read_if_any layout again o from to false) (suc n) (most_fetches + suc n) (omega arith)
      (end_with-steps n (opened o.lease) _)

  read_if_whole-steps : (range : Range) (o : Opened) (b : Bool) → is_whole layout o ≡ b
      → AsksAtMost (most_fetches + suc n) (read_if_whole layout again range o b)
  unfolding read_if_whole read_range is_whole
  read_if_whole-steps range o true e =
      let short : o.len ≤ MOST_FILE_BYTES =
      leb-true o.len MOST_FILE_BYTES ((and_parts (nat_le o.len MOST_FILE_BYTES) _ e).0) in
      read_if_any-steps o range.from (min (range.from + range.count) o.len) (omega (arith, short)) _
  read_if_whole-steps range o false e = tt

  was_opened-steps : (range : Range) (a : MetaReply) → AsksAtMost (most_fetches + suc n) (was_opened layout again range a)
  unfolding was_opened
  was_opened-steps range (Said.Opened o) = read_if_whole-steps range o (is_whole layout o) refl
  was_opened-steps range answer = refused-steps _ answer

  attempt-steps : (path : List (List ℕ)) (range : Range) → AsksAtMost (n + steps_of_attempt layout) (attempt layout again path range)
  unfolding attempt
  attempt-steps path range =
      more_steps (attempt layout again path range) (suc (most_fetches + suc n)) (n + steps_of_attempt layout) (omega arith)
      (ask-nothing-steps (most_fetches + suc n) _ (was_opened layout again range) (was_opened-steps range))

attempts-steps : (more : ℕ) (layout : Shape) (path : List (List ℕ)) (range : Range) (report : Report)
    → AsksAtMost (more * steps_of_attempt layout) (attempts more layout path range report)
unfolding attempts
attempts-steps zero layout path range report = tt
attempts-steps (suc more) layout path range report =
    let n = more * steps_of_attempt layout in
    more_steps (attempts (suc more) layout path range report) (n + steps_of_attempt layout) (suc more * steps_of_attempt layout)
    (omega (arith, suc-mul more (steps_of_attempt layout)))
    (attempt-steps layout (attempts more layout path range) n (attempts-steps more layout path range) path range)

get_work-steps : (layout : Shape) (tries : ℕ) (path : List (List ℕ)) (range : Option Range)
    → AsksAtMost (steps_of_get layout tries) (get_work layout tries path range)
unfolding get_work
get_work-steps layout tries path range =
    let behind = attempts (tries - 1) layout path (range_of range) in
    attempt-steps layout behind ((tries - 1) * steps_of_attempt layout)
    (attempts-steps (tries - 1) layout path (range_of range)) path (range_of range)

-- ---- what recoveries and moves share

after_confirm-steps : (n : ℕ) (done : Work) (failed : Report → Work) → AsksAtMost n done
    → ((r : Report) → AsksAtMost n (failed r)) → (a : MetaReply) → AsksAtMost n (after_confirm done failed a)
unfolding after_confirm
after_confirm-steps n done failed d f Said.Confirmed = d
after_confirm-steps n done failed d f Said.Vanished = f _
after_confirm-steps n done failed d f answer = tt

confirm-steps : (n : ℕ) (done : Work) (failed : Report → Work) → AsksAtMost (suc n) done
    → ((r : Report) → AsksAtMost (suc n) (failed r)) → (g : Granted) → AsksAtMost (suc (suc n)) (confirm done failed g)
unfolding confirm
confirm-steps n done failed d f g = ask-steps n (granted g) _ (after_confirm done failed) (after_confirm-steps (suc n) done failed d f)

give_up-steps : (n : ℕ) (failed : Report → Work) → ((r : Report) → AsksAtMost n (failed r))
    → (g : Granted) (r : Report) → AsksAtMost (suc n) (give_up failed g r)
unfolding give_up
give_up-steps n failed f g r = give_back-steps n (failed r) (granted g) (f r)

-- Put, Confirm, and what follows
store_granted-steps : (n : ℕ) (done : Work) (failed : Report → Work) → AsksAtMost n done
    → ((r : Report) → AsksAtMost n (failed r)) → (g : Granted) (chunk : List ℕ)
    → AsksAtMost (suc (suc (suc n))) (store_granted done failed g chunk)
unfolding store_granted
store_granted-steps n done failed d f g chunk =
    let more = λ (w : Work) (h : AsksAtMost n w). more_steps w n (suc n) (omega arith) h in
    ask_server-steps (suc n) (granted g) g.server _ _
    (after_store-steps (suc (suc n)) (confirm done failed g) _
    (confirm-steps n done failed (more done d) (λ r. more (failed r) (f r)) g)
    (λ cause. give_up-steps (suc n) failed (λ r. more (failed r) (f r)) g _))

unmeant : (n : ℕ) (next : Granted → Work) (g : Granted) → AsksAtMost n (if_meant next g false)
unfolding if_meant
unmeant n next g = tt

rows_in_range : (g : Granted) → is_in_range g ≡ true → g.rows ≤ MOST_ROWS
unfolding is_in_range
rows_in_range g e = leb-true g.rows MOST_ROWS ((and_parts (nat_lt g.slot SLOTS) (nat_le g.rows MOST_ROWS) e).1)

if_in_range-steps : (n : ℕ) (next : Granted → Work) (g : Granted) → (g.rows ≤ MOST_ROWS → AsksAtMost n (next g))
    → (b : Bool) → is_in_range g ≡ b → AsksAtMost n (if_meant next g b)
if_in_range-steps n next g h true e = if_meant-steps n next g (h (rows_in_range g e)) true
if_in_range-steps n next g h false e = unmeant n next g

-- a grant that counts is of no more rows than a chunk has
with_proper-steps : (n : ℕ) (next : Granted → Work) (g : Granted) → (g.rows ≤ MOST_ROWS → AsksAtMost n (next g))
    → AsksAtMost n (with_proper next g)
unfolding with_proper
with_proper-steps n next g h = if_in_range-steps n next g h (is_in_range g) refl

-- a chunk has at most 64 windows
windows_of_chunk : (k rows : ℕ) → rows ≤ MOST_ROWS → length (windows_of_rows k 0 rows) ≤ MOST_WINDOWS
windows_of_chunk k rows h = omega (arith, h, length-windows_of_rows k 0 rows, div_ceil-least rows window_rows MOST_WINDOWS (omega arith) h)

-- ---- recoveries

too_few_for-steps : (n : ℕ) (layout : Shape) (failed : Report → Work) → ((r : Report) → AsksAtMost n (failed r))
    → (g : Granted) (causes : _) → AsksAtMost (suc n) ((reading_for layout failed g).too_few causes)
unfolding reading_for
too_few_for-steps n layout failed f g causes = give_up-steps n failed f g _

restore_chunk-steps : (n : ℕ) (layout : Shape) (done : Work) (failed : Report → Work) → AsksAtMost n done
    → ((r : Report) → AsksAtMost n (failed r)) → (g : Granted) → g.rows ≤ MOST_ROWS
    → AsksAtMost (MOST_WINDOWS * SLOTS + 3 + n) (restore_chunk layout done failed g)
unfolding restore_chunk
restore_chunk-steps n layout done failed d f g h =
    let windows = windows_of_rows g.block.index 0 g.rows in
    more_steps (restore_chunk layout done failed g) (length windows * SLOTS + suc (suc (suc n))) (MOST_WINDOWS * SLOTS + 3 + n)
    (omega (arith, windows_of_chunk g.block.index g.rows h))
    (read_block-steps (reading_for layout failed g) (suc (suc n)) windows g.sources [] _
    (too_few_for-steps (suc (suc n)) layout failed (λ r. more_steps (failed r) n (suc (suc n)) (omega arith) (f r)) g)
    (store_granted-steps n done failed d f g))

recover_slot-steps : (n : ℕ) (layout : Shape) (done : Work) (failed : Report → Work) → AsksAtMost n done
    → ((r : Report) → AsksAtMost n (failed r)) → (g : Granted)
    → AsksAtMost (MOST_WINDOWS * SLOTS + 3 + n) (recover_slot layout done failed g)
unfolding recover_slot
recover_slot-steps n layout done failed d f g =
    with_proper-steps (MOST_WINDOWS * SLOTS + 3 + n) _ g (restore_chunk-steps n layout done failed d f g)

after_recover_at-steps : (layout : Shape) (index slot : ℕ) (a : MetaReply)
    → AsksAtMost (MOST_WINDOWS * SLOTS + 3) (after_recover_at layout index slot a)
unfolding after_recover_at
after_recover_at-steps layout index slot (Said.Granted g) =
    with_grant_of-steps (MOST_WINDOWS * SLOTS + 3) index slot _ g
    (recover_slot-steps 0 layout (ends (recovered g)) ends tt (λ r. tt) g)
after_recover_at-steps layout index slot (Said.BadPath refusal) = tt
after_recover_at-steps layout index slot Said.NoBlock = tt
after_recover_at-steps layout index slot (Said.Taken version) = tt
after_recover_at-steps layout index slot Said.Whole = tt
after_recover_at-steps layout index slot (Said.NoServer block at) = tt
after_recover_at-steps layout index slot answer = tt

recover_work-steps : (layout : Shape) (path : List (List ℕ)) (index slot : ℕ) → AsksAtMost steps_of_recovery (recover_work layout path index slot)
unfolding recover_work
recover_work-steps layout path index slot =
    ask-nothing-steps (MOST_WINDOWS * SLOTS + 3) _ (after_recover_at layout index slot) (after_recover_at-steps layout index slot)

after_heal_next-steps : (n : ℕ) (layout : Shape) (so_far : Healing) (next : Healing → Work)
    → ((further : Healing) → AsksAtMost n (next further))
    → (a : MetaReply) → AsksAtMost (MOST_WINDOWS * SLOTS + 3 + n) (after_heal_next layout so_far next a)
unfolding after_heal_next
after_heal_next-steps n layout so_far next h (Said.Granted g) = recover_slot-steps n layout _ _ (h _) (λ r. h _) g
after_heal_next-steps n layout so_far next h Said.Nothing = tt
after_heal_next-steps n layout so_far next h (Said.NoServer block slot) = tt
after_heal_next-steps n layout so_far next h answer = tt

heal_on-steps : (layout : Shape) (budget : ℕ) (so_far : Healing) → AsksAtMost (budget * steps_of_recovery) (heal_on layout budget so_far)
unfolding heal_on
heal_on-steps layout zero so_far = tt
heal_on-steps layout (suc budget) so_far =
    let n = budget * steps_of_recovery in
    more_steps (heal_on layout (suc budget) so_far) (suc (MOST_WINDOWS * SLOTS + 3 + n)) (suc budget * steps_of_recovery) (omega arith)
    (ask-nothing-steps (MOST_WINDOWS * SLOTS + 3 + n) _ _
    (after_heal_next-steps n layout so_far _ (λ further. heal_on-steps layout budget further)))

heal_work-steps : (layout : Shape) (budget : ℕ) → AsksAtMost (budget * steps_of_recovery) (heal_work layout budget)
unfolding heal_work
heal_work-steps layout budget = heal_on-steps layout budget _

-- ---- moves

copy_windows-steps : (n stripe : ℕ) (failed : Report → Work) (g : Granted) (source : Copy) (next : List ℕ → Work)
    → ((r : Report) → AsksAtMost n (failed r)) → ((chunk : List ℕ) → AsksAtMost (suc n) (next chunk))
    → (windows : List Window) (got : List ℕ)
    → AsksAtMost (length windows + suc n) (copy_windows stripe failed g source next windows got)
unfolding copy_windows
copy_windows-steps n stripe failed g source next f h [] got =
    more_steps (next got) (suc n) (0 + suc n) (omega arith) (h got)
copy_windows-steps n stripe failed g source next f h (w ∷ windows) got =
    let m = length windows + n in
    more_steps (copy_windows stripe failed g source next (w ∷ windows) got) (suc (suc m)) (length (w ∷ windows) + suc n) (omega arith)
    (fetch-steps m (granted g) g.block g.slot _ _ _ _
    (λ room.
    more_steps (copy_windows stripe failed g source next windows (got ++ room)) (length windows + suc n) (suc m) (omega arith)
    (copy_windows-steps n stripe failed g source next f h windows (got ++ room)))
    (λ cause. give_up-steps m failed (λ r. more_steps (failed r) n m (omega arith) (f r)) g _)
    source)

copy_chunk-steps : (n : ℕ) (layout : Shape) (done : Work) (failed : Report → Work) → AsksAtMost n done
    → ((r : Report) → AsksAtMost n (failed r)) → (g : Granted) → g.rows ≤ MOST_ROWS → (source : Copy)
    → AsksAtMost (MOST_WINDOWS + 3 + n) (copy_chunk layout done failed g source)
unfolding copy_chunk
copy_chunk-steps n layout done failed d f g h source =
    let windows = windows_of_rows g.block.index 0 g.rows in
    more_steps (copy_chunk layout done failed g source) (length windows + suc (suc (suc n))) (MOST_WINDOWS + 3 + n)
    (omega (arith, windows_of_chunk g.block.index g.rows h))
    (copy_windows-steps (suc (suc n)) layout.s failed g source _
    (λ r. more_steps (failed r) n (suc (suc n)) (omega arith) (f r))
    (store_granted-steps n done failed d f g) windows [])

with_source-steps : (n : ℕ) (next : Copy → Work) → ((source : Copy) → AsksAtMost n (next source))
    → (found : Option Copy) → AsksAtMost n (with_source next found)
unfolding with_source
with_source-steps n next h (Some source) = h source
with_source-steps n next h None = tt

move_slot-steps : (n : ℕ) (layout : Shape) (done : Copy → Work) (failed : Report → Work)
    → ((source : Copy) → AsksAtMost n (done source)) → ((r : Report) → AsksAtMost n (failed r)) → (g : Granted)
    → AsksAtMost (MOST_WINDOWS + 3 + n) (move_slot layout done failed g)
unfolding move_slot
move_slot-steps n layout done failed d f g =
    with_proper-steps (MOST_WINDOWS + 3 + n) _ g
    (λ h. with_source-steps (MOST_WINDOWS + 3 + n) _ (λ source. copy_chunk-steps n layout (done source) failed (d source) f g h source) (source_of g))

after_move_at-steps : (layout : Shape) (index slot : ℕ) (a : MetaReply) → AsksAtMost (MOST_WINDOWS + 3) (after_move_at layout index slot a)
unfolding after_move_at
after_move_at-steps layout index slot (Said.Granted g) =
    with_grant_of-steps (MOST_WINDOWS + 3) index slot _ g
    (move_slot-steps 0 layout (λ source. ends (moved g source)) ends (λ source. tt) (λ r. tt) g)
after_move_at-steps layout index slot (Said.BadPath refusal) = tt
after_move_at-steps layout index slot Said.NoBlock = tt
after_move_at-steps layout index slot (Said.Taken version) = tt
after_move_at-steps layout index slot (Said.Away server) = tt
after_move_at-steps layout index slot (Said.Barred server) = tt
after_move_at-steps layout index slot answer = tt

move_work-steps : (layout : Shape) (path : List (List ℕ)) (index slot to : ℕ) → AsksAtMost steps_of_move (move_work layout path index slot to)
unfolding move_work
move_work-steps layout path index slot to =
    ask-nothing-steps (MOST_WINDOWS + 3) _ (after_move_at layout index slot) (after_move_at-steps layout index slot)

after_balance_next-steps : (n : ℕ) (layout : Shape) (so_far : ℕ) (next : ℕ → Work) → ((more : ℕ) → AsksAtMost n (next more))
    → (a : MetaReply) → AsksAtMost (MOST_WINDOWS + 3 + n) (after_balance_next layout so_far next a)
unfolding after_balance_next
after_balance_next-steps n layout so_far next h (Said.Granted g) = move_slot-steps n layout _ _ (λ source. h _) (λ r. tt) g
after_balance_next-steps n layout so_far next h Said.Nothing = tt
after_balance_next-steps n layout so_far next h answer = tt

rebalance_on-steps : (layout : Shape) (budget so_far : ℕ) → AsksAtMost (budget * steps_of_move) (rebalance_on layout budget so_far)
unfolding rebalance_on
rebalance_on-steps layout zero so_far = tt
rebalance_on-steps layout (suc budget) so_far =
    let n = budget * steps_of_move in
    more_steps (rebalance_on layout (suc budget) so_far) (suc (MOST_WINDOWS + 3 + n)) (suc budget * steps_of_move) (omega arith)
    (ask-nothing-steps (MOST_WINDOWS + 3 + n) _ _
    (after_balance_next-steps n layout so_far _ (λ more. rebalance_on-steps layout budget more)))

rebalance_work-steps : (layout : Shape) (budget : ℕ) → AsksAtMost (budget * steps_of_move) (rebalance_work layout budget)
unfolding rebalance_work
rebalance_work-steps layout budget = rebalance_on-steps layout budget 0

evacuated-steps : (n : ℕ) (so_far : Leaving) (a : MetaReply) → AsksAtMost n (evacuated so_far a)
unfolding evacuated
evacuated-steps n so_far (Said.Left count) = tt
evacuated-steps n so_far answer = tt

count_left-steps : (n server : ℕ) (so_far : Leaving) → AsksAtMost (suc n) (count_left server so_far)
unfolding count_left
count_left-steps n server so_far = ask-nothing-steps n _ (evacuated so_far) (evacuated-steps n so_far)

after_evac_next-steps : (n : ℕ) (layout : Shape) (server : ℕ) (so_far : Leaving) (next : Leaving → Work)
    → ((further : Leaving) → AsksAtMost n (next further))
    → (a : MetaReply) → AsksAtMost (MOST_WINDOWS + 3 + n) (after_evac_next layout server so_far next a)
unfolding after_evac_next
after_evac_next-steps n layout server so_far next h (Said.Granted g) = move_slot-steps n layout _ _ (λ source. h _) (λ r. h _) g
after_evac_next-steps n layout server so_far next h Said.Nothing =
    more_steps (count_left server so_far) 1 (MOST_WINDOWS + 3 + n) (omega arith) (count_left-steps 0 server so_far)
after_evac_next-steps n layout server so_far next h (Said.NoServer block slot) = tt
after_evac_next-steps n layout server so_far next h answer = tt

evacuate_on-steps : (layout : Shape) (server budget : ℕ) (so_far : Leaving)
    → AsksAtMost (budget * steps_of_move + 1) (evacuate_on layout server budget so_far)
unfolding evacuate_on
evacuate_on-steps layout server zero so_far =
    more_steps (count_left server so_far) 1 (0 * steps_of_move + 1) (omega arith) (count_left-steps 0 server so_far)
evacuate_on-steps layout server (suc budget) so_far =
    let n = budget * steps_of_move + 1 in
    more_steps (evacuate_on layout server (suc budget) so_far) (suc (MOST_WINDOWS + 3 + n)) (suc budget * steps_of_move + 1) (omega arith)
    (ask-nothing-steps (MOST_WINDOWS + 3 + n) _ _
    (after_evac_next-steps n layout server so_far _ (λ further. evacuate_on-steps layout server budget further)))

after_leave-steps : (layout : Shape) (server budget : ℕ) (a : MetaReply)
    → AsksAtMost (budget * steps_of_move + 1) (after_leave layout server budget a)
unfolding after_leave
after_leave-steps layout server budget (Said.Done place) = evacuate_on-steps layout server budget _
after_leave-steps layout server budget answer = tt

evacuate_work-steps : (layout : Shape) (server budget : ℕ) → AsksAtMost (budget * steps_of_move + 2) (evacuate_work layout server budget)
unfolding evacuate_work
evacuate_work-steps layout server budget =
    let n = budget * steps_of_move + 1 in
    more_steps (evacuate_work layout server budget) (suc n) (budget * steps_of_move + 2) (omega arith)
    (ask-nothing-steps n _ (after_leave layout server budget) (after_leave-steps layout server budget))

-- ---- sweeps

after_erase-steps : (n number erased : ℕ) (next : ℕ → Work) → ((total : ℕ) → AsksAtMost n (next total))
    → (a : ChunkAnswer) → AsksAtMost (suc n) (after_erase number erased next a)
unfolding after_erase say_swept
after_erase-steps n number erased next h Did.Erased = ask-nothing-steps n _ _ (was_given_back-steps n _ (h _))
after_erase-steps n number erased next h Did.Absent = ask-nothing-steps n _ _ (was_given_back-steps n _ (h _))
after_erase-steps n number erased next h Did.Down = more_steps (next erased) n (suc n) (omega arith) (h erased)
after_erase-steps n number erased next h (Did.Lost asked now) = more_steps (next erased) n (suc n) (omega arith) (h erased)
after_erase-steps n number erased next h Did.Fault = more_steps (next erased) n (suc n) (omega arith) (h erased)
after_erase-steps n number erased next h answer = tt

after_order-steps : (n erased : ℕ) (next : ℕ → ℕ → Work) → ((last total : ℕ) → AsksAtMost n (next last total))
    → (a : MetaReply) → AsksAtMost (suc (suc n)) (after_order erased next a)
unfolding after_order erase
after_order-steps n erased next h (Said.Ordered condemned turn) =
    ask_server-nothing-steps (suc n) _ _ _ (after_erase-steps n condemned.number erased (next condemned.number) (h condemned.number))
after_order-steps n erased next h Said.Nothing = tt
after_order-steps n erased next h answer = tt

sweep_on-steps : (budget after erased : ℕ) → AsksAtMost (budget * 3) (sweep_on budget after erased)
unfolding sweep_on
sweep_on-steps zero after erased = tt
sweep_on-steps (suc budget) after erased =
    let n = budget * 3 in
    more_steps (sweep_on (suc budget) after erased) (suc (suc (suc n))) (suc budget * 3) (omega arith)
    (ask-nothing-steps (suc (suc n)) _ _ (after_order-steps n erased _ (λ last total. sweep_on-steps budget last total)))

sweep_work-steps : (budget : ℕ) → AsksAtMost (budget * 3) (sweep_work budget)
unfolding sweep_work
sweep_work-steps budget = sweep_on-steps budget 0 0

-- ---- servers and the metaserver as a whole

after_bye-steps : (n : ℕ) (a : MetaReply) → AsksAtMost n (after_bye a)
unfolding after_bye
after_bye-steps n (Said.Done place) = tt
after_bye-steps n answer = tt

after_stop-steps : (server : ℕ) (a : ChunkAnswer) → AsksAtMost 1 (after_stop server a)
unfolding after_stop
after_stop-steps server Did.Stopped = ask-nothing-steps 0 _ after_bye (after_bye-steps 0)
after_stop-steps server answer = tt

stop_work-steps : (server : ℕ) → AsksAtMost 2 (stop_work server)
unfolding stop_work
stop_work-steps server = ask_server-nothing-steps 1 server _ (after_stop server) (after_stop-steps server)

after_hello-steps : (n : ℕ) (report : Report) (a : MetaReply) → AsksAtMost n (after_hello report a)
unfolding after_hello
after_hello-steps n report (Said.Done place) = tt
after_hello-steps n report (Said.Old known) = tt
after_hello-steps n report answer = tt

after_inventory-steps : (server : ℕ) (report : Report) (a : ChunkAnswer) → AsksAtMost 1 (after_inventory server report a)
unfolding after_inventory
after_inventory-steps server report (Did.Inventory life keys) =
    ask-nothing-steps 0 _ (after_hello report) (after_hello-steps 0 report)
after_inventory-steps server report Did.Down = tt
after_inventory-steps server report answer = tt

tell_copies-steps : (server : ℕ) (report : Report) → AsksAtMost 2 (tell_copies server report)
unfolding tell_copies
tell_copies-steps server report =
    ask_server-nothing-steps 1 server _ (after_inventory server report) (after_inventory-steps server report)

after_start-steps : (server : ℕ) (a : ChunkAnswer) → AsksAtMost 2 (after_start server a)
unfolding after_start
after_start-steps server (Did.Started life) = tell_copies-steps server _
after_start-steps server Did.Fault = tt
after_start-steps server answer = tt

start_work-steps : (server : ℕ) → AsksAtMost 3 (start_work server)
unfolding start_work
start_work-steps server = ask_server-nothing-steps 2 server _ (after_start server) (after_start-steps server)

after_wipe-steps : (server : ℕ) (a : ChunkAnswer) → AsksAtMost 2 (after_wipe server a)
unfolding after_wipe
after_wipe-steps server (Did.Wiped life) = tell_copies-steps server _
after_wipe-steps server Did.Fault = tt
after_wipe-steps server answer = tt

wipe_work-steps : (server : ℕ) → AsksAtMost 3 (wipe_work server)
unfolding wipe_work
wipe_work-steps server = ask_server-nothing-steps 2 server _ (after_wipe server) (after_wipe-steps server)

after_rest-steps : (n until : ℕ) (a : ChunkAnswer) → AsksAtMost n (after_rest until a)
unfolding after_rest
after_rest-steps n until Did.Stopped = tt
after_rest-steps n until answer = tt

after_hibernate-steps : (server : ℕ) (a : MetaReply) → AsksAtMost 1 (after_hibernate server a)
unfolding after_hibernate
after_hibernate-steps server (Said.Until clock) =
    ask_server-nothing-steps 0 server _ (after_rest clock) (after_rest-steps 0 clock)
after_hibernate-steps server Said.NotUp = tt
after_hibernate-steps server answer = tt

hibernate_work-steps : (server ticks : ℕ) → AsksAtMost 2 (hibernate_work server ticks)
unfolding hibernate_work
hibernate_work-steps server ticks =
    ask-nothing-steps 1 _ (after_hibernate server) (after_hibernate-steps server)

after_upgrade-steps : (n : ℕ) (a : ChunkAnswer) → AsksAtMost n (after_upgrade a)
unfolding after_upgrade
after_upgrade-steps n Did.Upgraded = tt
after_upgrade-steps n Did.Down = tt
after_upgrade-steps n answer = tt

upgrade_work-steps : (server : ℕ) → AsksAtMost 1 (upgrade_work server)
unfolding upgrade_work
upgrade_work-steps server = ask_server-nothing-steps 0 server _ after_upgrade (after_upgrade-steps 0)

ticked-steps : (n : ℕ) (a : MetaReply) → AsksAtMost n (ticked a)
unfolding ticked
ticked-steps n (Said.Clock now) = tt
ticked-steps n answer = tt

dropped-steps : (n : ℕ) (a : MetaReply) → AsksAtMost n (dropped a)
unfolding dropped
dropped-steps n (Said.Done place) = tt
dropped-steps n answer = tt

saved-steps : (n : ℕ) (a : MetaReply) → AsksAtMost n (saved a)
unfolding saved
saved-steps n (Said.Saved turn) = tt
saved-steps n answer = tt

restarted-steps : (n : ℕ) (a : MetaReply) → AsksAtMost n (restarted a)
unfolding restarted
restarted-steps n (Said.Restarted turn) = tt
restarted-steps n answer = tt

-- ---- all commands

file_work-steps : (rules : Rules) (number : ℕ) (command : FileCommand)
    → AsksAtMost (most_file_steps rules command) (file_work rules number command)
unfolding file_work most_file_steps
file_work-steps rules number (File.Mkdir path) = change_work-steps _
file_work-steps rules number (File.Rmdir path) = change_work-steps _
file_work-steps rules number (File.Remove path) = change_work-steps _
file_work-steps rules number (File.Rename from to) = change_work-steps _
file_work-steps rules number (File.List path) = list_work-steps path
file_work-steps rules number (File.Put path recipe) = put_work-steps rules.layout number path (bytes_of recipe)
file_work-steps rules number (File.Get path range) = get_work-steps rules.layout rules.tries path range

-- no command asks more than its bound
pub work_of-steps : (rules : Rules) (number : ℕ) (command : Command)
    → AsksAtMost (most_steps rules command) (work_of rules number command)
unfolding work_of most_steps tick_work drop_work checkpoint_work restart_work
work_of-steps rules number (Does.File command) = file_work-steps rules number command
work_of-steps rules number (Does.Recover path index slot) = recover_work-steps rules.layout path index slot
work_of-steps rules number (Does.Move path index slot server) = move_work-steps rules.layout path index slot server
work_of-steps rules number (Does.Heal budget) = heal_work-steps rules.layout budget
work_of-steps rules number (Does.Rebalance budget) = rebalance_work-steps rules.layout budget
work_of-steps rules number (Does.Evacuate server budget) = evacuate_work-steps rules.layout server budget
work_of-steps rules number (Does.Sweep budget) = sweep_work-steps budget
work_of-steps rules number (Does.Stop server) = stop_work-steps server
work_of-steps rules number (Does.Start server) = start_work-steps server
work_of-steps rules number (Does.Wipe server) = wipe_work-steps server
work_of-steps rules number (Does.Hibernate server ticks) = hibernate_work-steps server ticks
work_of-steps rules number (Does.Upgrade server) = upgrade_work-steps server
work_of-steps rules number Does.Tick = ask-nothing-steps 0 _ ticked (ticked-steps 0)
work_of-steps rules number (Does.Drop actor) = ask-nothing-steps 0 _ dropped (dropped-steps 0)
work_of-steps rules number Does.Checkpoint = ask-nothing-steps 0 _ saved (saved-steps 0)
work_of-steps rules number Does.Restart = ask-nothing-steps 0 _ restarted (restarted-steps 0)
