-- Moves: the copy of a slot is read whole from its server and stored on another.
use Rattle.std.specs.Prelude.{ℕ, zero, suc, ◌+◌, ◌*◌, List, [], ◌∷◌, ◌++◌, Option, Some, None}
use Rattle.qfs_base.specs.Shape.{Shape}
use Rattle.qfs_base.specs.declared.chunk.Copy.{Copy}
use Rattle.qfs_base.specs.declared.command.Reply.TheVariants as Report
use Rattle.qfs_base.specs.declared.reply.Granted.{Granted}
use Rattle.qfs_base.specs.declared.reply.MetaReply.{MetaReply}
use Rattle.qfs_base.specs.declared.reply.MetaReply.TheVariants as Said
use Rattle.qfs_base.specs.declared.request.MetaRequest.TheVariants as Ask
use Rattle.qfs_base.specs.declared.request.SlotId.{SlotId}
use Rattle.qfs_model_actor.specs.Work.{Report, Work, ends}
use Rattle.qfs_model_actor.specs.Hold.{nothing, granted, unnamed}
use Rattle.qfs_model_actor.specs.Ask.{ask, fetch}
use Rattle.qfs_model_actor.specs.Grants.{with_grant_of, with_proper, slot_of_grant, source_of, with_source}
use Rattle.qfs_base.specs.Layout.{windows_of_rows}
use Rattle.qfs_base.specs.declared.layout.Window.{Window}
use Rattle.qfs_model_actor.specs.Repair.{store_granted, give_up}

-- reads these windows of a copy behind the bytes that it has got, and goes on with all
unfoldable pub copy_windows : ℕ → (Report → Work) → Granted → Copy → (List ℕ → Work) → List Window → List ℕ → Work
copy_windows stripe failed g source next [] got = next got
copy_windows stripe failed g source next (w ∷ windows) got =
    fetch (granted g) g.block g.slot (w.first_row * stripe) (w.rows * stripe)
    (λ room. copy_windows stripe failed g source next windows (got ++ room))
    (λ cause. give_up failed g (Report.SourceFailed source.server cause))
    source

-- reads the chunk of a grant from a copy and stores it
unfoldable pub copy_chunk : Shape → Work → (Report → Work) → Granted → Copy → Work
copy_chunk layout done failed g source =
    copy_windows layout.s failed g source (λ chunk. store_granted done failed g chunk)
    (windows_of_rows g.block.index 0 g.rows) []

-- moves the slot of a grant from the one copy that it lists: it is done, or it has failed with a report
unfoldable pub move_slot : Shape → (Copy → Work) → (Report → Work) → Granted → Work
move_slot layout done failed g =
    with_proper (λ g. with_source (λ source. copy_chunk layout (done source) failed g source) (source_of g)) g

-- the report of a slot that was moved
abbrev pub moved : Granted → Copy → Report
moved g source = Report.Moved g.block g.slot source.server g.server g.version

-- the move of a slot was granted or refused
unfoldable pub after_move_at : Shape → ℕ → ℕ → MetaReply → Work
after_move_at layout index slot (Said.Granted g) =
    with_grant_of index slot (λ g. move_slot layout (λ source. ends (moved g source)) ends g) g
after_move_at layout index slot (Said.BadPath refusal) = ends (Report.BadPath refusal)
after_move_at layout index slot Said.NoBlock = ends Report.NoBlock
after_move_at layout index slot (Said.Taken version) = ends (Report.Taken version)
after_move_at layout index slot (Said.Away server) = ends (Report.Away server)
after_move_at layout index slot (Said.Barred server) = ends (Report.Barred server)
after_move_at layout index slot answer = unnamed

unfoldable pub move_work : Shape → List (List ℕ) → ℕ → ℕ → ℕ → Work
move_work layout path index slot to = ask nothing (Ask.MoveAt path index slot to) (after_move_at layout index slot)

-- a move was granted that evens the servers out, or there is none
unfoldable pub after_balance_next : Shape → ℕ → (ℕ → Work) → MetaReply → Work
after_balance_next layout so_far next (Said.Granted g) =
    move_slot layout (λ source. next (so_far + 1)) (λ report. ends (Report.Rebalanced so_far 1)) g
after_balance_next layout so_far next Said.Nothing = ends (Report.Rebalanced so_far 0)
after_balance_next layout so_far next answer = unnamed

-- makes at most so many more moves, up to the first that fails
unfoldable pub rebalance_on : Shape → ℕ → ℕ → Work
rebalance_on layout zero so_far = ends (Report.Rebalanced so_far 0)
rebalance_on layout (suc budget) so_far =
    ask nothing Ask.BalanceNext (after_balance_next layout so_far (λ more. rebalance_on layout budget more))

unfoldable pub rebalance_work : Shape → ℕ → Work
rebalance_work layout budget = rebalance_on layout budget 0

-- where an evacuation stands: the last slot that was granted, and how many were moved and failed
pub record Leaving : Type 0 where
  pub after : Option SlotId
  pub moved : ℕ
  pub failed : ℕ

-- it goes on behind a slot that was moved, and behind one that failed
abbrev pub one_moved : Leaving → Granted → Leaving
one_moved so_far g = record so_far { after = Some (slot_of_grant g); moved = so_far.moved + 1 }

abbrev pub one_not_moved : Leaving → Granted → Leaving
one_not_moved so_far g = record so_far { after = Some (slot_of_grant g); failed = so_far.failed + 1 }

-- the server has so many copies left
unfoldable pub evacuated : Leaving → MetaReply → Work
evacuated so_far (Said.Left count) = ends (Report.Evacuated so_far.moved so_far.failed count)
evacuated so_far answer = unnamed

-- asks how many copies the server has left
unfoldable pub count_left : ℕ → Leaving → Work
count_left server so_far = ask nothing (Ask.LeftOn server) (evacuated so_far)

-- the next slot on the server was granted, or there is none, or no server for it
unfoldable pub after_evac_next : Shape → ℕ → Leaving → (Leaving → Work) → MetaReply → Work
after_evac_next layout server so_far next (Said.Granted g) =
    move_slot layout (λ source. next (one_moved so_far g)) (λ report. next (one_not_moved so_far g)) g
after_evac_next layout server so_far next Said.Nothing = count_left server so_far
after_evac_next layout server so_far next (Said.NoServer block slot) =
    ends (Report.EvacNoServer so_far.moved so_far.failed block slot)
after_evac_next layout server so_far next answer = unnamed

-- moves at most so many more slots off a server
unfoldable pub evacuate_on : Shape → ℕ → ℕ → Leaving → Work
evacuate_on layout server zero so_far = count_left server so_far
evacuate_on layout server (suc budget) so_far =
    ask nothing (Ask.EvacNext server so_far.after)
    (after_evac_next layout server so_far (λ further. evacuate_on layout server budget further))

-- the server takes no new chunks from now on
unfoldable pub after_leave : Shape → ℕ → ℕ → MetaReply → Work
after_leave layout server budget (Said.Done place) =
    evacuate_on layout server budget (record { after = None; moved = 0; failed = 0 })
after_leave layout server budget answer = unnamed

unfoldable pub evacuate_work : Shape → ℕ → ℕ → Work
evacuate_work layout server budget = ask nothing (Ask.Leave server) (after_leave layout server budget)
