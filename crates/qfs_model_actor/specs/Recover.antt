-- Recoveries: a missing chunk is made anew from six others of its block and stored on another server.
use Rattle.std.specs.Prelude.{ℕ, zero, suc, ◌+◌, List, [], Option, Some, None}
use Rattle.qfs_base.specs.Shape.{Shape}
use Rattle.qfs_base.specs.declared.command.Reply.TheVariants as Report
use Rattle.qfs_base.specs.declared.reply.Granted.{Granted}
use Rattle.qfs_base.specs.declared.reply.MetaReply.{MetaReply}
use Rattle.qfs_base.specs.declared.reply.MetaReply.TheVariants as Said
use Rattle.qfs_base.specs.declared.request.MetaRequest.TheVariants as Ask
use Rattle.qfs_base.specs.declared.request.SlotId.{SlotId}
use Rattle.qfs_model_actor.specs.Work.{Report, Work, ends}
use Rattle.qfs_model_actor.specs.Hold.{nothing, granted, unnamed}
use Rattle.qfs_model_actor.specs.Ask.{ask}
use Rattle.qfs_model_actor.specs.Grants.{with_grant_of, with_proper, slot_of_grant}
use Rattle.qfs_base.specs.Layout.{windows_of_rows}
use Rattle.qfs_model_actor.specs.Read.{Reading, read_block}
use Rattle.qfs_model_actor.specs.Pieces.{restored_slot}
use Rattle.qfs_model_actor.specs.Repair.{store_granted, give_up}

-- what a recovery reads: all rows of the block, of which it keeps the bytes of its own slot, made anew
unfoldable pub reading_for : Shape → (Report → Work) → Granted → Reading
reading_for layout failed g =
    record {
      hold = granted g;
      block = g.block;
      stripe = layout.s;
      kept = λ w pieces. restored_slot pieces g.slot;
      too_few = λ causes. give_up failed g (Report.TooFew g.block.index causes);
    }

-- makes the chunk of a grant anew and stores it
unfoldable pub restore_chunk : Shape → Work → (Report → Work) → Granted → Work
restore_chunk layout done failed g =
    read_block (reading_for layout failed g) (windows_of_rows g.block.index 0 g.rows) g.sources []
    (λ chunk. store_granted done failed g chunk)

-- recovers the slot of a grant: it is done, or it has failed with a report
unfoldable pub recover_slot : Shape → Work → (Report → Work) → Granted → Work
recover_slot layout done failed g = with_proper (λ g. restore_chunk layout done failed g) g

-- the report of a slot that was recovered
abbrev pub recovered : Granted → Report
recovered g = Report.Recovered g.block g.slot g.server g.version

-- the recovery of a slot was granted or refused
unfoldable pub after_recover_at : Shape → ℕ → ℕ → MetaReply → Work
after_recover_at layout index slot (Said.Granted g) =
    with_grant_of index slot (λ g. recover_slot layout (ends (recovered g)) ends g) g
after_recover_at layout index slot (Said.BadPath refusal) = ends (Report.BadPath refusal)
after_recover_at layout index slot Said.NoBlock = ends Report.NoBlock
after_recover_at layout index slot (Said.Taken version) = ends (Report.Taken version)
after_recover_at layout index slot Said.Whole = ends Report.Whole
after_recover_at layout index slot (Said.NoServer block at) = ends (Report.NoServer block at)
after_recover_at layout index slot answer = unnamed

unfoldable pub recover_work : Shape → List (List ℕ) → ℕ → ℕ → Work
recover_work layout path index slot = ask nothing (Ask.RecoverAt path index slot) (after_recover_at layout index slot)

-- where a heal stands: the last slot that was granted, and how many were recovered and failed
pub record Healing : Type 0 where
  pub after : Option SlotId
  pub healed : ℕ
  pub failed : ℕ

-- a heal goes on behind a slot that was recovered, and behind one that failed
abbrev pub one_healed : Healing → Granted → Healing
one_healed so_far g = record so_far { after = Some (slot_of_grant g); healed = so_far.healed + 1 }

abbrev pub one_not_healed : Healing → Granted → Healing
one_not_healed so_far g = record so_far { after = Some (slot_of_grant g); failed = so_far.failed + 1 }

-- the next missing slot was granted, or there is none, or no server for it
unfoldable pub after_heal_next : Shape → Healing → (Healing → Work) → MetaReply → Work
after_heal_next layout so_far next (Said.Granted g) =
    recover_slot layout (next (one_healed so_far g)) (λ report. next (one_not_healed so_far g)) g
after_heal_next layout so_far next Said.Nothing = ends (Report.Healed so_far.healed so_far.failed)
after_heal_next layout so_far next (Said.NoServer block slot) =
    ends (Report.HealNoServer so_far.healed so_far.failed block slot)
after_heal_next layout so_far next answer = unnamed

-- heals at most so many more slots
unfoldable pub heal_on : Shape → ℕ → Healing → Work
heal_on layout zero so_far = ends (Report.Healed so_far.healed so_far.failed)
heal_on layout (suc budget) so_far =
    ask nothing (Ask.HealNext so_far.after) (after_heal_next layout so_far (λ further. heal_on layout budget further))

unfoldable pub heal_work : Shape → ℕ → Work
heal_work layout budget = heal_on layout budget (record { after = None; healed = 0; failed = 0 })
