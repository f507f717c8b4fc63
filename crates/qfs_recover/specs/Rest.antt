-- What is left of a command that recovers slots at each of its stages.
use Rattle.std.specs.Prelude.{◌≡◌, ℕ, suc, ◌+◌, ◌*◌, ◌<◌, ◌≤◌, ◌^◌, List, ◌++◌, length, IfSome, IsSome, ◌⊎◌, ⊤}
use Rattle.qfs_base.specs.Shape.{Shape}
use Rattle.qfs_base.specs.Sizes.{SLOTS, MOST_ROWS, WINDOW_ROWS}
use Rattle.qfs_base.specs.declared.command.Reply.TheVariants as Report
use Rattle.qfs_base.specs.declared.reply.Granted.{Granted}
use Rattle.qfs_machine.specs.Endings.{report_of_ending}
use Rattle.qfs_machine.specs.declared.machine.Readiness.{Readiness}
use Rattle.qfs_machine.specs.declared.machine.Readiness.TheVariants.{Unready, Ready, Out}
use Rattle.qfs_model_actor.specs.Pieces.{restored_slot}
use Rattle.qfs_model_actor.specs.Read.{Reading, Source, causes_of, read_windows}
use Rattle.qfs_model_actor.specs.Recover.{Healing, heal_on, one_healed, one_not_healed, reading_for, recover_work, recovered, restore_chunk}
use Rattle.qfs_model_actor.specs.Repair.{give_up, store_granted}
use Rattle.qfs_model_actor.specs.Work.{Report, Work, ends}
use Rattle.qfs_recover.specs.declared.ending.RecoveryEnding.{RecoveryEnding}
use Rattle.qfs_recover.specs.declared.ending.RecoveryEnding.TheVariants as With
use Rattle.qfs_recover.specs.declared.stage.Errand.{Errand}
use Rattle.qfs_recover.specs.declared.stage.Errand.TheVariants as For
use Rattle.qfs_recover.specs.declared.stage.Heal.{Heal}
use Rattle.qfs_recover.specs.declared.stage.Restoring.{Restoring}
use Rattle.qfs_recover.specs.declared.stage.Stage.{Stage}
use Rattle.qfs_recover.specs.declared.stage.Starving.{Starving}
use Rattle.qfs_recover.specs.declared.stage.Stage.TheVariants as At
use Rattle.qfs_repair.specs.Deliveries.{Course, report_of_failure, rest_of_delivery, HoldsChunk, IsDelivery}
use Rattle.qfs_repair.specs.RowGroups.{filled_before, group_window, windows_from}
use Rattle.qfs_window.specs.WindowReads.{rest_of_read, Behind, HasRoom, IsRead}

-- the report of a command that ends so
unfoldable pub report_of_recovery : RecoveryEnding → Report
report_of_recovery (With.Recovered block slot server version) =
    Report.Recovered block slot server version
report_of_recovery (With.Failed failure) = report_of_failure failure
report_of_recovery (With.TooFew index causes) = Report.TooFew index causes
report_of_recovery (With.BadPath refusal) = Report.BadPath refusal
report_of_recovery With.NoBlock = Report.NoBlock
report_of_recovery (With.Taken version) = Report.Taken version
report_of_recovery With.Whole = Report.Whole
report_of_recovery (With.NoServer block slot) = Report.NoServer block slot
report_of_recovery (With.Healed healed failed) = Report.Healed healed failed
report_of_recovery (With.HealNoServer healed failed block slot) =
    Report.HealNoServer healed failed block slot
report_of_recovery (With.Common ending) = report_of_ending ending

-- where a heal stands
abbrev pub healing_of : Heal → Healing
healing_of at = record { after = at.after; healed = at.healed; failed = at.failed }

-- how a command goes on behind a slot of its errand: where it was recovered, and where that has
-- failed with a report
unfoldable pub done_of : Shape → Granted → Errand → Work
done_of layout g For.One = ends (recovered g)
done_of layout g (For.Heal at) = heal_on layout at.more (one_healed (healing_of at) g)

unfoldable pub failed_of : Shape → Granted → Report → Errand → Work
failed_of layout g report For.One = ends report
failed_of layout g report (For.Heal at) = heal_on layout at.more (one_not_healed (healing_of at) g)

abbrev pub course_of : Shape → Errand → Course
course_of layout errand =
    record {
      done = λ g. done_of layout g errand;
      failed = λ g report. failed_of layout g report errand;
    }

-- how the other slots of a block are read
abbrev pub reading_in : Shape → Course → Granted → Reading
reading_in layout course g = reading_for layout (course.failed g) g

-- what is left of a command that comes to a group, where these slots can be read, behind these bytes
-- of the chunk
abbrev pub rest_of_groups : Shape → Course → Granted → ℕ → List Source → List ℕ → Work
rest_of_groups layout course g group sources got =
    read_windows (reading_in layout course g) (windows_from g.block.index g.rows group) sources got
    (λ chunk. store_granted (course.done g) (course.failed g) g chunk)

-- what comes behind a group, where these slots can be read and these pieces were
abbrev pub behind_group : Shape → Course → Granted → ℕ → List ℕ → Behind
behind_group layout course g group chunk sources pieces =
    rest_of_groups layout course g (group + 1) sources
    (filled_before layout.s group chunk ++ restored_slot pieces g.slot)

-- what is left of a command that reads the other slots of a block
unfoldable pub rest_of_restoring : Shape → Course → Restoring → Work
rest_of_restoring layout course c =
    rest_of_read (reading_in layout course c.grant)
    (behind_group layout course c.grant c.group c.chunk.items) c.read

-- what is left of a command that finds too few slots of a block
unfoldable pub rest_of_starving : Course → Granted → List Source → Work
rest_of_starving course g sources =
    give_up (course.failed g) g (Report.TooFew g.block.index (causes_of sources))

-- what is left of a command whose slot was granted
abbrev pub rest_of_chunk : Shape → Errand → Granted → Work
rest_of_chunk layout errand g =
    restore_chunk layout (done_of layout g errand) (λ report. failed_of layout g report errand) g

-- what is left of a command
unfoldable pub rest_of_recovery : Shape → Stage → Work
rest_of_recovery layout (At.Asking one) = recover_work layout one.path one.index one.slot
rest_of_recovery layout (At.Healing at) = heal_on layout (suc at.more) (healing_of at)
rest_of_recovery layout (At.Restoring errand c) =
    rest_of_restoring layout (course_of layout errand) c
rest_of_recovery layout (At.Starving errand starving) =
    rest_of_starving (course_of layout errand) starving.grant starving.sources
rest_of_recovery layout (At.Delivering errand delivery) =
    rest_of_delivery (course_of layout errand) delivery
rest_of_recovery layout (At.Ended ending) = ends (report_of_recovery ending)

-- no heal recovers more slots than a number of 32 bits counts
abbrev pub IsHeal : Heal → Type 0
IsHeal at = at.healed + at.failed + at.more + 1 < 2 ^ 32

abbrev pub IsErrand : Errand → Type 0
IsErrand For.One = ⊤
IsErrand (For.Heal at) = IsHeal at

-- the room for a whole chunk is there
abbrev pub HasChunkRoom : Shape → Restoring → Type 0
HasChunkRoom layout c = length c.chunk.items ≡ c.grant.rows * layout.s

-- a chunk is made anew whose grant is in its range, and the window of its group is read
pub record IsRestoring (layout : Shape) (c : Restoring) : Type 0 where
  pub slot : c.grant.slot < SLOTS
  pub rows : c.grant.rows ≤ MOST_ROWS
  pub more : c.group * WINDOW_ROWS < c.grant.rows
  pub window : c.read.window ≡ group_window c.grant.block.index c.grant.rows c.group
  pub read : IsRead layout.s c.read
  pub room : (c.group ≡ 0) ⊎ HasChunkRoom layout c

-- the causes that are listed are those of its sources
abbrev pub IsStarving : Starving → Type 0
IsStarving starving = IfSome starving.causes (λ list. list ≡ causes_of starving.sources)

-- what holds at each stage
abbrev pub IsRecoveryStage : Shape → Stage → Type 0
IsRecoveryStage layout (At.Asking one) = ⊤
IsRecoveryStage layout (At.Healing at) = IsHeal at
IsRecoveryStage layout (At.Restoring errand c) = IsErrand errand × IsRestoring layout c
IsRecoveryStage layout (At.Starving errand starving) = IsErrand errand × IsStarving starving
IsRecoveryStage layout (At.Delivering errand delivery) = IsErrand errand × IsDelivery delivery
IsRecoveryStage layout (At.Ended ending) = ⊤

-- a chunk that is stored next is at hand
abbrev pub HoldsNext : Stage → Type 0
HoldsNext (At.Delivering errand delivery) = HoldsChunk delivery
HoldsNext stage = ⊤

-- the memory for the reply to a stage's request is there
abbrev pub IsSupplied : Shape → Stage → Type 0
IsSupplied layout (At.Restoring errand c) = HasChunkRoom layout c × HasRoom layout.s c.read
IsSupplied layout (At.Starving errand starving) = IsSome starving.causes
IsSupplied layout stage = ⊤

-- a chunk is at hand before its request is prepared, and the memory for a reply from then on
abbrev pub IsSetFor : Readiness → Shape → Stage → Type 0
IsSetFor Unready layout stage = HoldsNext stage
IsSetFor Ready layout stage = IsSupplied layout stage
IsSetFor Out layout stage = IsSupplied layout stage

-- how a recovery stands: the layout of the files, what the command waits for, and how it stands to
-- its next request
pub record RecoveryState : Type 0 where
  pub layout : Shape
  pub stage : Stage
  pub readiness : Readiness

abbrev pub rest_of_state : RecoveryState → Work
rest_of_state it = rest_of_recovery it.layout it.stage
