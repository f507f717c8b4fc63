-- What is left of a command that moves copies at each of its stages.
use Rattle.std.specs.Prelude.{◌≡◌, ℕ, suc, ◌+◌, ◌*◌, ◌<◌, ◌≤◌, ◌^◌, List, length, ◌⊎◌, ⊤}
use Rattle.qfs_base.specs.Shape.{Shape}
use Rattle.qfs_base.specs.Sizes.{SLOTS, MOST_ROWS, WINDOW_ROWS}
use Rattle.qfs_base.specs.declared.chunk.Copy.{Copy}
use Rattle.qfs_base.specs.declared.command.Reply.TheVariants as Report
use Rattle.qfs_base.specs.declared.reply.Granted.{Granted}
use Rattle.qfs_machine.specs.Endings.{report_of_ending}
use Rattle.qfs_machine.specs.declared.machine.Readiness.{Readiness}
use Rattle.qfs_machine.specs.declared.machine.Readiness.TheVariants.{Unready, Ready, Out}
use Rattle.qfs_model_actor.specs.Move.{Leaving, copy_chunk, copy_windows, count_left, evacuate_on, evacuate_work, move_work, moved, one_moved, one_not_moved, rebalance_on}
use Rattle.qfs_model_actor.specs.Repair.{store_granted}
use Rattle.qfs_model_actor.specs.Work.{Report, Work, ends}
use Rattle.qfs_move.specs.declared.ending.MoveEnding.{MoveEnding}
use Rattle.qfs_move.specs.declared.ending.MoveEnding.TheVariants as With
use Rattle.qfs_move.specs.declared.stage.Copying.{Copying}
use Rattle.qfs_move.specs.declared.stage.Errand.{Errand}
use Rattle.qfs_move.specs.declared.stage.Errand.TheVariants as For
use Rattle.qfs_move.specs.declared.stage.Progress.{Progress}
use Rattle.qfs_move.specs.declared.stage.Stage.{Stage}
use Rattle.qfs_move.specs.declared.stage.Stage.TheVariants as At
use Rattle.qfs_repair.specs.Deliveries.{Course, report_of_failure, rest_of_delivery, HoldsChunk, IsDelivery}
use Rattle.qfs_repair.specs.RowGroups.{filled_before, windows_from}

-- the report of a command that ends so
unfoldable pub report_of_move : MoveEnding → Report
report_of_move (With.Moved m) = Report.Moved m.block m.slot m.from m.to m.version
report_of_move (With.Failed failure) = report_of_failure failure
report_of_move (With.BadPath refusal) = Report.BadPath refusal
report_of_move With.NoBlock = Report.NoBlock
report_of_move (With.Taken version) = Report.Taken version
report_of_move (With.Away server) = Report.Away server
report_of_move (With.Barred server) = Report.Barred server
report_of_move (With.Rebalanced moved failed) = Report.Rebalanced moved failed
report_of_move (With.Evacuated moved failed left) = Report.Evacuated moved failed left
report_of_move (With.NoServer moved failed block slot) = Report.EvacNoServer moved failed block slot
report_of_move (With.Common ending) = report_of_ending ending

-- where an evacuation stands
abbrev pub leaving_of : Progress → Leaving
leaving_of p = record { after = p.after; moved = p.moved; failed = p.failed }

-- how a command goes on behind a slot of its errand: where its copy was moved from this source, and
-- where that has failed with a report
unfoldable pub done_of : Shape → Copy → Granted → Errand → Work
done_of layout source g For.One = ends (moved g source)
done_of layout source g (For.Balance at) = rebalance_on layout at.more (at.moved + 1)
done_of layout source g (For.Evacuate at) =
    evacuate_on layout at.server at.more (one_moved (leaving_of at.so_far) g)

unfoldable pub failed_of : Shape → Granted → Report → Errand → Work
failed_of layout g report For.One = ends report
failed_of layout g report (For.Balance at) = ends (Report.Rebalanced at.moved 1)
failed_of layout g report (For.Evacuate at) =
    evacuate_on layout at.server at.more (one_not_moved (leaving_of at.so_far) g)

abbrev pub course_of : Shape → Errand → Copy → Course
course_of layout errand source =
    record {
      done = λ g. done_of layout source g errand;
      failed = λ g report. failed_of layout g report errand;
    }

-- what is left of a command that reads a copy from a group on, behind these bytes
abbrev pub rest_of_groups : Shape → Course → Copying → ℕ → List ℕ → Work
rest_of_groups layout course c group got =
    copy_windows layout.s (course.failed c.grant) c.grant c.source
    (λ chunk. store_granted (course.done c.grant) (course.failed c.grant) c.grant chunk)
    (windows_from c.grant.block.index c.grant.rows group) got

-- what is left of a command whose slot was granted, and that reads its copy from a source
abbrev pub rest_of_copy : Shape → Errand → Granted → Copy → Work
rest_of_copy layout errand g source =
    copy_chunk layout (done_of layout source g errand) (λ report. failed_of layout g report errand)
    g source

-- what is left of a command that reads a copy
unfoldable pub rest_of_copying : Shape → Course → Copying → Work
rest_of_copying layout course c =
    rest_of_groups layout course c c.group (filled_before layout.s c.group c.chunk.items)

-- what is left of a command
unfoldable pub rest_of_move : Shape → Stage → Work
rest_of_move layout (At.Asking one) = move_work layout one.path one.index one.slot one.to
rest_of_move layout (At.Balancing at) = rebalance_on layout (suc at.more) at.moved
rest_of_move layout (At.Leaving server budget) = evacuate_work layout server budget
rest_of_move layout (At.Evacuating at) =
    evacuate_on layout at.server (suc at.more) (leaving_of at.so_far)
rest_of_move layout (At.Counting server so_far) = count_left server (leaving_of so_far)
rest_of_move layout (At.Copying errand c) =
    rest_of_copying layout (course_of layout errand c.source) c
rest_of_move layout (At.Delivering errand source delivery) =
    rest_of_delivery (course_of layout errand source) delivery
rest_of_move layout (At.Ended ending) = ends (report_of_move ending)

-- no command moves more copies than a number of 32 bits counts
abbrev pub IsErrand : Errand → Type 0
IsErrand For.One = ⊤
IsErrand (For.Balance at) = at.moved + at.more + 1 < 2 ^ 32
IsErrand (For.Evacuate at) = at.so_far.moved + at.so_far.failed + at.more + 1 < 2 ^ 32

-- the room for a whole chunk is there
abbrev pub HasRoom : Shape → Copying → Type 0
HasRoom layout c = length c.chunk.items ≡ c.grant.rows * layout.s

-- a copy is read whose grant is in its range, and there is a group to read
pub record IsCopying (layout : Shape) (c : Copying) : Type 0 where
  pub slot : c.grant.slot < SLOTS
  pub rows : c.grant.rows ≤ MOST_ROWS
  pub more : c.group * WINDOW_ROWS < c.grant.rows
  pub room : (c.group ≡ 0) ⊎ HasRoom layout c

-- what holds at each stage
abbrev pub IsMoveStage : Shape → Stage → Type 0
IsMoveStage layout (At.Asking one) = ⊤
IsMoveStage layout (At.Balancing at) = at.moved + at.more + 1 < 2 ^ 32
IsMoveStage layout (At.Leaving server budget) = budget < 2 ^ 32
IsMoveStage layout (At.Evacuating at) =
    at.so_far.moved + at.so_far.failed + at.more + 1 < 2 ^ 32
IsMoveStage layout (At.Counting server so_far) = ⊤
IsMoveStage layout (At.Copying errand c) = IsErrand errand × IsCopying layout c
IsMoveStage layout (At.Delivering errand source delivery) = IsErrand errand × IsDelivery delivery
IsMoveStage layout (At.Ended ending) = ⊤

-- a chunk that is stored next is at hand
abbrev pub HoldsNext : Stage → Type 0
HoldsNext (At.Delivering errand source delivery) = HoldsChunk delivery
HoldsNext stage = ⊤

-- the memory for the reply to a stage's request is there
abbrev pub IsSupplied : Shape → Stage → Type 0
IsSupplied layout (At.Copying errand c) = HasRoom layout c
IsSupplied layout stage = ⊤

-- a chunk is at hand before its request is prepared, and the memory for a reply from then on
abbrev pub IsSetFor : Readiness → Shape → Stage → Type 0
IsSetFor Unready layout stage = HoldsNext stage
IsSetFor Ready layout stage = IsSupplied layout stage
IsSetFor Out layout stage = IsSupplied layout stage

-- how a mover stands: the layout of the files, what the command waits for, and how it stands to its
-- next request
pub record MoverState : Type 0 where
  pub layout : Shape
  pub stage : Stage
  pub readiness : Readiness

abbrev pub rest_of_mover : MoverState → Work
rest_of_mover it = rest_of_move it.layout it.stage
