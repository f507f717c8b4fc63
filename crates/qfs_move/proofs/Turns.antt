-- What becomes of a node's reply at each stage of a command that moves copies.
use Rattle.std.proofs.Common.{◌≡◌, ◌∙◌, refl, sym, arith, ℕ, ◌<◌, ◌≤◌, false, true, [], None, Some}
use Rattle.std.proofs.lemmas.Bool.Decides.{nat_tests}
use Rattle.qfs_base.specs.Shape.{Shape}
use Rattle.qfs_base.specs.declared.chunk.Copy.{Copy}
use Rattle.qfs_base.specs.declared.reply.ChunkReply.{ChunkReply}
use Rattle.qfs_base.specs.declared.reply.Granted.{Granted}
use Rattle.qfs_base.specs.declared.reply.MetaReply.{MetaReply}
use Rattle.qfs_base.specs.declared.reply.MetaReply.TheVariants as Said
use Rattle.qfs_base.specs.declared.reply.NodeReply.TheVariants as From
use Rattle.qfs_machine.specs.Endings.{ending_of_meta, report_of_ending}
use Rattle.qfs_machine.specs.declared.ending.Ending.{Ending}
use Rattle.qfs_machine.proofs.Endings.{on_answer-nothing, on_answer-none}
use Rattle.qfs_model_actor.specs.Ask.{ask, ask_server}
use Rattle.qfs_model_actor.specs.Grants.{if_meant, is_grant_of, is_in_range, source_of, with_grant_of, with_proper, with_source}
use Rattle.qfs_model_actor.specs.Hold.{nothing, unnamed, ask_or, end_with, give_back, on_answer, on_meta}
use Rattle.qfs_model_actor.specs.Move.{after_move_at, copy_chunk, copy_windows, count_left, evacuate_on, evacuate_work, move_slot, move_work, rebalance_on}
use Rattle.qfs_model_actor.specs.Repair.{confirm, store_granted}
use Rattle.qfs_model_actor.specs.Work.{ends, goes_on, request_in}
use Rattle.qfs_move.specs.Rest.{course_of, done_of, failed_of, rest_of_copy, rest_of_move, IsMoveStage}
use Rattle.qfs_move.specs.Turns.{after_answer, rest_of_grant, AsksMeta}
use Rattle.qfs_move.specs.declared.ending.MoveEnding.{MoveEnding}
use Rattle.qfs_move.specs.declared.stage.Copying.{Copying}
use Rattle.qfs_move.specs.declared.stage.Errand.{Errand}
use Rattle.qfs_move.specs.declared.stage.Errand.TheVariants as For
use Rattle.qfs_move.specs.declared.stage.Stage.{Stage}
use Rattle.qfs_move.specs.declared.stage.Stage.TheVariants as At
use Rattle.qfs_move.proofs.Groups.{group-asks}
use Rattle.qfs_repair.proofs.RowGroups.{windows-end}
use Rattle.qfs_repair.specs.Deliveries.{rest_of_delivery}
use Rattle.qfs_repair.specs.declared.delivery.Delivery.{Delivery}
use Rattle.qfs_repair.specs.declared.delivery.Delivery.TheVariants as Under

-- ---- the metaserver answers a command that holds nothing there

meta_goes : (layout : Shape) (stage : Stage) (answer : MetaReply) → AsksMeta stage
    → goes_on (rest_of_move layout stage) (From.Meta answer) ≡ on_answer (end_with nothing) (after_answer layout stage) answer
unfolding rest_of_move after_answer move_work rebalance_on evacuate_on evacuate_work count_left ask ask_or on_meta goes_on
meta_goes layout (At.Asking one) answer asks = refl
meta_goes layout (At.Balancing at) answer asks = refl
meta_goes layout (At.Leaving server budget) answer asks = refl
meta_goes layout (At.Evacuating at) answer asks = refl
meta_goes layout (At.Counting server so_far) answer asks = refl
meta_goes layout (At.Copying errand c) answer asks = absurd asks
meta_goes layout (At.Delivering errand source delivery) answer asks = absurd asks
meta_goes layout (At.Ended ending) answer asks = absurd asks

-- an answer ends the command as it may end any, or the command goes on with it
pub meta_ends : (layout : Shape) (stage : Stage) (answer : MetaReply) (ending : Ending) → AsksMeta stage
    → ending_of_meta answer ≡ Some ending
    → ends (report_of_ending ending) ≡ goes_on (rest_of_move layout stage) (From.Meta answer)
meta_ends layout stage answer ending asks is =
    sym (meta_goes layout stage answer asks ∙ on_answer-nothing (after_answer layout stage) answer ending is)

pub meta_goes_on : (layout : Shape) (stage : Stage) (answer : MetaReply) → AsksMeta stage → ending_of_meta answer ≡ None
    → after_answer layout stage answer ≡ goes_on (rest_of_move layout stage) (From.Meta answer)
meta_goes_on layout stage answer asks none =
    sym (meta_goes layout stage answer asks ∙ on_answer-none (end_with nothing) (after_answer layout stage) answer none)

-- a chunk server's answer is none to such a request
pub strange_server : (layout : Shape) (stage : Stage) (reply : ChunkReply) → AsksMeta stage
    → unnamed ≡ goes_on (rest_of_move layout stage) (From.Chunk reply)
unfolding rest_of_move move_work rebalance_on evacuate_on evacuate_work count_left ask ask_or on_meta goes_on
strange_server layout (At.Asking one) reply asks = refl
strange_server layout (At.Balancing at) reply asks = refl
strange_server layout (At.Leaving server budget) reply asks = refl
strange_server layout (At.Evacuating at) reply asks = refl
strange_server layout (At.Counting server so_far) reply asks = refl
strange_server layout (At.Copying errand c) reply asks = absurd asks
strange_server layout (At.Delivering errand source delivery) reply asks = absurd asks
strange_server layout (At.Ended ending) reply asks = absurd asks

-- the stages that don't read, store or end ask the metaserver
pub other_asks : (stage : Stage) → ((errand : Errand) (c : Copying) → stage ≡ At.Copying errand c → ⊥)
    → ((errand : Errand) (source : Copy) (delivery : Delivery) → stage ≡ At.Delivering errand source delivery → ⊥)
    → ((ending : MoveEnding) → stage ≡ At.Ended ending → ⊥) → AsksMeta stage
other_asks (At.Copying errand c) x y z = absurd (x errand c refl)
other_asks (At.Delivering errand source delivery) x y z = absurd (y errand source delivery refl)
other_asks (At.Ended ending) x y z = absurd (z ending refl)
other_asks stage x y z = tt

-- ---- a grant

pub in_range : (g : Granted) → is_in_range g ≡ true → (g.slot < 9) × (g.rows ≤ 1024)
unfolding is_in_range
in_range g is = grind (arith, nat_tests, is)

pub begin-out : (layout : Shape) (errand : Errand) (g : Granted) → is_in_range g ≡ false → unnamed ≡ rest_of_grant layout errand g
unfolding move_slot with_proper if_meant
begin-out layout errand g is = rw is refl

pub begin-none : (layout : Shape) (errand : Errand) (g : Granted) → is_in_range g ≡ true → source_of g ≡ None → unnamed ≡ rest_of_grant layout errand g
unfolding move_slot with_proper if_meant with_source
begin-none layout errand g is none = rw (is, none) refl

pub begin-some : (layout : Shape) (errand : Errand) (g : Granted) (source : Copy) → is_in_range g ≡ true → source_of g ≡ Some source
    → rest_of_copy layout errand g source ≡ rest_of_grant layout errand g
unfolding move_slot with_proper if_meant with_source
begin-some layout errand g source is some = rw (is, some) refl

-- a chunk of no rows is stored at once
pub copy-none : (layout : Shape) (errand : Errand) (g : Granted) (source : Copy) → g.rows ≡ 0
    → store_granted (done_of layout source g errand) (λ report. failed_of layout g report errand) g [] ≡ rest_of_copy layout errand g source
unfolding copy_chunk copy_windows
copy-none layout errand g source none = rw (windows-end g.block.index g.rows 0 (omega (arith, none))) refl

-- ---- a command that asks nothing has ended

pub has_ended : (layout : Shape) (stage : Stage) → IsMoveStage layout stage → request_in (rest_of_move layout stage) ≡ None
    → ((ending : MoveEnding) → stage ≡ At.Ended ending → ⊥) → ⊥
unfolding rest_of_move move_work rebalance_on evacuate_on evacuate_work count_left rest_of_delivery store_granted confirm give_back ask ask_or ask_server request_in
has_ended layout (At.Asking one) at none other = absurd (cc)
has_ended layout (At.Balancing b) at none other = absurd (cc)
has_ended layout (At.Leaving server budget) at none other = absurd (cc)
has_ended layout (At.Evacuating e) at none other = absurd (cc)
has_ended layout (At.Counting server so_far) at none other = absurd (cc)
has_ended layout (At.Copying errand c) at none other =
    let asks = rw (group-asks layout (course_of layout errand c.source) c at.1.more) at none in absurd (cc)
has_ended layout (At.Delivering errand source (Under.Storing g chunk)) at none other = absurd (cc)
has_ended layout (At.Delivering errand source (Under.Confirming g)) at none other = absurd (cc)
has_ended layout (At.Delivering errand source (Under.Abandoning g after)) at none other = absurd (cc)
has_ended layout (At.Ended ending) at none other = other ending refl

-- ---- the grant of one move, which may be of another slot

pub one-meant : (layout : Shape) (index slot : ℕ) (g : Granted) → is_grant_of index slot g ≡ true
    → rest_of_grant layout For.One g ≡ after_move_at layout index slot (Said.Granted g)
unfolding after_move_at with_grant_of if_meant done_of failed_of
one-meant layout index slot g is = rw is refl

pub one-other : (layout : Shape) (index slot : ℕ) (g : Granted) → is_grant_of index slot g ≡ false
    → unnamed ≡ after_move_at layout index slot (Said.Granted g)
unfolding after_move_at with_grant_of if_meant
one-other layout index slot g is = rw is refl
