-- What becomes of a node's reply at each stage of a command that recovers slots.
use Rattle.std.proofs.Common.{◌≡◌, ◌∙◌, refl, sym, arith, ℕ, ◌<◌, ◌≤◌, false, true, List, [], None, Some, take, ◌*◌}
use Rattle.std.proofs.lemmas.Bool.Decides.{nat_tests}
use Rattle.qfs_base.specs.Shape.{Shape}
use Rattle.qfs_base.specs.declared.reply.ChunkReply.{ChunkReply}
use Rattle.qfs_base.specs.declared.reply.Granted.{Granted}
use Rattle.qfs_base.specs.declared.reply.MetaReply.{MetaReply}
use Rattle.qfs_base.specs.declared.reply.MetaReply.TheVariants as Said
use Rattle.qfs_base.specs.declared.reply.NodeReply.TheVariants as From
use Rattle.qfs_base.specs.declared.request.MetaRequest.TheVariants as Ask
use Rattle.qfs_base.specs.declared.request.NodeRequest.TheVariants as To
use Rattle.qfs_machine.specs.Asking.{node_asked}
use Rattle.qfs_machine.specs.Endings.{ending_of_meta, report_of_ending}
use Rattle.qfs_machine.specs.declared.ending.Ending.{Ending}
use Rattle.qfs_machine.proofs.Endings.{on_answer-nothing, on_answer-none, on_answer-some}
use Rattle.qfs_model_actor.specs.Ask.{ask, ask_server}
use Rattle.qfs_model_actor.specs.Grants.{if_meant, is_grant_of, is_in_range, with_grant_of, with_proper}
use Rattle.qfs_model_actor.specs.Hold.{nothing, unnamed, ask_or, end_with, give_back, on_answer, on_meta, was_given_back}
use Rattle.qfs_model_actor.specs.Read.{Source, are_too_few, go_on_or_stop, read_block, read_windows, sources_of, with_enough}
use Rattle.qfs_model_actor.specs.Recover.{after_recover_at, heal_on, reading_for, recover_slot, recover_work, restore_chunk}
use Rattle.qfs_model_actor.specs.Repair.{confirm, give_up, store_granted}
use Rattle.qfs_model_actor.specs.Work.{ends, goes_on, node_of_request, request_in}
use Rattle.qfs_recover.specs.Rest.{course_of, done_of, failed_of, reading_in, rest_of_chunk, rest_of_groups, rest_of_recovery, rest_of_restoring, rest_of_starving, IsRecoveryStage}
use Rattle.qfs_recover.specs.Turns.{after_answer, on_starved, rest_of_grant, rest_starved, AsksMeta}
use Rattle.qfs_recover.specs.declared.ending.RecoveryEnding.{RecoveryEnding}
use Rattle.qfs_recover.specs.declared.stage.Errand.{Errand}
use Rattle.qfs_recover.specs.declared.stage.Errand.TheVariants as For
use Rattle.qfs_recover.specs.declared.stage.Restoring.{Restoring}
use Rattle.qfs_recover.specs.declared.stage.Stage.{Stage}
use Rattle.qfs_recover.specs.declared.stage.Stage.TheVariants as At
use Rattle.qfs_repair.proofs.RowGroups.{filled-none, windows-end}
use Rattle.qfs_repair.specs.Deliveries.{Course, rest_of_delivery}
use Rattle.qfs_repair.specs.declared.delivery.After.{After}
use Rattle.qfs_repair.specs.declared.delivery.Delivery.{Delivery}
use Rattle.qfs_repair.specs.declared.delivery.Delivery.TheVariants as Under
use Rattle.qfs_window.proofs.Fetches.{read-asks}
use Rattle.qfs_window.specs.WindowReads.{IsAtSlot}

-- ---- the metaserver answers a command that holds nothing there

meta_goes : (layout : Shape) (stage : Stage) (answer : MetaReply) → AsksMeta stage
    → goes_on (rest_of_recovery layout stage) (From.Meta answer) ≡ on_answer (end_with nothing) (after_answer layout stage) answer
unfolding rest_of_recovery after_answer recover_work heal_on ask ask_or on_meta goes_on
meta_goes layout (At.Asking one) answer asks = refl
meta_goes layout (At.Healing at) answer asks = refl
meta_goes layout (At.Restoring errand c) answer asks = absurd asks
meta_goes layout (At.Starving errand starving) answer asks = absurd asks
meta_goes layout (At.Delivering errand delivery) answer asks = absurd asks
meta_goes layout (At.Ended ending) answer asks = absurd asks

-- an answer ends the command as it may end any, or the command goes on with it
pub meta_ends : (layout : Shape) (stage : Stage) (answer : MetaReply) (ending : Ending) → AsksMeta stage
    → ending_of_meta answer ≡ Some ending
    → ends (report_of_ending ending) ≡ goes_on (rest_of_recovery layout stage) (From.Meta answer)
meta_ends layout stage answer ending asks is =
    sym (meta_goes layout stage answer asks ∙ on_answer-nothing (after_answer layout stage) answer ending is)

pub meta_goes_on : (layout : Shape) (stage : Stage) (answer : MetaReply) → AsksMeta stage → ending_of_meta answer ≡ None
    → after_answer layout stage answer ≡ goes_on (rest_of_recovery layout stage) (From.Meta answer)
meta_goes_on layout stage answer asks none =
    sym (meta_goes layout stage answer asks ∙ on_answer-none (end_with nothing) (after_answer layout stage) answer none)

-- a chunk server's answer is none to such a request
pub strange_server : (layout : Shape) (stage : Stage) (reply : ChunkReply) → AsksMeta stage
    → unnamed ≡ goes_on (rest_of_recovery layout stage) (From.Chunk reply)
unfolding rest_of_recovery recover_work heal_on ask ask_or on_meta goes_on
strange_server layout (At.Asking one) reply asks = refl
strange_server layout (At.Healing at) reply asks = refl
strange_server layout (At.Restoring errand c) reply asks = absurd asks
strange_server layout (At.Starving errand starving) reply asks = absurd asks
strange_server layout (At.Delivering errand delivery) reply asks = absurd asks
strange_server layout (At.Ended ending) reply asks = absurd asks

-- ---- a grant

pub in_range : (g : Granted) → is_in_range g ≡ true → (g.slot < 9) × (g.rows ≤ 1024)
unfolding is_in_range
in_range g is = grind (arith, nat_tests, is)

pub begin-out : (layout : Shape) (errand : Errand) (g : Granted) → is_in_range g ≡ false → unnamed ≡ rest_of_grant layout errand g
unfolding recover_slot with_proper if_meant
begin-out layout errand g is = rw is refl

pub begin-in : (layout : Shape) (errand : Errand) (g : Granted) → is_in_range g ≡ true → rest_of_chunk layout errand g ≡ rest_of_grant layout errand g
unfolding recover_slot with_proper if_meant
begin-in layout errand g is = rw is refl

pub one-meant : (layout : Shape) (index slot : ℕ) (g : Granted) → is_grant_of index slot g ≡ true
    → rest_of_grant layout For.One g ≡ after_recover_at layout index slot (Said.Granted g)
unfolding after_recover_at with_grant_of if_meant done_of failed_of
one-meant layout index slot g is = rw is refl

pub one-other : (layout : Shape) (index slot : ℕ) (g : Granted) → is_grant_of index slot g ≡ false
    → unnamed ≡ after_recover_at layout index slot (Said.Granted g)
unfolding after_recover_at with_grant_of if_meant
one-other layout index slot g is = rw is refl

-- too few slots are listed
pub chunk-stops : (layout : Shape) (errand : Errand) (g : Granted) → are_too_few (sources_of g.sources) ≡ true
    → rest_of_starving (course_of layout errand) g (sources_of g.sources) ≡ rest_of_chunk layout errand g
unfolding rest_of_starving restore_chunk read_block with_enough go_on_or_stop reading_for
chunk-stops layout errand g few = rw few refl

-- or enough: its groups are read one after another
pub chunk-begins : (layout : Shape) (errand : Errand) (g : Granted) (chunk : List ℕ) → are_too_few (sources_of g.sources) ≡ false
    → rest_of_groups layout (course_of layout errand) g 0 (sources_of g.sources) (take (0 * 16 * layout.s) chunk) ≡ rest_of_chunk layout errand g
unfolding restore_chunk read_block with_enough go_on_or_stop
chunk-begins layout errand g chunk enough = rw (enough, filled-none layout.s chunk) refl

-- a chunk of no rows is stored at once
pub chunk-none : (layout : Shape) (errand : Errand) (g : Granted) → are_too_few (sources_of g.sources) ≡ false → g.rows ≡ 0
    → store_granted (done_of layout g errand) (λ report. failed_of layout g report errand) g [] ≡ rest_of_chunk layout errand g
unfolding restore_chunk read_block with_enough go_on_or_stop read_windows
chunk-none layout errand g enough none = rw (enough, windows-end g.block.index g.rows 0 (omega (arith, none))) refl

-- ---- a grant that is given up since too few slots can be read

pub starving-asks : (course : Course) (g : Granted) (sources : List Source)
    → request_in (rest_of_starving course g sources) ≡ Some (To.Meta (Ask.Abandon g.block g.slot g.version g.lease))
unfolding rest_of_starving give_up give_back ask_or request_in
starving-asks course g sources = refl

pub starving-meta : (layout : Shape) (errand : Errand) (g : Granted) (sources : List Source) (answer : MetaReply)
    → on_starved layout errand g sources answer ≡ goes_on (rest_of_starving (course_of layout errand) g sources) (From.Meta answer)
unfolding rest_of_starving give_up give_back ask_or on_meta goes_on
starving-meta layout errand g sources answer = refl

pub starving-server : (course : Course) (g : Granted) (sources : List Source) (reply : ChunkReply)
    → unnamed ≡ goes_on (rest_of_starving course g sources) (From.Chunk reply)
unfolding rest_of_starving give_up give_back ask_or on_meta goes_on
starving-server course g sources reply = refl

pub starving-ends : (layout : Shape) (errand : Errand) (g : Granted) (sources : List Source) (answer : MetaReply) (ending : Ending) → ending_of_meta answer ≡ Some ending
    → ends (report_of_ending ending) ≡ on_starved layout errand g sources answer
starving-ends layout errand g sources answer ending is =
    sym (on_answer-some (was_given_back (rest_starved layout errand g sources)) answer ending is)

pub starving-goes_on : (layout : Shape) (errand : Errand) (g : Granted) (sources : List Source) (answer : MetaReply) → ending_of_meta answer ≡ None
    → was_given_back (rest_starved layout errand g sources) answer ≡ on_starved layout errand g sources answer
starving-goes_on layout errand g sources answer none =
    sym (on_answer-none ends (was_given_back (rest_starved layout errand g sources)) answer none)

-- ---- a read of a slot asks its server

pub restoring-node : (layout : Shape) (course : Course) (c : Restoring) → IsAtSlot c.read
    → Some c.read.copy.server ≡ node_asked (rest_of_restoring layout course c)
unfolding rest_of_restoring node_of_request
restoring-node layout course c readable = rw (read-asks (reading_in layout course c.grant) _ c.read readable) refl

-- a command that asks nothing has ended
pub has_ended : (layout : Shape) (stage : Stage) → IsRecoveryStage layout stage → request_in (rest_of_recovery layout stage) ≡ None
    → ((ending : RecoveryEnding) → stage ≡ At.Ended ending → ⊥) → ⊥
unfolding rest_of_recovery rest_of_restoring recover_work heal_on rest_of_delivery store_granted confirm give_back ask ask_or ask_server request_in
has_ended layout (At.Asking one) at none other = absurd (cc)
has_ended layout (At.Healing h) at none other = absurd (cc)
has_ended layout (At.Restoring errand c) at none other =
    let asks = rw (read-asks (reading_in layout (course_of layout errand) c.grant) _ c.read at.1.read.readable) at none in absurd (cc)
has_ended layout (At.Starving errand starving) at none other =
    let asks = rw (starving-asks (course_of layout errand) starving.grant starving.sources) at none in absurd (cc)
has_ended layout (At.Delivering errand (Under.Storing g chunk)) at none other = absurd (cc)
has_ended layout (At.Delivering errand (Under.Confirming g)) at none other = absurd (cc)
has_ended layout (At.Delivering errand (Under.Abandoning g after)) at none other = absurd (cc)
has_ended layout (At.Ended ending) at none other = other ending refl

-- the request that gives the grant up is the same, whatever follows
pub starving-same : (course : Course) (g : Granted) (sources : List Source) (after : After)
    → request_in (rest_of_starving course g sources) ≡ request_in (rest_of_delivery course (Under.Abandoning g after))
unfolding rest_of_starving give_up rest_of_delivery give_back ask_or request_in
starving-same course g sources after = refl

-- the stages that neither read nor store nor end ask the metaserver
pub meta-node : (layout : Shape) (stage : Stage) → ((errand : Errand) (c : Restoring) → stage ≡ At.Restoring errand c → ⊥)
    → ((errand : Errand) (delivery : Delivery) → stage ≡ At.Delivering errand delivery → ⊥)
    → ((ending : RecoveryEnding) → stage ≡ At.Ended ending → ⊥)
    → Some 0 ≡ node_asked (rest_of_recovery layout stage)
unfolding rest_of_recovery rest_of_starving give_up give_back recover_work heal_on ask ask_or request_in node_of_request
meta-node layout (At.Asking one) x y z = refl
meta-node layout (At.Healing at) x y z = refl
meta-node layout (At.Restoring errand c) x y z = absurd (x errand c refl)
meta-node layout (At.Starving errand starving) x y z = refl
meta-node layout (At.Delivering errand delivery) x y z = absurd (y errand delivery refl)
meta-node layout (At.Ended ending) x y z = absurd (z ending refl)
