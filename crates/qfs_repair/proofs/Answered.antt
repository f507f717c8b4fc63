-- What becomes of a node's answer to a chunk on its way.
use Rattle.std.proofs.Common.{◌≡◌, ◌∙◌, refl, ap, sym, ℕ, List, None, Some}
use Rattle.qfs_base.specs.declared.reply.ChunkAnswer.{ChunkAnswer}
use Rattle.qfs_base.specs.declared.reply.Granted.{Granted}
use Rattle.qfs_base.specs.declared.reply.MetaReply.{MetaReply}
use Rattle.qfs_base.specs.declared.reply.NodeReply.TheVariants as From
use Rattle.qfs_machine.specs.Endings.{ending_of_meta, ending_of_chunk, ended_by, ended_or, report_of_ending}
use Rattle.qfs_machine.specs.declared.ending.Ending.{Ending}
use Rattle.qfs_machine.specs.declared.ending.Ending.TheVariants as By
use Rattle.qfs_machine.proofs.Endings.{on_answer-ends, on_answer-none, on_answer-some, on_served-some, on_served-none}
use Rattle.qfs_model_actor.specs.Ask.{ask, ask_server, on_chunk}
use Rattle.qfs_model_actor.specs.Hold.{granted, ask_or, end_with, give_back, on_meta, was_given_back}
use Rattle.qfs_model_actor.specs.Repair.{after_confirm, confirm, store_granted}
use Rattle.qfs_model_actor.specs.Work.{ends, goes_on}
use Rattle.qfs_repair.specs.Chunks.{ChunkState}
use Rattle.qfs_repair.specs.Deliveries.{Course, after_put, on_abandon, on_confirm, on_put, rest_of_after, rest_of_delivery, rest_of_step}
use Rattle.qfs_repair.specs.declared.delivery.After.{After}
use Rattle.qfs_repair.specs.declared.delivery.After.TheVariants as Then
use Rattle.qfs_repair.specs.declared.delivery.Delivery.{Delivery}
use Rattle.qfs_repair.specs.declared.delivery.Delivery.TheVariants as At
use Rattle.qfs_repair.specs.declared.turn.Step.TheVariants as Comes

-- ---- an answer ends the command as it may end any, or the command goes on with it

pub confirm-ends : (course : Course) (g : Granted) (answer : MetaReply) (ending : Ending) → ending_of_meta answer ≡ Some ending
    → ended_by (end_with (granted g)) ending ≡ on_confirm course g answer
unfolding ended_or
confirm-ends course g answer ending is =
    let next = after_confirm (course.done g) (course.failed g) in
    sym (on_answer-ends (end_with (granted g)) next answer ∙ ap (ended_or (end_with (granted g)) (next answer)) is)

pub confirm-goes_on : (course : Course) (g : Granted) (answer : MetaReply) → ending_of_meta answer ≡ None
    → after_confirm (course.done g) (course.failed g) answer ≡ on_confirm course g answer
confirm-goes_on course g answer none =
    sym (on_answer-none (end_with (granted g)) (after_confirm (course.done g) (course.failed g)) answer none)

pub abandon-ends : (course : Course) (g : Granted) (after : After) (answer : MetaReply) (ending : Ending) → ending_of_meta answer ≡ Some ending
    → ends (report_of_ending ending) ≡ on_abandon course g after answer
abandon-ends course g after answer ending is = sym (on_answer-some (was_given_back (rest_of_after course g after)) answer ending is)

pub abandon-goes_on : (course : Course) (g : Granted) (after : After) (answer : MetaReply) → ending_of_meta answer ≡ None
    → was_given_back (rest_of_after course g after) answer ≡ on_abandon course g after answer
abandon-goes_on course g after answer none = sym (on_answer-none ends (was_given_back (rest_of_after course g after)) answer none)

pub put-ends : (course : Course) (g : Granted) (answer : ChunkAnswer) (ending : Ending) → ending_of_chunk answer ≡ Some ending
    → rest_of_delivery course (At.Abandoning g (Then.Ended ending)) ≡ on_put course g answer
unfolding rest_of_delivery rest_of_after end_with
put-ends course g answer ending is = sym (on_served-some (granted g) (after_put course g) answer ending is)

pub put-goes_on : (course : Course) (g : Granted) (answer : ChunkAnswer) → ending_of_chunk answer ≡ None
    → after_put course g answer ≡ on_put course g answer
put-goes_on course g answer none = sym (on_served-none (granted g) (after_put course g) answer none)

-- ---- what is asked

pub storing-meta : (course : Course) (g : Granted) (chunk : ChunkState) (answer : MetaReply)
    → rest_of_step course (Comes.Ended By.Unnamed) ≡ goes_on (rest_of_delivery course (At.Storing g chunk)) (From.Meta answer)
unfolding rest_of_step rest_of_delivery report_of_ending store_granted ask_server on_chunk goes_on
storing-meta course g chunk answer = refl

pub confirming-meta : (course : Course) (g : Granted) (answer : MetaReply)
    → on_confirm course g answer ≡ goes_on (rest_of_delivery course (At.Confirming g)) (From.Meta answer)
unfolding rest_of_delivery confirm ask ask_or on_meta goes_on
confirming-meta course g answer = refl

pub abandoning-meta : (course : Course) (g : Granted) (after : After) (answer : MetaReply)
    → on_abandon course g after answer ≡ goes_on (rest_of_delivery course (At.Abandoning g after)) (From.Meta answer)
unfolding rest_of_delivery give_back ask_or on_meta goes_on
abandoning-meta course g after answer = refl

pub storing-server : (course : Course) (g : Granted) (chunk : ChunkState) (answer : ChunkAnswer) (room : List ℕ)
    → on_put course g answer
    ≡ goes_on (rest_of_delivery course (At.Storing g chunk)) (From.Chunk (record { answer = answer; room = room }))
unfolding rest_of_delivery store_granted ask_server on_chunk goes_on
storing-server course g chunk answer room = refl

pub other-server : (course : Course) (delivery : Delivery) (answer : ChunkAnswer) (room : List ℕ)
    → ((g : Granted) (chunk : ChunkState) → delivery ≡ At.Storing g chunk → ⊥)
    → rest_of_step course (Comes.Ended By.Unnamed)
    ≡ goes_on (rest_of_delivery course delivery) (From.Chunk (record { answer = answer; room = room }))
unfolding rest_of_step rest_of_delivery report_of_ending confirm give_back ask ask_or on_meta goes_on
other-server course (At.Storing g chunk) answer room other = absurd (other g chunk refl)
other-server course (At.Confirming g) answer room other = refl
other-server course (At.Abandoning g after) answer room other = refl
