-- What becomes of a node's reply at each stage of a sweep.
use Rattle.std.proofs.Common.{◌≡◌, ◌∙◌, refl, sym, ℕ, List, None, Some}
use Rattle.qfs_base.specs.declared.reply.ChunkAnswer.{ChunkAnswer}
use Rattle.qfs_base.specs.declared.reply.ChunkReply.{ChunkReply}
use Rattle.qfs_base.specs.declared.reply.Condemned.{Condemned}
use Rattle.qfs_base.specs.declared.reply.MetaReply.{MetaReply}
use Rattle.qfs_base.specs.declared.reply.NodeReply.TheVariants as From
use Rattle.qfs_machine.specs.Endings.{ending_of_meta, ending_of_chunk, report_of_ending}
use Rattle.qfs_machine.proofs.Endings.{on_answer-nothing, on_answer-none, on_served-some, on_served-none}
use Rattle.qfs_machine.specs.declared.ending.Ending.{Ending}
use Rattle.qfs_model_actor.specs.Ask.{ask, ask_server, on_chunk}
use Rattle.qfs_model_actor.specs.Hold.{nothing, ask_or, end_with, give_back, on_answer, on_meta}
use Rattle.qfs_model_actor.specs.Sweep.{erase, say_swept, sweep_on}
use Rattle.qfs_model_actor.specs.Work.{ends, goes_on}
use Rattle.qfs_sweep.specs.Rest.{report_of_sweep, rest_of_sweep}
use Rattle.qfs_sweep.specs.Turns.{after_answer, after_erased, strange_stage, AsksMeta}
use Rattle.qfs_sweep.specs.declared.stage.Progress.{Progress}
use Rattle.qfs_sweep.specs.declared.stage.Stage.{Stage}
use Rattle.qfs_sweep.specs.declared.stage.Stage.TheVariants as At

meta_goes : (stage : Stage) (answer : MetaReply) → AsksMeta stage
    → goes_on (rest_of_sweep stage) (From.Meta answer) ≡ on_answer (end_with nothing) (after_answer stage) answer
unfolding rest_of_sweep after_answer sweep_on say_swept ask ask_or on_meta goes_on
meta_goes (At.Ordering at after) answer asks = refl
meta_goes (At.Saying at number) answer asks = refl
meta_goes (At.Erasing at condemned) answer asks = absurd asks
meta_goes (At.Ended ending) answer asks = absurd asks

-- an answer ends the sweep as it may end any command, or the sweep goes on with it
pub meta_ends : (stage : Stage) (answer : MetaReply) (ending : Ending) → AsksMeta stage
    → ending_of_meta answer ≡ Some ending
    → ends (report_of_ending ending) ≡ goes_on (rest_of_sweep stage) (From.Meta answer)
meta_ends stage answer ending asks is =
    sym (meta_goes stage answer asks ∙ on_answer-nothing (after_answer stage) answer ending is)

pub meta_goes_on : (stage : Stage) (answer : MetaReply) → AsksMeta stage → ending_of_meta answer ≡ None
    → after_answer stage answer ≡ goes_on (rest_of_sweep stage) (From.Meta answer)
meta_goes_on stage answer asks none =
    sym (meta_goes stage answer asks ∙ on_answer-none (end_with nothing) (after_answer stage) answer none)

pub server_ends : (at : Progress) (condemned : Condemned) (answer : ChunkAnswer) (room : List ℕ) (ending : Ending)
    → ending_of_chunk answer ≡ Some ending
    → ends (report_of_ending ending)
    ≡ goes_on (rest_of_sweep (At.Erasing at condemned)) (From.Chunk (record { answer = answer; room = room }))
unfolding rest_of_sweep erase ask_server on_chunk goes_on end_with give_back
server_ends at condemned answer room ending is = sym (on_served-some nothing (after_erased at condemned) answer ending is)

pub server_goes_on : (at : Progress) (condemned : Condemned) (answer : ChunkAnswer) (room : List ℕ)
    → ending_of_chunk answer ≡ None
    → after_erased at condemned answer
    ≡ goes_on (rest_of_sweep (At.Erasing at condemned)) (From.Chunk (record { answer = answer; room = room }))
unfolding rest_of_sweep erase ask_server on_chunk goes_on
server_goes_on at condemned answer room none = sym (on_served-none nothing (after_erased at condemned) answer none)

-- a node that wasn't asked
pub strange_meta : (stage : Stage) (answer : MetaReply) → ((at : Progress) (after : ℕ) → stage ≡ At.Ordering at after → ⊥)
    → ((at : Progress) (number : ℕ) → stage ≡ At.Saying at number → ⊥)
    → rest_of_sweep (strange_stage stage) ≡ goes_on (rest_of_sweep stage) (From.Meta answer)
unfolding rest_of_sweep report_of_sweep report_of_ending erase ask_server on_chunk goes_on
strange_meta (At.Ordering at after) answer a b = absurd (a at after refl)
strange_meta (At.Saying at number) answer a b = absurd (b at number refl)
strange_meta (At.Erasing at condemned) answer a b = refl
strange_meta (At.Ended ending) answer a b = refl

pub strange_server : (stage : Stage) (reply : ChunkReply) → ((at : Progress) (condemned : Condemned) → stage ≡ At.Erasing at condemned → ⊥)
    → rest_of_sweep (strange_stage stage) ≡ goes_on (rest_of_sweep stage) (From.Chunk reply)
unfolding rest_of_sweep report_of_sweep report_of_ending sweep_on say_swept ask ask_or on_meta goes_on
strange_server (At.Ordering at after) reply a = refl
strange_server (At.Saying at number) reply a = refl
strange_server (At.Erasing at condemned) reply a = absurd (a at condemned refl)
strange_server (At.Ended ending) reply a = refl
