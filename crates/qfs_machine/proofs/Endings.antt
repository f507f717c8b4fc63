-- An answer of a node ends a command, or the command goes on with it.
use Rattle.std.proofs.Common.{◌≡◌, ◌∙◌, refl, ap, Some, None}
use Rattle.qfs_base.specs.declared.reply.ChunkAnswer.{ChunkAnswer}
use Rattle.qfs_base.specs.declared.reply.ChunkAnswer.TheVariants as Did
use Rattle.qfs_base.specs.declared.reply.MetaReply.{MetaReply}
use Rattle.qfs_base.specs.declared.reply.MetaReply.TheVariants as Said
use Rattle.qfs_model_actor.specs.Ask.{on_served}
use Rattle.qfs_model_actor.specs.Hold.{Hold, nothing, on_answer, give_back, end_with}
use Rattle.qfs_model_actor.specs.Work.{Report, Work, ends}
use Rattle.qfs_machine.specs.declared.ending.Ending.{Ending}
use Rattle.qfs_machine.specs.declared.ending.Ending.TheVariants as By
use Rattle.qfs_machine.specs.Endings.{ending_of_meta, ending_of_chunk, report_of_ending, ended_by, ended_or}

pub on_answer-ends : (give_up : Report → Work) (next : MetaReply → Work) (answer : MetaReply)
    → on_answer give_up next answer ≡ ended_or give_up (next answer) (ending_of_meta answer)
unfolding on_answer ending_of_meta ended_or ended_by report_of_ending
on_answer-ends give_up next (Said.Dropped turn) = refl
on_answer-ends give_up next Said.LogFault = refl
on_answer-ends give_up next Said.NoMemory = refl
on_answer-ends give_up next (Said.BadLog right offset) = refl
on_answer-ends give_up next answer = refl

pub on_served-ends : (hold : Hold) (next : ChunkAnswer → Work) (answer : ChunkAnswer)
    → on_served hold next answer ≡ ended_or (end_with hold) (next answer) (ending_of_chunk answer)
unfolding on_served ending_of_chunk ended_or ended_by report_of_ending
on_served-ends hold next Did.NoMemory = refl
on_served-ends hold next answer = refl

-- who gives nothing back ends at once
pub ended_by-ends : (ending : Ending) → ended_by ends ending ≡ ends (report_of_ending ending)
unfolding ended_by report_of_ending
ended_by-ends (By.Dropped turn) = refl
ended_by-ends By.Unnamed = refl
ended_by-ends ending = refl

-- what becomes of an answer that ends a command with nothing to give back, and of one that ends none
pub on_answer-some : (next : MetaReply → Work) (answer : MetaReply) (ending : Ending) → ending_of_meta answer ≡ Some ending
    → on_answer ends next answer ≡ ends (report_of_ending ending)
unfolding ended_or
on_answer-some next answer ending is =
    on_answer-ends ends next answer ∙ ap (ended_or ends (next answer)) is ∙ ended_by-ends ending

pub on_answer-none : (give_up : Report → Work) (next : MetaReply → Work) (answer : MetaReply) → ending_of_meta answer ≡ None
    → on_answer give_up next answer ≡ next answer
unfolding ended_or
on_answer-none give_up next answer is = on_answer-ends give_up next answer ∙ ap (ended_or give_up (next answer)) is

-- a chunk server's answer ends a command for want of memory alone
pub on_served-some : (hold : Hold) (next : ChunkAnswer → Work) (answer : ChunkAnswer) (ending : Ending) → ending_of_chunk answer ≡ Some ending
    → on_served hold next answer ≡ end_with hold (report_of_ending ending)
unfolding on_served ending_of_chunk report_of_ending
on_served-some hold next Did.NoMemory ending is = let same : By.NoMemory ≡ ending = cc in ap (λ e. end_with hold (report_of_ending e)) same
on_served-some hold next answer ending is = absurd (cc)

pub on_served-none : (hold : Hold) (next : ChunkAnswer → Work) (answer : ChunkAnswer) → ending_of_chunk answer ≡ None
    → on_served hold next answer ≡ next answer
unfolding ended_or
on_served-none hold next answer is = on_served-ends hold next answer ∙ ap (ended_or (end_with hold) (next answer)) is

ended_by-nothing : (ending : Ending) → ended_by (end_with nothing) ending ≡ ends (report_of_ending ending)
unfolding ended_by report_of_ending end_with give_back
ended_by-nothing (By.Dropped turn) = refl
ended_by-nothing By.Unnamed = refl
ended_by-nothing ending = refl

-- who holds nothing ends at once
pub on_answer-nothing : (next : MetaReply → Work) (answer : MetaReply) (ending : Ending) → ending_of_meta answer ≡ Some ending
    → on_answer (end_with nothing) next answer ≡ ends (report_of_ending ending)
unfolding ended_or
on_answer-nothing next answer ending is =
    on_answer-ends (end_with nothing) next answer ∙ ap (ended_or (end_with nothing) (next answer)) is ∙ ended_by-nothing ending
