-- A metaserver that starts with nothing is sound after any run of requests that may be asked. The
-- law `runs_stay_sound`.
use Rattle.qfs_base.specs.Sizes.{LAST_U32}
use Rattle.qfs_base.specs.declared.history.Outcome.{Outcome}
use Rattle.qfs_base.specs.declared.image.MetaImage.{MetaImage}
use Rattle.qfs_base.specs.declared.reply.Granted.{Granted}
use Rattle.qfs_base.specs.declared.reply.MetaReply.{MetaReply}
use Rattle.qfs_base.specs.declared.request.MetaRequest.{MetaRequest}
use Rattle.qfs_base.specs.declared.rules.Rules.{Rules}
use Rattle.qfs_model_meta.specs.Asked.{MayAsk}
use Rattle.qfs_model_meta.specs.Grammar.{IsActor}
use Rattle.qfs_model_meta.specs.Past.{Past, SlotCopy, is_of_put, remember, with_copy, with_grant}
use Rattle.qfs_model_meta.specs.Past.{with_lease}
use Rattle.qfs_model_meta.specs.Sound.{IsSound}
use Rattle.qfs_model_meta.specs.Step.{Served, meta_step}
use Rattle.std.proofs.Common.{Bool, List, [], arith, false, length, length-append, true, ℕ, ◌+◌}
use Rattle.std.proofs.Common.{◌<◌, ◌∷◌, ◌≤◌}
use Rattle.std.specs.Prelude.{⊤}
use Rattle.qfs_base.specs.declared.reply.MetaReply.TheVariants as Told
use Rattle.qfs_laws_meta.specs.StaysSound.{stays-sound}

-- what an actor asks, and how its step ended
pub record Asking : Type 0 where
  pub actor : ℕ
  pub request : MetaRequest
  pub outcome : Outcome

abbrev pub served : Rules → MetaImage → Asking → Served
served rules m a = meta_step rules a.actor a.request a.outcome m

-- each may be asked when it is
abbrev pub MayRun : Rules → Past → MetaImage → List Asking → Type 0
MayRun rules past m [] = ⊤
MayRun rules past m (a ∷ rest) =
    IsActor a.actor × MayAsk past a.request × MayRun rules
    (remember a.actor past (served rules m a).reply) (served rules m a).meta rest

-- the state after them keeps to what was told
abbrev pub EndsSound : Rules → Past → MetaImage → List Asking → Type 0
EndsSound rules past m [] = IsSound past m
EndsSound rules past m (a ∷ rest) =
    EndsSound rules (remember a.actor past (served rules m a).reply) (served rules m a).meta rest

with-one : (copy : SlotCopy) (past : Past)
    → length (with_copy copy past).granted ≤ length past.granted + 1
unfolding with_copy
with-one copy past = omega (arith, length-append past.granted (copy ∷ []))

grant-one : (actor : ℕ) (g : Granted) (past : Past) (b : Bool)
    → length (with_grant actor g past b).granted ≤ length past.granted + 1
unfolding with_grant with_lease
grant-one actor g past true = with-one _ past
grant-one actor g past false = with-one _ past

-- a reply tells at most one grant
pub one-more : (actor : ℕ) (past : Past) (reply : MetaReply)
    → length (remember actor past reply).granted ≤ length past.granted + 1
unfolding remember with_lease
one-more actor past (Told.Granted g) = grant-one actor g past (is_of_put g)
one-more actor past (Told.Opened o) = omega arith
one-more actor past (Told.Ordered condemned turn) = omega arith
one-more actor past (Told.Done place) = omega arith
one-more actor past _ = omega arith

-- the law: from a sound state, any such run leaves a sound state, as long as it is shorter than
-- the versions that are left
abbrev pub RunsStaySound : Type 0
RunsStaySound =
    (rules : Rules) (past : Past) (m : MetaImage) (asked : List Asking) → IsSound past m
    → length past.granted + length asked + 1 < LAST_U32 → MayRun rules past m asked → EndsSound
    rules past m asked

pub run-sound : RunsStaySound
run-sound rules past m [] sound short may = sound
run-sound rules past m (a ∷ rest) sound short may =
    let more = one-more a.actor past (served rules m a).reply in
    run-sound rules (remember a.actor past (served rules m a).reply) (served rules m a).meta rest
    (stays-sound rules a.actor a.request a.outcome past m sound (omega arith) may.0 may.1)
    (omega arith) may.2
