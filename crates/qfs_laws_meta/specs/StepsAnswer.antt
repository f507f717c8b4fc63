-- Every step of a sound metaserver answers as its request may be answered, and tells what its
-- answer says of the state behind it. The law `steps_answer`.
use Rattle.std.proofs.Common.{◌≡◌, ℕ, ◌+◌, ◌<◌, true, length, refl, subst, sym}
use Rattle.qfs_base.specs.Sizes.{LAST_U32}
use Rattle.qfs_base.specs.declared.history.Outcome.{Outcome}
use Rattle.qfs_base.specs.declared.image.MetaImage.{MetaImage}
use Rattle.qfs_base.specs.declared.reply.MetaReply.TheVariants as Told
use Rattle.qfs_base.specs.declared.request.MetaRequest.{MetaRequest}
use Rattle.qfs_base.specs.declared.request.MetaRequest.TheVariants as Ask
use Rattle.qfs_base.specs.declared.rules.Rules.{Rules}
use Rattle.qfs_model_meta.specs.Asked.{MayAsk}
use Rattle.qfs_model_meta.specs.Decide.{decide, decide_request}
use Rattle.qfs_model_meta.specs.Decision.{unless}
use Rattle.qfs_model_meta.specs.Dropped.{dropped_at}
use Rattle.qfs_model_meta.specs.Grammar.{IsActor}
use Rattle.qfs_model_meta.specs.Past.{Past}
use Rattle.qfs_model_meta.specs.Range.{in_range}
use Rattle.qfs_model_meta.specs.Sound.{IsSound}
use Rattle.qfs_model_meta.specs.Step.{meta_step}
use Rattle.qfs_laws_meta.specs.Fair.{Fair, IsAnswered, step-answers}
use Rattle.qfs_laws_meta.specs.GrantsAnswer.{grant-fair, open-fair, recover-fair, heal-fair}
use Rattle.qfs_laws_meta.specs.GrantsAnswer.{move-fair, evacuate-fair, balance-fair}
use Rattle.qfs_laws_meta.specs.Requests.{Fine}
use Rattle.qfs_laws_meta.specs.RequestsAnswer.{mkdir-fair, rmdir-fair, remove-fair, rename-fair}
use Rattle.qfs_laws_meta.specs.RequestsAnswer.{list-fair, create-fair, close-fair, abort-fair}
use Rattle.qfs_laws_meta.specs.RequestsAnswer.{release-fair, confirm-fair, abandon-fair, order-fair}
use Rattle.qfs_laws_meta.specs.RequestsAnswer.{swept-fair, hello-fair, bye-fair, leave-fair}
use Rattle.qfs_laws_meta.specs.RequestsAnswer.{hibernate-fair, tick-fair, drop-fair, left_on-fair}
use Rattle.qfs_laws_meta.specs.StaysSound.{keeps-of, request-fine, versions-left}

-- the law: what may be asked, in its range, is answered as it may be, by any outcome of the step
abbrev pub StepsAnswer : Type 0
StepsAnswer =
    (rules : Rules) (actor : ℕ) (request : MetaRequest) (outcome : Outcome) (past : Past)
    (m : MetaImage)
    → IsSound past m → length past.granted + 1 < LAST_U32 → IsActor actor → MayAsk past request
    → in_range (length m.servers) request ≡ true
    → IsAnswered rules actor outcome m request (meta_step rules actor request outcome m)

request-fair : (rules : Rules) (actor : ℕ) (past : Past) (m : MetaImage) (request : MetaRequest)
    → Fair rules actor past m request (decide_request rules actor m request)
unfolding decide_request
request-fair rules actor past m (Ask.Mkdir path) = mkdir-fair rules actor past m path
request-fair rules actor past m (Ask.Rmdir path) = rmdir-fair rules actor past m path
request-fair rules actor past m (Ask.Remove path) = remove-fair rules actor past m path
request-fair rules actor past m (Ask.Rename from to) = rename-fair rules actor past m from to
request-fair rules actor past m (Ask.Create path command len) =
    create-fair rules actor past m path command len
request-fair rules actor past m (Ask.Grant file index slot again) =
    grant-fair rules actor past m file index slot again
request-fair rules actor past m (Ask.Close file) = close-fair rules actor past m file
request-fair rules actor past m (Ask.Abort file) = abort-fair rules actor past m file
request-fair rules actor past m (Ask.OpenFile path) = open-fair rules actor past m path
request-fair rules actor past m (Ask.Release lease) = release-fair rules actor past m lease
request-fair rules actor past m (Ask.RecoverAt path index slot) =
    recover-fair rules actor past m path index slot
request-fair rules actor past m (Ask.HealNext after) = heal-fair rules actor past m after
request-fair rules actor past m (Ask.MoveAt path index slot to) =
    move-fair rules actor past m path index slot to
request-fair rules actor past m (Ask.EvacNext server after) =
    evacuate-fair rules actor past m server after
request-fair rules actor past m Ask.BalanceNext = balance-fair rules actor past m
request-fair rules actor past m (Ask.Confirm block slot version lease) =
    confirm-fair rules actor past m block slot version lease
request-fair rules actor past m (Ask.Abandon block slot version lease) =
    abandon-fair rules actor past m block slot version lease
request-fair rules actor past m (Ask.OrderNext after) = order-fair rules actor past m after
request-fair rules actor past m (Ask.Swept number) = swept-fair rules actor past m number
request-fair rules actor past m (Ask.Hello server life keys) =
    hello-fair rules actor past m server life keys
request-fair rules actor past m (Ask.Bye server) = bye-fair rules actor past m server
request-fair rules actor past m (Ask.Leave server) = leave-fair rules actor past m server
request-fair rules actor past m (Ask.Hibernate server ticks) =
    hibernate-fair rules actor past m server ticks
request-fair rules actor past m Ask.Tick = tick-fair rules actor past m
request-fair rules actor past m (Ask.Drop dropped) = drop-fair rules actor past m dropped
request-fair rules actor past m (Ask.List path) = list-fair rules actor past m path
request-fair rules actor past m (Ask.LeftOn server) = left_on-fair rules actor past m server
request-fair rules actor past m Ask.Checkpoint = refl
request-fair rules actor past m Ask.Restart = refl

pub steps-answer : StepsAnswer
unfolding meta_step decide unless
steps-answer rules actor request outcome past m sound left who may range =
    let h = keeps-of past m sound in
    let fine : Fine actor past m (decide_request rules actor m request) = request-fine rules actor
    past m request h sound.image.counters (versions-left past m left h) who may range in
    step-answers rules actor outcome past m request
    (unless (in_range (length m.servers) request) Told.Nothing
    (decide_request rules actor m request)) (dropped_at actor m.dropped) refl refl
    (subst (λ b. Fine actor past m (unless b Told.Nothing (decide_request rules actor m request)))
    (sym range) fine)
    (subst (λ b. Fair rules actor past m request
    (unless b Told.Nothing (decide_request rules actor m request))) (sym range)
    (request-fair rules actor past m request))
