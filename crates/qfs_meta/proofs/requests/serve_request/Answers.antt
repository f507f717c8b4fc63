use Rattle.std.proofs.Common.{ap, ◌∙◌, refl}
use Rattle.qfs_base.specs.declared.reply.MetaReply.TheVariants as Told
use Rattle.qfs_base.specs.Outcome.{meta_outcome}
use Rattle.qfs_model_meta.specs.Decide.{decide}
use Rattle.qfs_model_meta.specs.GetRequests.{decide_open}
use Rattle.qfs_model_meta.specs.PutRequests.{decide_grant, decide_close}
use Rattle.qfs_meta.proofs.RequestLaws.{decide-create, decide-too_long, decide-grant, decide-no_slot, decide-close, decide-abort, decide-open, decide-release}
use Rattle.std.proofs.lemmas.Bool.{le-leb, le-ltb, lt-leb, lt-ltb}
use Rattle.std.proofs.lemmas.Result.{IfOk-weaker}
use Rattle.qfs_meta.proofs.StepLaws.{tells, served_as}
use Rattle.qfs_meta.proofs.requests.serve_request.Goals as goal

pub returns-then-slot-ge-SLOTS-clause-ok : goal.returns-then-slot-ge-SLOTS-clause-ok
unfolding meta_outcome
returns-then-slot-ge-SLOTS-clause-ok c rules layout term =
    let m = c.args.image.now in
    served_as m _ _ m _
    (ap (decide rules c.args.actor m) c.in-Grant.is
    ∙ decide-no_slot rules c.args.actor m c.in-Grant.file c.in-Grant.index c.in-Grant.slot c.in-Grant.again (le-ltb _ _ c.if-slot-ge-SLOTS.true))
    (tells m Told.Nothing refl)

pub returns-then-len-gt-MOST_FILE_BYTES-clause-ok : goal.returns-then-len-gt-MOST_FILE_BYTES-clause-ok
unfolding meta_outcome
returns-then-len-gt-MOST_FILE_BYTES-clause-ok c rules layout term =
    let m = c.args.image.now in
    served_as m _ _ m _
    (ap (decide rules c.args.actor m) c.in-Create.is
    ∙ decide-too_long rules c.args.actor m c.in-Create.path c.in-Create.command c.in-Create.len (lt-leb _ _ c.if-len-gt-MOST_FILE_BYTES.true))
    (tells m Told.Nothing refl)

pub returns-else-len-gt-MOST_FILE_BYTES-clause-ok : goal.returns-else-len-gt-MOST_FILE_BYTES-clause-ok
returns-else-len-gt-MOST_FILE_BYTES-clause-ok c =
    let m = c.args.image.now in
    IfOk-weaker c.create.result _ _
    (λ reply served rules layout term. served_as m _ _ _ reply
    (ap (decide rules c.args.actor m) c.in-Create.is
    ∙ decide-create rules c.args.actor m c.in-Create.path c.in-Create.command c.in-Create.len (le-leb _ _ c.if-len-gt-MOST_FILE_BYTES.false)) served)
    c.create.ensures.ok

pub returns-else-slot-ge-SLOTS-clause-ok : goal.returns-else-slot-ge-SLOTS-clause-ok
returns-else-slot-ge-SLOTS-clause-ok c =
    let m = c.args.image.now in
    IfOk-weaker c.grant.result _ _
    (λ reply served rules layout term. served_as m _ _ _ reply
    (ap (decide rules c.args.actor m) c.in-Grant.is
    ∙ decide-grant rules c.args.actor m c.in-Grant.file c.in-Grant.index c.in-Grant.slot c.in-Grant.again (lt-ltb _ _ c.if-slot-ge-SLOTS.false)
    ∙ ap (λ shape. decide_grant shape c.args.actor (record { file = c.in-Grant.file; index = c.in-Grant.index }) c.in-Grant.slot c.in-Grant.again m) layout) served)
    c.grant.ensures.ok

pub returns-in-Abort-clause-ok : goal.returns-in-Abort-clause-ok
returns-in-Abort-clause-ok c =
    let m = c.args.image.now in
    IfOk-weaker c.abort.result _ _
    (λ reply served rules layout term. served_as m _ _ _ reply
    (ap (decide rules c.args.actor m) c.in-Abort.is ∙ decide-abort rules c.args.actor m c.in-Abort.file) served)
    c.abort.ensures.ok

pub returns-in-Close-clause-ok : goal.returns-in-Close-clause-ok
returns-in-Close-clause-ok c =
    let m = c.args.image.now in
    IfOk-weaker c.close.result _ _
    (λ reply served rules layout term. served_as m _ _ _ reply
    (ap (decide rules c.args.actor m) c.in-Close.is
    ∙ decide-close rules c.args.actor m c.in-Close.file
    ∙ ap (λ shape. decide_close shape c.args.actor c.in-Close.file m) layout) served)
    c.close.ensures.ok

pub returns-in-OpenFile-clause-ok : goal.returns-in-OpenFile-clause-ok
returns-in-OpenFile-clause-ok c =
    let m = c.args.image.now in
    IfOk-weaker c.open.result _ _
    (λ reply served rules layout term. served_as m _ _ _ reply
    (ap (decide rules c.args.actor m) c.in-OpenFile.is
    ∙ decide-open rules c.args.actor m c.in-OpenFile.path
    ∙ (λ i. decide_open (layout i) (term i) c.args.actor c.in-OpenFile.path m)) served)
    c.open.ensures.ok

pub returns-in-Release-clause-ok : goal.returns-in-Release-clause-ok
returns-in-Release-clause-ok c rules layout term =
    let m = c.args.image.now in
    served_as m _ _ _ c.release.result
    (ap (decide rules c.args.actor m) c.in-Release.is ∙ decide-release rules c.args.actor m c.in-Release.lease) c.release.ensures.served
