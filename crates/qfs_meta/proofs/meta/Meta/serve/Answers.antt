use Rattle.std.proofs.Common.{ap, ◌∙◌, refl, sym, subst}
use Rattle.qfs_base.specs.declared.reply.MetaReply.TheVariants as Told
use Rattle.qfs_base.specs.Outcome.{meta_outcome}
use Rattle.qfs_model_meta.specs.Decide.{decide}
use Rattle.qfs_model_meta.specs.Dropped.{dropped_at}
use Rattle.qfs_meta.specs.Metaserver.{Metaserver}
use Rattle.qfs_meta.specs.Serving.{Serves}
use Rattle.qfs_meta.proofs.RequestLaws.{step-dropped, step-served}
use Rattle.qfs_meta.proofs.StepLaws.{runs_out, no_failure, memory_is_no_failure}
use Rattle.qfs_meta.proofs.meta.Meta.serve.Goals as goal

pub returns-in-Some-clause-step : goal.returns-in-Some-clause-step
returns-in-Some-clause-step c rules goes =
    step-dropped rules c.args.actor c.args.self.now.image c.args.request.now _ c.in-Some.turn
    (ap (λ (meta : Metaserver). dropped_at c.args.actor meta.image.dropped) (sym c.self.view_is)
    ∙ ap (dropped_at c.args.actor) (sym c.as_slice.ensures) ∙ sym c.dropped_at.ensures ∙ c.in-Some.is)

pub returns-then-not-is_built-clause-step : goal.returns-then-not-is_built-clause-step
returns-then-not-is_built-clause-step c rules goes =
    let m = c.args.self.now in
    step-served rules c.args.actor m.image c.args.request.now m.image Told.NoMemory
    (ap (λ (meta : Metaserver). dropped_at c.args.actor meta.image.dropped) (sym c.self.view_is)
    ∙ ap (dropped_at c.args.actor) (sym c.as_slice.ensures) ∙ sym c.dropped_at.ensures ∙ c.in_default.is)
    (runs_out m.image _)

pub returns-in_default-serve_request-clause-step : goal.returns-in_default-serve_request-clause-step
returns-in_default-serve_request-clause-step c rules goes =
    let m = c.args.self.now in
    step-served rules c.args.actor m.image c.args.request.now _ Told.NoMemory
    (ap (λ (meta : Metaserver). dropped_at c.args.actor meta.image.dropped) (sym c.self.view_is)
    ∙ ap (dropped_at c.args.actor) (sym c.as_slice.ensures) ∙ sym c.dropped_at.ensures ∙ c.in_default.is)
    (subst (λ new. Serves m.image (decide rules c.args.actor m.image c.args.request.now) new Told.NoMemory)
    (sym (c.in_default-serve_request.ensures.err ∙ ap (λ (meta : Metaserver). meta.image) c.self.view_is))
    (runs_out m.image _))

pub returns-clause-step : goal.returns-clause-step
returns-clause-step c rules goes =
    let m = c.args.self.now in
    step-served rules c.args.actor m.image c.args.request.now _ _
    (ap (λ (meta : Metaserver). dropped_at c.args.actor meta.image.dropped) (sym c.self.view_is)
    ∙ ap (dropped_at c.args.actor) (sym c.as_slice.ensures) ∙ sym c.dropped_at.ensures ∙ c.in_default.is)
    (subst (λ (meta : Metaserver). Serves meta.image (decide rules c.args.actor meta.image c.args.request.now) c.serve_request.new.image c.in-Ok.reply)
    c.self.view_is
    (c.in-Ok.ensures.ok rules
    (goes.layout ∙ ap (λ (meta : Metaserver). meta.layout) (sym c.self.view_is))
    (goes.term ∙ ap (λ (meta : Metaserver). meta.term) (sym c.self.view_is))))

pub returns-then-not-is_built-clause-never_fails : goal.returns-then-not-is_built-clause-never_fails
returns-then-not-is_built-clause-never_fails c = memory_is_no_failure

pub returns-in_default-serve_request-clause-never_fails : goal.returns-in_default-serve_request-clause-never_fails
returns-in_default-serve_request-clause-never_fails c = memory_is_no_failure

pub returns-in-Some-clause-never_fails : goal.returns-in-Some-clause-never_fails
unfolding meta_outcome
returns-in-Some-clause-never_fails c = no_failure (Told.Dropped c.in-Some.turn) refl

pub returns-clause-never_fails : goal.returns-clause-never_fails
returns-clause-never_fails c =
    (c.in-Ok.ensures.ok (record { layout = c.self.inside.layout; term = c.self.inside.term; tries = 1 }) refl refl).never_fails
