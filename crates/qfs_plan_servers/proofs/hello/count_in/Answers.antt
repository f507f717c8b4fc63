-- What the check leaves to show of `hello::count_in`.
use Rattle.std.proofs.Common.{◌∙◌, ap, sym}
use Rattle.qfs_base.specs.declared.image.ServerView.{ServerView}
use Rattle.qfs_base.specs.declared.reply.MetaReply.TheVariants.{Left}
use Rattle.qfs_model_meta.specs.Decision.{Tells}
use Rattle.qfs_model_meta.specs.Servers.{server_at}
use Rattle.qfs_place.specs.Loads.{load_at}
use Rattle.qfs_plan_servers.proofs.Plans.{left_counted}
use Rattle.qfs_plan_servers.proofs.hello.count_in.Goals as goal

pub returns-then-life-server_at : goal.returns-then-life-server_at
returns-then-life-server_at c =
    left_counted c.args.state.now.image c.args.server c.args.life c.on.result
    (c.if-life-server_at.true ∙ ap (λ (view : ServerView). view.life) (c.server_at.ensures
    ∙ ap (λ servers. server_at servers c.args.server)
    (c.as_slice.ensures ∙ c.servers.ensures.servers)))
    (c.loads_are_counts.ensures.left_on c.args.state.now.image c.args.server c.requires
    ∙ ap (λ count. Tells (Left count))
    (sym (c.on.ensures ∙ ap (λ loads. (load_at loads c.args.server).count) c.loads.ensures)))
