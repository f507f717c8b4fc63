-- What the check leaves to show of `hello::plan_hello`.
use Rattle.std.proofs.Common.{◌≤◌, ◌∙◌, ap, arith}
use Rattle.qfs_base.specs.declared.image.ServerView.{ServerView}
use Rattle.qfs_base.specs.declared.reply.MetaReply.TheVariants.{Done}
use Rattle.qfs_model_meta.specs.Servers.{server_at}
use Rattle.qfs_plan_servers.proofs.Plans.{hello_plan}
use Rattle.qfs_plan_servers.proofs.hello.plan_hello.Goals as goal

pub returns-clause-ok : goal.returns-clause-ok
returns-clause-ok c =
    let life_is = ap (λ (view : ServerView). view.life) (c.server_at-known.ensures
    ∙ ap (λ servers. server_at servers c.args.server)
    (c.as_slice.ensures ∙ c.servers.ensures.servers)) in
    let test = c.if-life-known.false in
    let known : (server_at c.args.state.now.image.servers c.args.server).life ≤ c.args.life =
    omega (arith, life_is, test) in
    hello_plan c.args.server c.args.life c.in_ok-count.count c.args.keys.now
    c.args.state.now.image _ known c.requires c.in_ok-count.ensures c.in_ok-changes.ensures
    (ap Done c.in_ok-place.ensures)
