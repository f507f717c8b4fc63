-- What the check leaves to show of `state::State::server_sleeps`.
use Rattle.std.proofs.Common.{◌≡◌, ◌∙◌, ap, sym, subst, length}
use Rattle.qfs_base.specs.declared.change.Change.TheVariants.{ServerSleeps}
use Rattle.qfs_base.specs.declared.image.ServerView.{ServerView}
use Rattle.qfs_model_meta.specs.Apply.{apply}
use Rattle.qfs_model_meta.specs.Grammar.{IsServer}
use Rattle.qfs_model_meta.specs.Servers.{change_server, server_at, server_asleep}
use Rattle.qfs_place.specs.Loads.{change_load, seen_as}
use Rattle.qfs_state.specs.Held.{Held, image_of}
use Rattle.qfs_state.proofs.ServerChanges.{IsSeen, slept, server_set}
use Rattle.qfs_state.proofs.state.State.server_sleeps.Goals as goal

servers_is : (c : goal.After-see) → c.set_server.new.servers
    ≡ change_server (server_asleep c.args.until) c.self.inside.servers c.args.server
unfolding server_asleep
servers_is c =
    let servers = c.self.inside.servers in
    let known = c.server_at-known.ensures
    ∙ ap (λ views. server_at views c.args.server) c.as_slice.ensures in
    c.set_server.ensures
    ∙ ap (λ (known : ServerView). change_server (λ _. server_asleep c.args.until known) servers c.args.server) known
    ∙ server_set (server_asleep c.args.until) servers c.args.server

loads_is : (c : goal.After-see) → c.see.new.self
    ≡ change_load (seen_as (server_asleep c.args.until (server_at c.self.inside.servers c.args.server)))
    c.self.inside.loads c.args.server
unfolding server_asleep
loads_is c =
    let known = c.server_at-known.ensures
    ∙ ap (λ views. server_at views c.args.server) c.as_slice.ensures in
    c.see.ensures
    ∙ ap (λ (known : ServerView). change_load (seen_as (server_asleep c.args.until known)) c.self.inside.loads
    c.args.server) known

is_seen : (c : goal.After-see) → IsSeen
    (image_of c.self.inside.turn c.self.inside.clock c.self.inside.servers c.self.inside.names
    c.self.inside.blocks c.self.inside.leases c.self.inside.dropped.items)
    c.self.inside.leases.spare c.self.inside.blocks c.self.inside.blocks
    c.set_server.new.servers c.see.new.self (ServerSleeps c.args.server c.args.until)
is_seen c =
    let s = c.self.inside in
    let m = image_of s.turn s.clock s.servers s.names s.blocks s.leases s.dropped.items in
    let there = subst (λ (held : Held). IsServer (length held.image.servers) c.args.server)
    (sym c.self.view_is) c.requires.may in
    rw (servers_is c, loads_is c)
    (slept m s.leases.spare s.blocks s.loads c.self.invariant c.args.server c.args.until there)

pub invariant_of-self : goal.invariant_of-self
invariant_of-self c = (is_seen c).held

pub returns-clause-image : goal.returns-clause-image
returns-clause-image c =
    (is_seen c).image
    ∙ ap (λ (held : Held). apply held.image (ServerSleeps c.args.server c.args.until)) c.self.view_is
