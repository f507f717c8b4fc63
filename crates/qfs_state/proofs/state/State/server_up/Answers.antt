-- What the check leaves to show of `state::State::server_up`.
use Rattle.std.proofs.Common.{◌≡◌, ◌∙◌, ap, sym, subst, nat_lt}
use Rattle.qfs_base.specs.declared.change.Change.TheVariants.{ServerUp}
use Rattle.qfs_base.specs.declared.image.ServerView.{ServerView}
use Rattle.qfs_blocks.specs.LeaseLaws.{entries_if_risen}
use Rattle.qfs_model_meta.specs.Apply.{apply}
use Rattle.qfs_model_meta.specs.Servers.{change_server, server_at, server_up}
use Rattle.qfs_place.specs.Loads.{change_load, counted_as}
use Rattle.qfs_state.specs.Held.{Held, image_of}
use Rattle.qfs_state.specs.Planning.{MayComeUp}
use Rattle.qfs_state.proofs.ServerChanges.{IsSeen, came_up, server_set}
use Rattle.qfs_state.proofs.state.State.server_up.Goals as goal

known_is : (c : goal.After-recount) → c.server_at-known.result
    ≡ server_at c.self.inside.servers c.args.server
known_is c =
    c.server_at-known.ensures ∙ ap (λ views. server_at views c.args.server) c.as_slice.ensures

servers_is : (c : goal.After-recount) → c.set_server.new.servers
    ≡ change_server (server_up c.args.life) c.self.inside.servers c.args.server
unfolding server_up
servers_is c =
    let servers = c.self.inside.servers in
    c.set_server.ensures
    ∙ ap (λ (known : ServerView). change_server (λ _. server_up c.args.life known) servers
    c.args.server) (known_is c)
    ∙ server_set (server_up c.args.life) servers c.args.server

loads_is : (c : goal.After-recount) → c.recount.new.self
    ≡ change_load (counted_as
    (server_up c.args.life (server_at c.self.inside.servers c.args.server)) c.args.count)
    c.self.inside.loads c.args.server
unfolding server_up
loads_is c =
    c.recount.ensures
    ∙ ap (λ (known : ServerView). change_load
    (counted_as (server_up c.args.life known) c.args.count) c.self.inside.loads c.args.server)
    (known_is c)

blocks_are : (c : goal.After-recount) → c.forget_if_risen.new.blocks
    ≡ record c.self.inside.blocks {
      condemned = entries_if_risen c.args.server c.self.inside.blocks.condemned
          (nat_lt (server_at c.self.inside.servers c.args.server).life c.args.life);
    }
blocks_are c =
    let blocks = c.self.inside.blocks in
    c.forget_if_risen.ensures
    ∙ ap (λ (known : ServerView). record blocks {
      condemned = entries_if_risen c.args.server blocks.condemned
          (nat_lt known.life c.args.life);
    }) (known_is c)

is_seen : (c : goal.After-recount) → IsSeen
    (image_of c.self.inside.turn c.self.inside.clock c.self.inside.servers c.self.inside.names
    c.self.inside.blocks c.self.inside.leases c.self.inside.dropped.items)
    c.self.inside.leases.spare c.self.inside.blocks c.forget_if_risen.new.blocks
    c.set_server.new.servers c.recount.new.self (ServerUp c.args.server c.args.life)
is_seen c =
    let s = c.self.inside in
    let m = image_of s.turn s.clock s.servers s.names s.blocks s.leases s.dropped.items in
    let may = subst
    (λ (held : Held). MayComeUp held.image c.args.server c.args.life c.args.count)
    (sym c.self.view_is) c.requires.may in
    rw (servers_is c, loads_is c, blocks_are c)
    (came_up m s.leases.spare s.blocks s.loads c.self.invariant c.args.server c.args.life
    c.args.count may)

pub invariant_of-self : goal.invariant_of-self
invariant_of-self c = (is_seen c).held

pub returns-clause-image : goal.returns-clause-image
returns-clause-image c =
    (is_seen c).image
    ∙ ap (λ (held : Held). apply held.image (ServerUp c.args.server c.args.life))
    c.self.view_is
