-- What the check leaves to show of `state::State::grant_slot`.
use Rattle.std.proofs.Common.{◌≡◌, ◌∙◌, ap, sym, subst, arith, length}
use Rattle.qfs_base.specs.declared.change.Change.TheVariants.{GrantSlot}
use Rattle.qfs_blocks.specs.BlockTables.{BlockTables}
use Rattle.qfs_model_meta.specs.Apply.{apply}
use Rattle.qfs_model_meta.specs.Servers.{server_at}
use Rattle.qfs_base.specs.declared.image.SlotRow.{SlotRow}
use Rattle.qfs_model_meta.specs.Slots.{granted_slot, slot_at, slot_cmp, with_slot}
use Rattle.qfs_state.specs.Held.{Held, image_of, room_of}
use Rattle.qfs_state.specs.Planning.{MayGrant}
use Rattle.qfs_state.specs.Rooms.{TakesRoom, needs}
use Rattle.qfs_state.specs.declared.prepared.Prepared.TheVariants.{GrantSlot as Grant}
use Rattle.qfs_state.proofs.SlotChanges.{IsMade, granted, placed_longer, with_grant}
use Rattle.qfs_state.proofs.state.State.grant_slot.Goals as goal

put : (c : goal.After-count) → c.put_grant.new.self
    ≡ with_grant c.self.inside.servers c.args.id c.args.server c.args.actor c.args.lease
    c.put_grant.new.self.spare_slots c.self.inside.blocks
put c =
    let id = c.args.id in
    let before = c.self.inside.blocks in
    let slot = slot_at before.slots id.block id.slot in
    let life = c.server_at-life.ensures
    ∙ ap (λ views. server_at views c.args.server) c.as_slice.ensures in
    let slots = c.put_grant.ensures.slots
    ∙ ap (λ view. with_slot id.block id.slot
    (granted_slot c.args.server view.life c.args.actor c.args.lease slot) before.slots) life in
    c.put_grant.ensures.rest
    ∙ ap (λ rows. record before { slots = rows; spare_slots = c.put_grant.new.self.spare_slots })
    slots

is_made : (c : goal.After-count) → IsMade
    (image_of c.self.inside.turn c.self.inside.clock c.self.inside.servers c.self.inside.names
    c.self.inside.blocks c.self.inside.leases c.self.inside.dropped.items)
    c.self.inside.leases.spare c.self.inside.blocks c.put_grant.new.self c.count.new.self
    (GrantSlot c.args.id.block c.args.id.slot c.args.server c.args.actor c.args.lease)
is_made c =
    let s = c.self.inside in
    let m = image_of s.turn s.clock s.servers s.names s.blocks s.leases s.dropped.items in
    let may = subst (λ (held : Held). MayGrant held.image c.args.id c.args.server)
    (sym c.self.view_is) c.requires.may in
    subst (λ t. IsMade m s.leases.spare s.blocks t c.count.new.self
    (GrantSlot c.args.id.block c.args.id.slot c.args.server c.args.actor c.args.lease))
    (sym (put c))
    (rw c.count.ensures (granted m s.leases.spare s.blocks s.loads c.self.invariant c.args.id
    c.args.server c.args.actor c.args.lease c.put_grant.new.self.spare_slots may))

pub invariant_of-self : goal.invariant_of-self
invariant_of-self c = (is_made c).held

pub returns-clause-image : goal.returns-clause-image
returns-clause-image c =
    let id = c.args.id in
    (is_made c).image
    ∙ ap (λ (held : Held). apply held.image
    (GrantSlot id.block id.slot c.args.server c.args.actor c.args.lease)) c.self.view_is

pub returns-clause-room : goal.returns-clause-room
unfolding with_slot
returns-clause-room c =
    let before = c.self.inside.blocks in
    let after = c.put_grant.new.self in
    let id = c.args.id in
    let slot = slot_at before.slots id.block id.slot in
    let row : SlotRow = record {
      block = id.block;
      slot = id.slot;
      state = granted_slot c.args.server c.server_at-life.result.life c.args.actor c.args.lease
          slot;
    } in
    let longer = placed_longer slot_cmp row before.slots in
    let rows = ap (λ rows. length rows) c.put_grant.ensures.slots in
    let spare = c.put_grant.ensures.spare in
    let condemned = ap (λ (t : BlockTables). t.spare_condemned) c.put_grant.ensures.rest in
    let next = ap (λ (t : BlockTables). t.next) c.put_grant.ensures.rest in
    let s = c.self.inside in
    let view : BlockTables → Held = λ t. record {
      image = image_of s.turn s.clock s.servers s.names t s.leases s.dropped.items;
      room = room_of s.names t s.leases s.dropped.spare;
    } in
    let need = needs (Grant id c.args.server c.args.actor c.args.lease) in
    let takes : TakesRoom need (view before) (view after) = record {
      names = omega arith;
      entries = omega arith;
      slots = omega (arith, longer, rows, spare);
      condemned = omega (arith, condemned);
      leases = omega arith;
      dropped = omega arith;
      file_numbers = omega arith;
      lease_numbers = omega arith;
      condemned_numbers = omega (arith, next);
      places = omega arith;
    } in
    subst (λ held. TakesRoom need held (view after)) c.self.view_is takes
