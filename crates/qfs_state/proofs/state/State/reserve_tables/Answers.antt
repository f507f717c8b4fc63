-- What the check leaves to show of `state::State::reserve_tables`.
use Rattle.std.proofs.Common.{ap, arith, subst}
use Rattle.qfs_lease.specs.LiveLeases.{LiveLeases}
use Rattle.qfs_state.specs.Held.{Held, room_of}
use Rattle.qfs_state.specs.Reserving.{IsWithin}
use Rattle.qfs_state.proofs.RoomLaws.{held_again}
use Rattle.qfs_state.proofs.state.State.reserve_tables.Goals as goal

pub returns-in_err-reserve-2-clause-grows : goal.returns-in_err-reserve-2-clause-grows
returns-in_err-reserve-2-clause-grows c =
    subst (λ (held : Held). IsWithin held.room (room_of c.reserve_entries.new.self
    c.reserve-2.new.self c.self.inside.leases c.self.inside.dropped.spare)) c.self.view_is
    (record {
      names = omega (arith, c.in_ok-reserve.ensures.ok, c.reserve_entries.ensures.spare);
      entries = omega (arith, c.reserve.ensures.spare_entries, c.reserve_entries.ensures.least);
      slots = c.reserve-2.ensures.least_slots;
      condemned = omega (arith, c.in_err-reserve-2.ensures.err);
      leases = omega arith;
      dropped = omega arith;
    })

pub returns-in_err-reserve-3-clause-grows : goal.returns-in_err-reserve-3-clause-grows
returns-in_err-reserve-3-clause-grows c =
    subst (λ (held : Held). IsWithin held.room (room_of c.reserve_entries.new.self
    c.reserve-2.new.self c.reserve-3.new.self c.self.inside.dropped.spare)) c.self.view_is
    (record {
      names = omega (arith, c.in_ok-reserve.ensures.ok, c.reserve_entries.ensures.spare);
      entries = omega (arith, c.reserve.ensures.spare_entries, c.reserve_entries.ensures.least);
      slots = c.reserve-2.ensures.least_slots;
      condemned = omega (arith, c.in_ok-reserve-2.ensures.ok_condemned);
      leases = omega (arith, ap (λ (leases : LiveLeases). leases.spare) (c.in_err-reserve-3.ensures.err));
      dropped = omega arith;
    })

pub invariant_of-self-2 : goal.invariant_of-self-2
invariant_of-self-2 c =
    let it = c.self.inside in
    held_again it.servers it.blocks c.reserve-2.new.self it.leases c.reserve-3.new.self
    it.dropped.items c.reserve-4.new.self.items it.loads c.self.invariant c.reserve-2.ensures.slots
    c.reserve-2.ensures.condemned c.reserve-3.ensures.leases c.reserve-3.ensures.next
    c.reserve-4.ensures.items

pub returns-clause-grows : goal.returns-clause-grows
returns-clause-grows c =
    subst (λ (held : Held). IsWithin held.room (room_of c.reserve_entries.new.self
    c.reserve-2.new.self c.reserve-3.new.self c.reserve-4.new.self.spare)) c.self.view_is
    (record {
      names = omega (arith, c.in_ok-reserve.ensures.ok, c.reserve_entries.ensures.spare);
      entries = omega (arith, c.reserve.ensures.spare_entries, c.reserve_entries.ensures.least);
      slots = c.reserve-2.ensures.least_slots;
      condemned = omega (arith, c.in_ok-reserve-2.ensures.ok_condemned);
      leases = omega (arith, c.in_ok-reserve-3.ensures.ok);
      dropped = c.reserve-4.ensures.kept;
    })
