use Rattle.std.proofs.Common.{refl, inl, inr}
use Rattle.qfs_reader.specs.Rest.{rest_of_get}
use Rattle.qfs_reader.proofs.Supplies.{other_room-rest}
use Rattle.qfs_reader.proofs.supply.supply.Goals as goal

pub window_bytes-size-requires : goal.window_bytes-size-requires
window_bytes-size-requires c = let at = rw c.in-Reading.is at c.requires in at.window.order.0.few

pub returns-in-Reading-clause-rest : goal.returns-in-Reading-clause-rest
unfolding rest_of_get
returns-in-Reading-clause-rest c =
    let at = rw c.in-Reading.is at c.requires in
    let there = rw c.window_bytes-size.ensures.value at c.make_room.ensures.there in
    rw c.in-Reading.is
    (other_room-rest c.args.get.now c.in-Reading.attempt (record c.in-Reading.attempt { nine = c.make_room.new.nine; spare = c.make_room.new.spare })
    c.in-Reading.position refl at.room (λ here. (there here).0))

pub returns-in-Reading-clause-at : goal.returns-in-Reading-clause-at
returns-in-Reading-clause-at c =
    let at = rw c.in-Reading.is at c.requires in
    let there = rw c.window_bytes-size.ensures.value at c.make_room.ensures.there in
    record {
      window = at.window;
      readable = at.readable;
      room = elim at.room [ inl none ↦ inl none | inr here ↦ let same = there here in inr (rw (same.0, same.1) here) ];
    }

pub returns-in-Reading-clause-supplied : goal.returns-in-Reading-clause-supplied
returns-in-Reading-clause-supplied c = rw c.window_bytes-size.ensures.value at c.make_room.ensures.ok
