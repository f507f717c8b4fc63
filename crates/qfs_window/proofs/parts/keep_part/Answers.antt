use Rattle.std.proofs.Common.{◌≡◌, ◌∙◌, ◌*◌, ℕ, List, ap, sym, length}
use Rattle.std.specs.Vec.{with_items}
use Rattle.std.specs.declared.vec.Vec.{Vec}
use Rattle.std.proofs.lemmas.List.{with_items_is}
use Rattle.qfs_window.proofs.Slots.{insert_slot-last, AreBelow-push}
use Rattle.qfs_window.proofs.Fetches.{pieces-put, length-insert}
use Rattle.qfs_window.proofs.parts.keep_part.Goals as goal

-- the room of the parts with another list in it
room_with : {Z : Type 0} (v : Vec ℕ Z) (new : List ℕ) (size : ℕ) → length v.items ≡ 9 * size → length new ≡ 9 * size → (with_items v new).items ≡ new
room_with v new size was long = with_items_is v new (long ∙ sym was ∙ sym v.ok.0)

pub returns-clause-len : goal.returns-clause-len
returns-clause-len c = ap length (room_with c.args.nine.now c.put_part.new.nine c.args.size c.requires.nine c.put_part.ensures.len) ∙ c.put_part.ensures.len

pub returns-clause-pieces : goal.returns-clause-pieces
returns-clause-pieces c =
    let others = rw c.as_mut_slice.ensures.value at c.put_part.ensures.others in
    rw (room_with c.args.nine.now c.put_part.new.nine c.args.size c.requires.nine c.put_part.ensures.len, c.with.ensures)
    (pieces-put c.args.size c.args.slot c.args.nine.now.items c.put_part.new.nine c.args.have c.args.bytes.now c.requires.below c.put_part.ensures.put others)

pub returns-clause-count : goal.returns-clause-count
returns-clause-count c = ap length c.with.ensures ∙ length-insert c.args.slot c.args.have c.requires.below

pub returns-clause-below : goal.returns-clause-below
returns-clause-below c =
    rw (c.with.ensures, insert_slot-last c.args.slot c.args.have c.requires.below) (AreBelow-push c.args.slot c.args.have c.requires.below)
