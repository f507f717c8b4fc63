use Rattle.std.proofs.Common.{refl, inl, inr}
use Rattle.qfs_move.proofs.Groups.{other-room}
use Rattle.qfs_move.proofs.copying.make_room.Goals as goal

pub returns-clause-rest : goal.returns-clause-rest
returns-clause-rest c = λ course.
    elim c.requires.room [
      | inl none ↦ other-room c.args.layout.now course c.args.copying.now _ refl none
      | inr there ↦ rw (c.make_chunk_room.ensures.there there) refl
    ]

pub returns-clause-at : goal.returns-clause-at
returns-clause-at c =
    record {
      slot = c.requires.slot;
      rows = c.requires.rows;
      more = c.requires.more;
      room = elim c.requires.room [ inl none ↦ inl none | inr there ↦ inr (rw (c.make_chunk_room.ensures.there there) there) ];
    }
