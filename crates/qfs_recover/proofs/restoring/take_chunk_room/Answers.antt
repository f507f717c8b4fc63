use Rattle.std.proofs.Common.{refl, inl, inr}
use Rattle.qfs_recover.proofs.Groups.{other-chunk}
use Rattle.qfs_recover.proofs.restoring.take_chunk_room.Goals as goal

pub returns-clause-rest : goal.returns-clause-rest
returns-clause-rest c = λ course.
    elim c.requires.room [
      | inl none ↦ other-chunk c.args.layout.now course c.args.restoring.now _ refl none
      | inr there ↦ rw (c.make_chunk_room.ensures.there there) refl
    ]

pub returns-clause-at : goal.returns-clause-at
returns-clause-at c =
    record {
      slot = c.requires.slot;
      rows = c.requires.rows;
      more = c.requires.more;
      window = c.requires.window;
      read = c.requires.read;
      room = elim c.requires.room [ inl none ↦ inl none | inr there ↦ inr (rw (c.make_chunk_room.ensures.there there) there) ];
    }
