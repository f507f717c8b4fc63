use Rattle.std.proofs.Common.{◌∙◌, refl, inl, arith}
use Rattle.qfs_window.proofs.Fetches.{begins-window, from-next, reads-next, wants-first}
use Rattle.qfs_window.proofs.Passing.{enough_left}
use Rattle.qfs_window.proofs.window_read.begin_window.Goals as goal

pub next_source-slot-requires : goal.next_source-slot-requires
next_source-slot-requires c = omega (arith, enough_left c.args.sources c.requires.enough)

pub returns-clause-rest : goal.returns-clause-rest
returns-clause-rest c = λ reading behind.
    rw c.none.ensures
    (from-next reading behind _ _ _ _ c.next_source-slot.ensures (omega arith) ∙ begins-window reading behind _ refl)

pub returns-clause-at : goal.returns-clause-at
returns-clause-at c =
    rw c.none.ensures
    (record {
      readable = reads-next _ _ _ _ _ (wants-first c.args.sources c.requires.enough) c.next_source-slot.ensures;
      rows = c.requires.rows;
      room = inl refl;
    })
