use Rattle.std.proofs.Common.{◌∙◌, refl, arith, inl}
use Rattle.qfs_reader.specs.Rest.{rest_of_get}
use Rattle.qfs_reader.proofs.Fetches.{begins-window, from-next, reads-next, wants-first}
use Rattle.qfs_reader.proofs.Passing.{enough_left}
use Rattle.qfs_reader.proofs.block.begin_window.Goals as goal

pub next_source-slot-requires : goal.next_source-slot-requires
next_source-slot-requires c = let six = enough_left c.args.sources c.requires.enough in omega (arith, six)

pub returns-clause-rest : goal.returns-clause-rest
unfolding rest_of_get
returns-clause-rest c =
    rw c.none.ensures
    (from-next c.args.get.now c.args.attempt _ 0 c.next_source-slot.result.0 c.next_source-slot.result.1 c.next_source-slot.ensures (omega arith)
    ∙ begins-window c.args.get.now c.args.attempt _ refl)

pub returns-clause-at : goal.returns-clause-at
returns-clause-at c =
    rw c.none.ensures
    (record {
      window = c.requires.window;
      readable = reads-next _ _ 0 _ _ (wants-first c.args.sources c.requires.enough) c.next_source-slot.ensures;
      room = inl refl;
    })
