-- What the loop of `state::State::make_all` keeps.
use Rattle.std.specs.Vec.Iter.{into_iter_items}
use Rattle.qfs_model_meta.specs.Apply.{apply_all}
use Rattle.qfs_state.specs.Planning.{changes_of}
use Rattle.qfs_state.proofs.MakeLaws.{AreLeft}
use Rattle.qfs_state.proofs.state.State.make_all.Given as goal

-- the changes to come lead to the same state as all did at first
abbrev pub invariant-loop-change : goal.invariant-loop-change
invariant-loop-change l =
    AreLeft (into_iter_items l.change-iterator) l.self
    (apply_all (changes_of l.fn.changes.items) l.fn.self.image)
