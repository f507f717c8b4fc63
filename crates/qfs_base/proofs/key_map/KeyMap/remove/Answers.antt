-- Among rising keys the first entry of a key is the only one.
use Rattle.qfs_base.specs.KeyMapLaws.{without_key-rising}
use Rattle.qfs_base.proofs.key_map.KeyMap.remove.Goals as goal

pub returns-clause-entries : goal.returns-clause-entries
returns-clause-entries g c =
    rw (c.remove.ensures.entries, ← c.self.view_is) (without_key-rising g.met.K.Ord.total c.self.inside.map.entries c.args.key.now c.self.invariant)
