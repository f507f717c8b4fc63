-- Among rising keys the first entry of a key is the only one.
use Rattle.qfs_base.specs.KeyLaws.{key_cmp_total}
use Rattle.qfs_base.specs.KeyMapLaws.{without_key-rising}
use Rattle.qfs_store.proofs.copies.Copies.remove.Goals as goal

pub returns : goal.returns
returns c = rw (c.remove-size.ensures.entries, ← c.self.view_is) (without_key-rising key_cmp_total c.self.inside.map.entries c.args.key.now c.self.invariant)
