-- No copies, over a device that holds none, stand for a server without copies.
use Rattle.qfs_store.proofs.FreshLaws.{empty_sound, fresh_stands}
use Rattle.qfs_store.proofs.store.Store.new.Goals as goal

pub invariant_of-result : goal.invariant_of-result
invariant_of-result g c = rw c.new.ensures (empty_sound c.args.stripe _ _ c.requires.stripe c.requires.empty)

pub returns-clause-fresh : goal.returns-clause-fresh
returns-clause-fresh g c told_is = rw c.new.ensures (fresh_stands c.args.stripe)
