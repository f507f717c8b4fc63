-- What the world was.
use Rattle.qfs_world.proofs.world.World.into_parts.Goals as goal

pub returns-in-Err-clause-after : goal.returns-in-Err-clause-after
returns-in-Err-clause-after g c = rw (← c.self.view_is) c.self.invariant.0.follows

pub returns-clause-after : goal.returns-clause-after
returns-clause-after g c = rw (← c.self.view_is) c.self.invariant.0.follows
