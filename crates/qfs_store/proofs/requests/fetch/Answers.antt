-- The room's bytes are those that were handed over.
use Rattle.qfs_store.proofs.requests.fetch.Goals as goal

pub fill-answer-requires-clause-lies : goal.fill-answer-requires-clause-lies
fill-answer-requires-clause-lies g c _ _ held told_is = rw (c.deref_mut.ensures.value, c.into_vec-room.ensures) (c.requires.lies held told_is)
