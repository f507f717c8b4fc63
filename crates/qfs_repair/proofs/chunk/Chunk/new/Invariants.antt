use Rattle.qfs_repair.proofs.chunk.Chunk.new.Given as goal

abbrev pub ghost-of : goal.ghost-of
ghost-of a = a.first.now
