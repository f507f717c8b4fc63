-- The orders of blocks and of chunk keys: by their fields in turn.
use Rattle.std.specs.Ordering.{nat_cmp, ordering_then}
use Rattle.std.specs.declared.cmp.Ordering.{Ordering}
use Rattle.qfs_base.specs.declared.chunk.BlockId.{BlockId}
use Rattle.qfs_base.specs.declared.chunk.ChunkKey.{ChunkKey}

-- by file and index
abbrev pub block_cmp : BlockId → BlockId → Ordering
block_cmp a b = ordering_then (nat_cmp a.file b.file) (nat_cmp a.index b.index)

-- by block, slot and version
abbrev pub key_cmp : ChunkKey → ChunkKey → Ordering
key_cmp a b =
    ordering_then (block_cmp a.block b.block)
    (ordering_then (nat_cmp a.slot b.slot) (nat_cmp a.version b.version))
