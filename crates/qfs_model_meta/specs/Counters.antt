-- The numbers that the metaserver counts up.
use Rattle.std.specs.Prelude.{ℕ, ◌+◌, nat_lt, min, Bool, ◌&&◌, length}
use Rattle.qfs_base.specs.declared.image.MetaImage.{MetaImage}
use Rattle.qfs_base.specs.Sizes.{LAST_U32, LAST_U64}

-- a counter one higher, which stays at its last value
abbrev pub risen : ℕ → ℕ → ℕ
risen last n = min (n + 1) last

-- whether no file, lease or condemned copy got its type's last value as its number, and the
-- history has no more entries than a place can name
unfoldable pub counters_fit : MetaImage → Bool
counters_fit m =
    nat_lt m.next_file (LAST_U32 + 1)
    && nat_lt m.next_lease (LAST_U64 + 1)
    && nat_lt m.next_condemned (LAST_U64 + 1)
    && nat_lt (length m.history) (LAST_U32 + 1)
