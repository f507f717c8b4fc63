-- What a metaserver has told actors so far, as far as a later state has to keep to it: the grants, the
-- leases with the copies that they list, and the deletions that it ordered.
use Rattle.std.specs.Prelude.{ℕ, ◌==◌, Bool, true, false, ◌&&◌, List, [], ◌∷◌, ◌++◌, filter_map, flat_map, Option}
use Rattle.std.specs.Option.{option_map}
use Rattle.std.specs.List.{list_any, enumerate_from}
use Rattle.qfs_base.specs.declared.chunk.BlockId.{BlockId}
use Rattle.qfs_base.specs.declared.chunk.Copy.{Copy}
use Rattle.qfs_base.specs.declared.reply.Condemned.{Condemned}
use Rattle.qfs_base.specs.declared.reply.Granted.{Granted}
use Rattle.qfs_base.specs.declared.reply.MetaReply.{MetaReply}
use Rattle.qfs_base.specs.declared.reply.MetaReply.TheVariants as Told
use Rattle.qfs_model_meta.specs.Lists.{NineCopies}
use Rattle.qfs_model_meta.specs.Slots.{same_block, same_copy}

-- a copy of a slot
pub record SlotCopy : Type 0 where
  pub block : BlockId
  pub slot : ℕ
  pub copy : Copy

-- a copy that a lease lists
pub record ListedCopy : Type 0 where
  pub lease : ℕ
  pub of_slot : SlotCopy

-- a lease as it was given
pub record GivenLease : Type 0 where
  pub lease : ℕ
  pub actor : ℕ
  pub file : ℕ

pub record Past : Type 0 where
  pub granted : List SlotCopy
  pub leases : List GivenLease
  pub listed : List ListedCopy
  pub ordered : List Condemned

-- nothing was told yet
unfoldable pub no_past : Past
no_past = record { granted = []; leases = []; listed = []; ordered = [] }

-- the copy that a grant allows
unfoldable pub granted_slot_copy : Granted → SlotCopy
granted_slot_copy g =
    record { block = g.block; slot = g.slot; copy = record { server = g.server; life = g.life; version = g.version } }

-- the copies that a lease lists of a block, where its nine slots may have one each
unfoldable pub listed_copy_of : ℕ → BlockId → ℕ → Option Copy → Option ListedCopy
listed_copy_of lease block slot copy =
    option_map (λ c. record { lease = lease; of_slot = record { block = block; slot = slot; copy = c } }) copy

unfoldable pub listed_in : ℕ → BlockId → NineCopies → List ListedCopy
listed_in lease block nine =
    filter_map (λ (s : ℕ × Option Copy). listed_copy_of lease block s.0 s.1) (enumerate_from 0 nine)

-- the copies that an opened file's lease lists
unfoldable pub listed_in_file : ℕ → ℕ → List NineCopies → List ListedCopy
listed_in_file lease file blocks =
    flat_map
    (λ (b : ℕ × NineCopies). listed_in lease (record { file = file; index = b.0 }) b.1)
    (enumerate_from 0 blocks)

-- a lease was given, and lists these copies
unfoldable pub with_lease : ℕ → ℕ → ℕ → List ListedCopy → Past → Past
with_lease lease actor file copies past = record past {
  leases = past.leases ++ record { lease = lease; actor = actor; file = file } ∷ [];
  listed = past.listed ++ copies;
}

-- a copy was granted
unfoldable pub with_copy : SlotCopy → Past → Past
with_copy copy past = record past { granted = past.granted ++ copy ∷ [] }

-- whether a grant is that of a put, which has no lease
unfoldable pub is_of_put : Granted → Bool
is_of_put g = g.lease == 0

-- a grant was given, with its lease if it is none of a put
unfoldable pub with_grant : ℕ → Granted → Past → Bool → Past
with_grant actor g past true = with_copy (granted_slot_copy g) past
with_grant actor g past false =
    with_lease g.lease actor g.block.file (listed_in g.lease g.block g.sources)
    (with_copy (granted_slot_copy g) past)

-- what was told after one more reply to an actor
unfoldable pub remember : ℕ → Past → MetaReply → Past
remember actor past (Told.Granted g) = with_grant actor g past (is_of_put g)
remember actor past (Told.Opened o) =
    with_lease o.lease actor o.file (listed_in_file o.lease o.file o.blocks) past
remember actor past (Told.Ordered condemned turn) =
    record past { ordered = past.ordered ++ condemned ∷ [] }
remember actor past _ = past

-- whether two copies are of one slot and version, or the same
unfoldable pub same_version : SlotCopy → SlotCopy → Bool
same_version a b =
    same_block a.block b.block && (a.slot == b.slot) && (a.copy.version == b.copy.version)

unfoldable pub is_copy : BlockId → ℕ → Copy → SlotCopy → Bool
is_copy block slot copy other = same_block other.block block && (other.slot == slot) && same_copy other.copy copy

-- whether a copy of a slot is one of those that were granted
unfoldable pub was_granted : List SlotCopy → BlockId → ℕ → Copy → Bool
was_granted granted block slot copy = list_any (is_copy block slot copy) granted
