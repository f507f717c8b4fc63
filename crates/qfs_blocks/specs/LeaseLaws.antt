-- Condemned copies and leases: which leases block a copy after one was given or ended, and what a
-- copy that was found on a server does to the state.
use Rattle.std.proofs.Common.{◌≡◌, ◌∙◌, ◌≤◌, ap, refl, arith, ℕ, nat_lt, Bool, true, false}
use Rattle.std.proofs.Common.{not, ◌==◌, ◌||◌, cond, List, [], ◌∷◌, ◌++◌, map, filter, Some}
use Rattle.std.proofs.lemmas.Bool.Decides.{nat_tests}
use Rattle.std.specs.List.{list_any}
use Rattle.qfs_base.specs.declared.chunk.BlockId.{BlockId}
use Rattle.qfs_base.specs.declared.chunk.ChunkKey.{ChunkKey}
use Rattle.qfs_base.specs.declared.chunk.Copy.{Copy}
use Rattle.qfs_base.specs.declared.image.CondemnedEntry.{CondemnedEntry}
use Rattle.qfs_base.specs.declared.image.CondemnedRow.{CondemnedRow}
use Rattle.qfs_base.specs.declared.image.Lease.{Lease}
use Rattle.qfs_base.specs.declared.image.MetaImage.{MetaImage}
use Rattle.qfs_base.specs.Table.{Each, without}
use Rattle.qfs_laws_slots.specs.RowKeys.{is_lease-is}
use Rattle.qfs_laws_tables.specs.EachRow.{each_of_all}
use Rattle.qfs_laws_tables.specs.Placed.{map-filter}
use Rattle.qfs_model_meta.specs.Apply.{condemn_stray, condemn_unknown, is_known_copy, is_that_copy}
use Rattle.qfs_model_meta.specs.Condemned.{condemn_any, forget_if_risen, is_copy_of, is_on_server}
use Rattle.qfs_model_meta.specs.Condemned.{unblock, unblock_all}
use Rattle.qfs_model_meta.specs.Leases.{end_lease, give_lease, is_lease, leases_on}
use Rattle.qfs_model_meta.specs.Slots.{granted_copy, slot_at}
use Rattle.qfs_blocks.specs.BlockTables.{BlockTables, is_known, unknown_condemned}
use Rattle.qfs_blocks.specs.Entries.{is_entry_of, is_entry_on, row_of_entry, rows_of_entries}
use Rattle.qfs_blocks.specs.ImageLaws.{IsNextLease, condemned_is, with_blocks}

-- the leases on a file below a number
abbrev held : ℕ → ℕ → List Lease → List ℕ
held below file leases = filter (λ lease. nat_lt lease below) (leases_on file leases)

-- a lease whose number isn't below blocks nothing that is condemned
held_given : (below file : ℕ) (new : Lease) → below ≤ new.lease → (leases : List Lease)
    → held below file (leases ++ new ∷ []) ≡ held below file leases
unfolding leases_on
held_given below file new high [] =
    let out : nat_lt new.lease below ≡ false = grind (arith, nat_tests) in
    elim (new.file == file) as (λ b. filter (λ n. nat_lt n below)
    (map (λ (l : Lease). l.lease) (cond b (new ∷ []) [])) ≡ []) [
      | true ↦ ap (λ b. cond b (new.lease ∷ []) []) out
      | false ↦ refl
    ]
held_given below file new high (lease ∷ leases) =
    let rest = held_given below file new high leases in
    let on = λ (l : Lease). l.file == file in
    elim (lease.file == file) as (λ b. filter (λ n. nat_lt n below)
    (map (λ (l : Lease). l.lease)
    (cond b (lease ∷ filter on (leases ++ new ∷ [])) (filter on (leases ++ new ∷ []))))
    ≡ filter (λ n. nat_lt n below)
    (map (λ (l : Lease). l.lease) (cond b (lease ∷ filter on leases) (filter on leases)))) [
      | true ↦ ap (λ ns. cond (nat_lt lease.lease below) (lease.lease ∷ ns) ns) rest
      | false ↦ rest
    ]

-- a lease that ended is gone from those that block
held_ended : (below lease file : ℕ) (leases : List Lease)
    → held below file (end_lease lease leases)
    ≡ without (λ n. n == lease) (held below file leases)
unfolding leases_on end_lease
held_ended below lease file [] = refl
held_ended below lease file (l ∷ leases) =
    one (l.file == file) (nat_lt l.lease below) (l.lease == lease) refl refl refl
    (is_lease-is lease l) (held_ended below lease file leases)
  where
    one : (f b e : Bool) → (l.file == file) ≡ f → nat_lt l.lease below ≡ b → (l.lease == lease) ≡ e
        → is_lease lease l ≡ (l.lease == lease)
        → filter (λ n. nat_lt n below) (map (λ (x : Lease). x.lease)
        (filter (λ (x : Lease). x.file == file)
        (filter (λ (x : Lease). not (is_lease lease x)) leases)))
        ≡ filter (λ n. not (n == lease)) (filter (λ n. nat_lt n below)
        (map (λ (x : Lease). x.lease) (filter (λ (x : Lease). x.file == file) leases)))
        → filter (λ n. nat_lt n below) (map (λ (x : Lease). x.lease)
        (filter (λ (x : Lease). x.file == file)
        (filter (λ (x : Lease). not (is_lease lease x)) (l ∷ leases))))
        ≡ filter (λ n. not (n == lease)) (filter (λ n. nat_lt n below)
        (map (λ (x : Lease). x.lease) (filter (λ (x : Lease). x.file == file) (l ∷ leases))))
    one true true true p q r s rest = rw (s, p, q, r) rest
    one true true false p q r s rest = rw (s, p, q, r, p, q) (ap (λ ns. l.lease ∷ ns) rest)
    one true false true p q r s rest = rw (s, p, q, r) rest
    one true false false p q r s rest = rw (s, p, q, r, p, q) rest
    one false b true p q r s rest = rw (s, p, r) rest
    one false b false p q r s rest = rw (s, p, r, p) rest

-- a lease is given: no condemned copy gets a blocker
pub given_is : (number actor file until : ℕ) (leases : List Lease)
    (entries : List CondemnedEntry)
    → Each (λ (entry : CondemnedEntry). entry.below ≤ number) entries
    → rows_of_entries (give_lease number actor file until leases) entries
    ≡ rows_of_entries leases entries
unfolding give_lease
given_is number actor file until leases [] below = refl
given_is number actor file until leases (entry ∷ entries) below =
    let blockers = held_given entry.below entry.condemned.block.file
    (record { lease = number; actor = actor; file = file; until = until }) below.0 leases in
    let rest = given_is number actor file until leases entries below.1 in
    λ i. record {
      condemned = entry.condemned;
      ordered = entry.ordered;
      blockers = blockers i;
    } ∷ rest i

-- a lease ends: it blocks nothing any more
pub ended_is : (lease : ℕ) (leases : List Lease) (entries : List CondemnedEntry)
    → rows_of_entries (end_lease lease leases) entries
    ≡ unblock_all lease (rows_of_entries leases entries)
unfolding unblock_all unblock
ended_is lease leases [] = refl
ended_is lease leases (entry ∷ entries) =
    let blockers = held_ended entry.below lease entry.condemned.block.file leases in
    let rest = ended_is lease leases entries in
    λ i. record {
      condemned = entry.condemned;
      ordered = entry.ordered;
      blockers = blockers i;
    } ∷ rest i

-- the condemned copies on a server are gone, if its life rose
abbrev pub entries_if_risen : ℕ → List CondemnedEntry → Bool → List CondemnedEntry
entries_if_risen server entries false = entries
entries_if_risen server entries true = without (is_entry_on server) entries

pub risen_is : (server : ℕ) (leases : List Lease) (entries : List CondemnedEntry) (rose : Bool)
    → rows_of_entries leases (entries_if_risen server entries rose)
    ≡ forget_if_risen server (rows_of_entries leases entries) rose
unfolding forget_if_risen is_on_server
risen_is server leases entries false = refl
risen_is server leases entries true =
    map-filter (row_of_entry leases) (λ entry. not (is_entry_on server entry))
    (λ (row : CondemnedRow). not (is_on_server server row)) entries
    (each_of_all _ (λ entry. refl) entries)

condemned_alike : (block : BlockId) (slot : ℕ) (copy : Copy) (leases : List Lease)
    (entries : List CondemnedEntry)
    → list_any (is_entry_of block slot copy) entries
    ≡ list_any (is_copy_of block slot copy) (rows_of_entries leases entries)
unfolding is_copy_of
condemned_alike block slot copy leases [] = refl
condemned_alike block slot copy leases (entry ∷ entries) =
    ap (λ b. is_entry_of block slot copy entry || b)
    (condemned_alike block slot copy leases entries)

-- a copy that was found on a server is condemned, unless it is known
pub stray_is : (m : MetaImage) (next : ℕ) → IsNextLease next m.leases → (server life : ℕ)
    (key : ChunkKey) (t : BlockTables)
    → with_blocks (unknown_condemned m.servers next key.block key.slot
    (record { server = server; life = life; version = key.version }) t
    (is_known key.block key.slot
    (record { server = server; life = life; version = key.version }) t)) m
    ≡ condemn_stray server life key (with_blocks t m)
unfolding condemn_stray condemn_unknown is_known_copy condemn_any
stray_is m next above server life key t =
    one (is_known key.block key.slot copy t)
    ∙ ap (condemn_unknown key.block key.slot copy (with_blocks t m)) known
  where
    copy : Copy
    copy = record { server = server; life = life; version = key.version }

    one : (b : Bool)
        → with_blocks (unknown_condemned m.servers next key.block key.slot copy t b) m
        ≡ condemn_unknown key.block key.slot copy (with_blocks t m) b
    one true = refl
    one false = condemned_is m next above key.block key.slot t (Some copy)

    known : is_known key.block key.slot copy t
        ≡ is_known_copy key.block key.slot copy (slot_at t.slots key.block key.slot)
        (rows_of_entries m.leases t.condemned)
    known =
        ap (λ b. is_that_copy copy (slot_at t.slots key.block key.slot).current
        || is_that_copy copy (granted_copy (slot_at t.slots key.block key.slot).grant) || b)
        (condemned_alike key.block key.slot copy m.leases t.condemned)
