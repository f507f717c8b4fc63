-- The image of a metaserver's state, as a checkpoint holds it: its counters and its eight lists, in this order.
use Rattle.std.specs.Prelude.{ℕ, zero, suc, List, [], ◌∷◌, slice_get, Option, Some, None}
use Rattle.std.specs.Option.{option_map}
use Rattle.std.specs.Int.{w16, w32, w64}
use Rattle.qfs_base.specs.declared.history.Entry.{Entry}
use Rattle.qfs_base.specs.declared.history.Entry.TheVariants as Wrote
use Rattle.qfs_base.specs.declared.image.CondemnedRow.{CondemnedRow}
use Rattle.qfs_base.specs.declared.image.DroppedActor.{DroppedActor}
use Rattle.qfs_base.specs.declared.image.Grant.{Grant}
use Rattle.qfs_base.specs.declared.image.Lease.{Lease}
use Rattle.qfs_base.specs.declared.image.MetaImage.{MetaImage}
use Rattle.qfs_base.specs.declared.image.ServerView.{ServerView}
use Rattle.qfs_base.specs.declared.image.SlotRow.{SlotRow}
use Rattle.qfs_base.specs.declared.image.TreeRow.{TreeRow}
use Rattle.qfs_base.specs.declared.reply.Condemned.{Condemned}
use Rattle.qfs_model_disks.specs.Tests.{is_image}
use Rattle.qfs_model_disks.specs.Values.{copy, from_one, path}
use Rattle.qfs_record.specs.ChunkRecord.{block, slot}
use Rattle.qfs_record.specs.Part.{Part, flag, listed, number, optional, pair, shaped, such}

-- ---- rows

abbrev pub server_view : Part ServerView
server_view =
    shaped
    (λ v. record { up = v.0; leaving = v.1.0; life = v.1.1.0; until = v.1.1.1 })
    (λ (s : ServerView). (s.up, (s.leaving, (s.life, s.until))))
    (pair flag (pair flag (pair (number w32) (number w64))))

abbrev pub tree_row : Part TreeRow
tree_row =
    shaped
    (λ v. record { path = v.0; file = v.1.0; closed = v.1.1.0; actor = v.1.1.1.0; command = v.1.1.1.1.0; len = v.1.1.1.1.1 })
    (λ (r : TreeRow). (r.path, (r.file, (r.closed, (r.actor, (r.command, r.len))))))
    (pair path (pair (number w32) (pair flag (pair (number w16) (pair (number w16) (number w32))))))

abbrev pub grant : Part Grant
grant =
    shaped
    (λ v. record { copy = v.0; actor = v.1.0; lease = v.1.1 })
    (λ (g : Grant). (g.copy, (g.actor, g.lease)))
    (pair copy (pair from_one (number w64)))

abbrev pub slot_row : Part SlotRow
slot_row =
    shaped
    (λ v. record {
      block = v.0;
      slot = v.1.0;
      state = record { next = v.1.1.0; current = v.1.1.1.0; grant = v.1.1.1.1.0; failed = v.1.1.1.1.1 };
    })
    (λ (r : SlotRow). (r.block, (r.slot, (r.state.next, (r.state.current, (r.state.grant, r.state.failed))))))
    (pair block (pair slot (pair (number w32) (pair (optional copy) (pair (optional grant) (listed from_one))))))

abbrev pub lease : Part Lease
lease =
    shaped
    (λ v. record { lease = v.0; actor = v.1.0; file = v.1.1.0; until = v.1.1.1 })
    (λ (l : Lease). (l.lease, (l.actor, (l.file, l.until))))
    (pair (number w64) (pair from_one (pair (number w32) (number w64))))

abbrev pub condemned : Part Condemned
condemned =
    shaped
    (λ v. record { number = v.0; block = v.1.0; slot = v.1.1.0; copy = v.1.1.1 })
    (λ (c : Condemned). (c.number, (c.block, (c.slot, c.copy))))
    (pair (number w64) (pair block (pair slot copy)))

abbrev pub condemned_row : Part CondemnedRow
condemned_row =
    shaped
    (λ v. record { condemned = v.0; ordered = v.1.0; blockers = v.1.1 })
    (λ (r : CondemnedRow). (r.condemned, (r.ordered, r.blockers)))
    (pair condemned (pair flag (listed (number w64))))

abbrev pub dropped_actor : Part DroppedActor
dropped_actor =
    shaped (λ v. record { actor = v.0; turn = v.1 }) (λ (d : DroppedActor). (d.actor, d.turn)) (pair from_one (number w64))

-- ---- the file history

abbrev pub closing : Part (ℕ × (ℕ × ℕ))
closing = pair (number w32) (pair from_one (number w16))

abbrev pub creating : Part (ℕ × List (List ℕ))
creating = pair (number w32) path

-- the number of an entry, from 1, and its fields
unfoldable pub entry_text : Entry → List ℕ
entry_text (Wrote.Mkdir p) = 1 ∷ path.text p
entry_text (Wrote.Rmdir p) = 2 ∷ path.text p
entry_text (Wrote.Created file p) = 3 ∷ creating.text (file, p)
entry_text (Wrote.Closed file actor command) = 4 ∷ closing.text (file, (actor, command))
entry_text (Wrote.Aborted file) = 5 ∷ (number w32).text file
entry_text (Wrote.Removed p) = 6 ∷ path.text p
entry_text (Wrote.Renamed from to) = 7 ∷ (pair path path).text (from, to)

abbrev pub IsSpelledEntry : Entry → Type 0
IsSpelledEntry (Wrote.Mkdir p) = path.Fits p
IsSpelledEntry (Wrote.Rmdir p) = path.Fits p
IsSpelledEntry (Wrote.Created file p) = creating.Fits (file, p)
IsSpelledEntry (Wrote.Closed file actor command) = closing.Fits (file, (actor, command))
IsSpelledEntry (Wrote.Aborted file) = (number w32).Fits file
IsSpelledEntry (Wrote.Removed p) = path.Fits p
IsSpelledEntry (Wrote.Renamed from to) = (pair path path).Fits (from, to)

abbrev pub ReadsEntry : Type 0
ReadsEntry = List ℕ → Option (Entry × List ℕ)

abbrev pub reads_entry : {A : Type 0} → Part A → (A → Entry) → ReadsEntry
reads_entry part make bytes = option_map (λ front. (make front.0, front.1)) (part.read bytes)

abbrev pub entry_readers : List ReadsEntry
entry_readers =
    reads_entry path (λ p. Wrote.Mkdir p)
    ∷ reads_entry path (λ p. Wrote.Rmdir p)
    ∷ reads_entry creating (λ v. Wrote.Created v.0 v.1)
    ∷ reads_entry closing (λ v. Wrote.Closed v.0 v.1.0 v.1.1)
    ∷ reads_entry (number w32) (λ file. Wrote.Aborted file)
    ∷ reads_entry path (λ p. Wrote.Removed p)
    ∷ reads_entry (pair path path) (λ v. Wrote.Renamed v.0 v.1)
    ∷ []

unfoldable pub entry_by : Option ReadsEntry → ReadsEntry
entry_by None bytes = None
entry_by (Some read) bytes = read bytes

unfoldable pub entry_reader : ℕ → Option ReadsEntry
entry_reader zero = None
entry_reader (suc n) = slice_get entry_readers n

unfoldable pub entry_at : List ℕ → Option (Entry × List ℕ)
entry_at [] = None
entry_at (kind ∷ bytes) = entry_by (entry_reader kind) bytes

abbrev pub entry : Part Entry
entry = record { Fits = IsSpelledEntry; text = entry_text; read = entry_at }

-- ---- the whole

-- turn, clock, and the next file, lease and condemned copy
abbrev pub counters : Part (ℕ × (ℕ × (ℕ × (ℕ × ℕ))))
counters = pair (number w64) (pair (number w64) (pair (number w32) (pair (number w64) (number w64))))

-- counters and lists of a state, as they follow each other
abbrev pub state : Part MetaImage
state =
    shaped
    (λ v. record {
      turn = v.0.0;
      clock = v.0.1.0;
      next_file = v.0.1.1.0;
      next_lease = v.0.1.1.1.0;
      next_condemned = v.0.1.1.1.1;
      servers = v.1.0;
      tree = v.1.1.0;
      slots = v.1.1.1.0;
      leases = v.1.1.1.1.0;
      condemned = v.1.1.1.1.1.0;
      dropped = v.1.1.1.1.1.1.0;
      history = v.1.1.1.1.1.1.1;
    })
    (λ (m : MetaImage). (
      (m.turn, (m.clock, (m.next_file, (m.next_lease, m.next_condemned)))),
      (m.servers, (m.tree, (m.slots, (m.leases, (m.condemned, (m.dropped, m.history)))))),
    ))
    (pair counters
    (pair (listed server_view)
    (pair (listed tree_row)
    (pair (listed slot_row)
    (pair (listed lease) (pair (listed condemned_row) (pair (listed dropped_actor) (listed entry))))))))

-- an image: a state whose lists keep their orders and fit together
abbrev pub image : Part MetaImage
image = such is_image state
