-- How the world of one actor stands: between two commands, in a put and in a get. Cited by the
-- steps of puts and gets.
use Rattle.std.proofs.Common.{◌≡◌, ℕ, ◌+◌, ◌*◌, ◌<◌, ◌≤◌, true, false, List, [], length, replicate}
use Rattle.std.proofs.Common.{Some, None}
use Rattle.qfs_base.specs.NameTree.{PathNames}
use Rattle.qfs_base.specs.Shape.{Shape}
use Rattle.qfs_base.specs.Table.{Each}
use Rattle.qfs_base.specs.declared.chunk.BlockId.{BlockId}
use Rattle.qfs_base.specs.declared.chunk.ChunkKey.{ChunkKey}
use Rattle.qfs_base.specs.declared.chunk.Copy.{Copy}
use Rattle.qfs_base.specs.declared.history.Entry.{Entry}
use Rattle.qfs_base.specs.declared.image.DroppedActor.{DroppedActor}
use Rattle.qfs_base.specs.declared.image.MetaImage.{MetaImage}
use Rattle.qfs_base.specs.declared.image.ServerView.{ServerView}
use Rattle.qfs_base.specs.declared.image.SlotRecord.{SlotRecord}
use Rattle.qfs_base.specs.declared.image.SlotRow.{SlotRow}
use Rattle.qfs_base.specs.declared.image.TreeRow.{TreeRow}
use Rattle.qfs_base.specs.declared.script.Script.{Script}
use Rattle.qfs_model_meta.specs.PutRequests.{lacks_grant}
use Rattle.qfs_model_meta.specs.Slots.{slot_id, never_granted, is_of_file, slot_at, grants_of_block}
use Rattle.qfs_model_meta.specs.Step.{first_server}
use Rattle.qfs_model_meta.specs.TreeRows.{file_row, has_file, unclosed_file}
use Rattle.qfs_model_server.specs.Server.{Server}
use Rattle.qfs_model_slot.specs.Slot.{slot_of}
use Rattle.qfs_model_world.specs.FileHistory.{created_path}
use Rattle.qfs_model_world.specs.Puts.{put_path, puts_of}
use Rattle.qfs_laws_first.proofs.Histories.{Written}
use Rattle.qfs_laws_first.proofs.MetaSteps.{IsFew}
use Rattle.qfs_laws_first.proofs.Servers.{AreUp, first_chunk, stored_at}

-- ---- copies

-- the one block of a file, the first version of a slot of it, and that version on a server in its
-- first life
abbrev pub first_block : ℕ → BlockId
first_block file = record { file = file; index = 0 }

abbrev pub first_key : ℕ → ℕ → ChunkKey
first_key file slot = record { block = first_block file; slot = slot; version = 1 }

abbrev pub first_copy : ℕ → Copy
first_copy server = record { server = server; life = 1; version = 1 }

-- a slot that was granted once, on this server
abbrev pub granted_once : ℕ → SlotRecord
granted_once server =
    record {
      next = 2;
      current = None;
      grant =
          Some (record { copy = first_copy server; actor = 1; lease = 0 });
      failed = [];
    }

-- the current copy of a slot is on a server, and has these bytes
pub record HasCurrent (n : ℕ) (servers : List Server) (slots : List SlotRow) (file slot : ℕ)
    (bytes : List ℕ) : Type 0 where
  pub server : ℕ
  pub first : 1 ≤ server
  pub last : server ≤ n
  pub current : (slot_at slots (first_block file) slot).current ≡ Some (first_copy server)
  pub stored : stored_at servers server (first_key file slot) ≡ Some (first_chunk bytes)

-- a slot is granted on a server, which stores these bytes where the flag says so
pub record IsGranted (n : ℕ) (servers : List Server) (slots : List SlotRow) (file slot : ℕ)
    (bytes : List ℕ) (is_stored : Type 0) : Type 0 where
  pub server : ℕ
  pub first : 1 ≤ server
  pub last : server ≤ n
  pub granted : slot_at slots (first_block file) slot ≡ granted_once server
  pub stored : is_stored → stored_at servers server (first_key file slot) ≡ Some (first_chunk bytes)

-- ---- files

-- a file of 1 to 32 bytes whose nine slots are stored
pub record IsFile (layout : Shape) (n : ℕ) (servers : List Server) (slots : List SlotRow)
    (file len : ℕ) (bytes : List ℕ) : Type 0 where
  pub length_is : len ≡ length bytes
  pub some : 1 ≤ length bytes
  pub most : length bytes ≤ 32
  pub copies : (slot : ℕ) → slot < 9
      → HasCurrent n servers slots file slot (slot_of layout bytes 0 slot)

-- a row of the tree is a file with a number below the next one, and whole where it is closed
pub record IsRow (script : Script) (servers : List Server) (slots : List SlotRow) (next_file : ℕ)
    (row : TreeRow) : Type 0 where
  pub above : 1 ≤ row.file
  pub below : row.file < next_file
  pub whole : row.closed ≡ true → IsFile script.layout script.servers servers slots row.file row.len
      (puts_of script row.actor row.command)

-- ---- the world

-- no server has a copy of a file to come
abbrev pub NoneToCome : List Server → ℕ → Type 0
NoneToCome servers next_file = (server : ℕ) (key : ChunkKey) → next_file ≤ key.block.file
    → stored_at servers server key ≡ None

-- what holds between any two steps, where so many commands have ended: the counters are at most
-- `most`
pub record IsSteady (script : Script) (servers : List Server) (views : List ServerView)
    (dropped : List DroppedActor) (next_file next_lease next_condemned : ℕ)
    (history : List Entry) (tree : List TreeRow) (slots : List SlotRow) (commands most : ℕ) : Type 0
  where
    pub as_first : views ≡ replicate script.servers first_server
    pub none_dropped : dropped ≡ []
    pub up : AreUp script.servers servers
    pub few : IsFew most next_file next_lease next_condemned (length history)
    pub written : Written script history tree next_file commands
    pub rows : Each (IsRow script servers slots next_file) tree
    pub slots_below : Each (λ (row : SlotRow). row.block.file < next_file) slots
    pub none_to_come : NoneToCome servers next_file

abbrev pub Steady : Script → List Server → MetaImage → ℕ → ℕ → Type 0
Steady script servers m commands most =
    IsSteady script servers m.servers m.dropped m.next_file m.next_lease m.next_condemned m.history
    m.tree m.slots commands most

-- between two commands
abbrev pub Between : Script → List Server → MetaImage → ℕ → Type 0
Between script servers m commands = Steady script servers m commands (2 * commands + 1)

-- in a command, which has one lease or entry more
abbrev pub Within : Script → List Server → MetaImage → ℕ → Type 0
Within script servers m commands = Steady script servers m commands (2 * commands + 2)

-- what a put is about: its file, and where and what it writes
pub record Target : Type 0 where
  pub file : ℕ
  pub path : PathNames
  pub bytes : List ℕ

-- the row of its file
abbrev pub target_row : ℕ → Target → TreeRow
target_row commands t = file_row t.path t.file 1 (commands + 1) (length t.bytes)

-- the unclosed file of a put is the last one, and the put is that of the script
pub record IsTarget (script : Script) (next_file : ℕ) (history : List Entry) (tree : List TreeRow)
    (commands : ℕ) (t : Target) : Type 0 where
  pub above : 1 ≤ t.file
  pub next : next_file ≡ t.file + 1
  pub created : created_path t.file history ≡ Some t.path
  pub path_is : put_path script 1 (commands + 1) ≡ Some t.path
  pub bytes_are : puts_of script 1 (commands + 1) ≡ t.bytes
  pub some : 1 ≤ length t.bytes
  pub most : length t.bytes ≤ 32
  pub own : Each (λ (row : TreeRow). has_file t.file row ≡ true → row ≡ target_row commands t) tree
  pub unclosed : unclosed_file 1 t.file tree ≡ Some (target_row commands t)

-- in a put of a file: so many slots are granted, and so many are stored
pub record InPut (script : Script) (servers : List Server) (m : MetaImage) (commands : ℕ)
    (t : Target) (granted stored : ℕ) : Type 0 where
  pub steady : Within script servers m commands
  pub target : IsTarget script m.next_file m.history m.tree commands t
  pub grants : (slot : ℕ) → slot < granted
      → IsGranted script.servers servers m.slots t.file slot (slot_of script.layout t.bytes 0 slot)
      (slot < stored)
  pub ungranted : (slot : ℕ) → granted ≤ slot
      → slot_at m.slots (first_block t.file) slot ≡ never_granted
  pub all_granted : Each (λ (row : SlotRow). is_of_file t.file row ≡ true
      → lacks_grant m.slots (slot_id row) ≡ false) m.slots
  pub few_grants : length (grants_of_block (first_block t.file) m.slots) ≤ granted
  pub unstored : (server slot : ℕ) → stored ≤ slot
      → stored_at servers server (first_key t.file slot) ≡ None
