-- The record of a request in the log: its length, who asked, which request it was, and the request's fields in order.
use Rattle.std.specs.Prelude.{ℕ, ⊤, ◌<◌, ◌^◌, zero, suc, Bool, List, [], ◌∷◌, length, slice_get, Option, Some, None}
use Rattle.std.specs.Option.{option_and_then, option_map}
use Rattle.std.specs.Int.{w16, w32, w64}
use Rattle.qfs_base.specs.declared.chunk.BlockId.{BlockId}
use Rattle.qfs_base.specs.declared.chunk.ChunkKey.{ChunkKey}
use Rattle.qfs_base.specs.declared.request.MetaRequest.{MetaRequest}
use Rattle.qfs_base.specs.declared.request.MetaRequest.TheVariants as Ask
use Rattle.qfs_model_disks.specs.Values.{file_length, from_one, path, slot_id}
use Rattle.qfs_model_meta.specs.Step.{Logged}
use Rattle.qfs_record.specs.ChunkRecord.{block, chunk_key, slot}
use Rattle.qfs_record.specs.Part.{Part, counted, flag, listed, number, optional, pair}

-- ---- the fields of requests

abbrev pub paths : Part (List (List ℕ) × List (List ℕ))
paths = pair path path

-- path, command and length of a Create
abbrev pub creating : Part (List (List ℕ) × (ℕ × ℕ))
creating = pair path (pair (number w16) file_length)

-- file, index, slot and whether it is asked again
abbrev pub granting : Part (BlockId × (ℕ × Bool))
granting = pair block (pair slot flag)

-- path, index and slot of a recovery; of a move the server too
abbrev pub recovering : Part (List (List ℕ) × (ℕ × ℕ))
recovering = pair path (pair (number w32) slot)

abbrev pub moving : Part (List (List ℕ) × (ℕ × (ℕ × ℕ)))
moving = pair path (pair (number w32) (pair slot from_one))

-- block, slot, version and lease of what ends a recovery or move
abbrev pub settling : Part (BlockId × (ℕ × (ℕ × ℕ)))
settling = pair block (pair slot (pair (number w32) (number w64)))

-- a server, its life and its keys
abbrev pub greeting : Part (ℕ × (ℕ × List ChunkKey))
greeting = pair from_one (pair (number w32) (listed chunk_key))

-- ---- writing

-- the number of a logged request, and its fields
unfoldable pub request_text : MetaRequest → List ℕ
request_text (Ask.Mkdir p) = 1 ∷ path.text p
request_text (Ask.Rmdir p) = 2 ∷ path.text p
request_text (Ask.Remove p) = 3 ∷ path.text p
request_text (Ask.Rename from to) = 4 ∷ paths.text (from, to)
request_text (Ask.Create p command len) = 5 ∷ creating.text (p, (command, len))
request_text (Ask.Grant file index s again) = 6 ∷ granting.text (record { file = file; index = index }, (s, again))
request_text (Ask.Close file) = 7 ∷ (number w32).text file
request_text (Ask.Abort file) = 8 ∷ (number w32).text file
request_text (Ask.OpenFile p) = 9 ∷ path.text p
request_text (Ask.Release lease) = 10 ∷ (number w64).text lease
request_text (Ask.RecoverAt p index s) = 11 ∷ recovering.text (p, (index, s))
request_text (Ask.HealNext after) = 12 ∷ (optional slot_id).text after
request_text (Ask.MoveAt p index s to) = 13 ∷ moving.text (p, (index, (s, to)))
request_text (Ask.EvacNext server after) = 14 ∷ (pair from_one (optional slot_id)).text (server, after)
request_text Ask.BalanceNext = 15 ∷ []
request_text (Ask.Confirm b s version lease) = 16 ∷ settling.text (b, (s, (version, lease)))
request_text (Ask.Abandon b s version lease) = 17 ∷ settling.text (b, (s, (version, lease)))
request_text (Ask.OrderNext after) = 18 ∷ (number w64).text after
request_text (Ask.Swept condemned) = 19 ∷ (number w64).text condemned
request_text (Ask.Hello server life keys) = 20 ∷ greeting.text (server, (life, keys))
request_text (Ask.Bye server) = 21 ∷ from_one.text server
request_text (Ask.Leave server) = 22 ∷ from_one.text server
request_text (Ask.Hibernate server ticks) = 23 ∷ (pair from_one (number w32)).text (server, ticks)
request_text Ask.Tick = 24 ∷ []
request_text (Ask.Drop actor) = 25 ∷ from_one.text actor
request_text other = []

-- which requests a log spells: those that are logged, with their numbers in their widths and ranges
abbrev pub IsSpelledRequest : MetaRequest → Type 0
IsSpelledRequest (Ask.Mkdir p) = path.Fits p
IsSpelledRequest (Ask.Rmdir p) = path.Fits p
IsSpelledRequest (Ask.Remove p) = path.Fits p
IsSpelledRequest (Ask.Rename from to) = paths.Fits (from, to)
IsSpelledRequest (Ask.Create p command len) = creating.Fits (p, (command, len))
IsSpelledRequest (Ask.Grant file index s again) = granting.Fits (record { file = file; index = index }, (s, again))
IsSpelledRequest (Ask.Close file) = (number w32).Fits file
IsSpelledRequest (Ask.Abort file) = (number w32).Fits file
IsSpelledRequest (Ask.OpenFile p) = path.Fits p
IsSpelledRequest (Ask.Release lease) = (number w64).Fits lease
IsSpelledRequest (Ask.RecoverAt p index s) = recovering.Fits (p, (index, s))
IsSpelledRequest (Ask.HealNext after) = (optional slot_id).Fits after
IsSpelledRequest (Ask.MoveAt p index s to) = moving.Fits (p, (index, (s, to)))
IsSpelledRequest (Ask.EvacNext server after) = (pair from_one (optional slot_id)).Fits (server, after)
IsSpelledRequest Ask.BalanceNext = ⊤
IsSpelledRequest (Ask.Confirm b s version lease) = settling.Fits (b, (s, (version, lease)))
IsSpelledRequest (Ask.Abandon b s version lease) = settling.Fits (b, (s, (version, lease)))
IsSpelledRequest (Ask.OrderNext after) = (number w64).Fits after
IsSpelledRequest (Ask.Swept condemned) = (number w64).Fits condemned
IsSpelledRequest (Ask.Hello server life keys) = greeting.Fits (server, (life, keys))
IsSpelledRequest (Ask.Bye server) = from_one.Fits server
IsSpelledRequest (Ask.Leave server) = from_one.Fits server
IsSpelledRequest (Ask.Hibernate server ticks) = (pair from_one (number w32)).Fits (server, ticks)
IsSpelledRequest Ask.Tick = ⊤
IsSpelledRequest (Ask.Drop actor) = from_one.Fits actor
IsSpelledRequest other = ⊥

-- ---- reading

-- reads the fields of one kind of request
abbrev pub Reads : Type 0
Reads = List ℕ → Option (MetaRequest × List ℕ)

abbrev pub reads : {A : Type 0} → Part A → (A → MetaRequest) → Reads
reads part make bytes = option_map (λ front. (make front.0, front.1)) (part.read bytes)

-- a request without fields
abbrev pub reads_none : MetaRequest → Reads
reads_none request bytes = Some (request, bytes)

-- how the fields of each request are read, by its number from 1
abbrev pub readers : List Reads
readers =
    reads path (λ p. Ask.Mkdir p)
    ∷ reads path (λ p. Ask.Rmdir p)
    ∷ reads path (λ p. Ask.Remove p)
    ∷ reads paths (λ v. Ask.Rename v.0 v.1)
    ∷ reads creating (λ v. Ask.Create v.0 v.1.0 v.1.1)
    ∷ reads granting (λ v. Ask.Grant v.0.file v.0.index v.1.0 v.1.1)
    ∷ reads (number w32) (λ file. Ask.Close file)
    ∷ reads (number w32) (λ file. Ask.Abort file)
    ∷ reads path (λ p. Ask.OpenFile p)
    ∷ reads (number w64) (λ lease. Ask.Release lease)
    ∷ reads recovering (λ v. Ask.RecoverAt v.0 v.1.0 v.1.1)
    ∷ reads (optional slot_id) (λ after. Ask.HealNext after)
    ∷ reads moving (λ v. Ask.MoveAt v.0 v.1.0 v.1.1.0 v.1.1.1)
    ∷ reads (pair from_one (optional slot_id)) (λ v. Ask.EvacNext v.0 v.1)
    ∷ reads_none Ask.BalanceNext
    ∷ reads settling (λ v. Ask.Confirm v.0 v.1.0 v.1.1.0 v.1.1.1)
    ∷ reads settling (λ v. Ask.Abandon v.0 v.1.0 v.1.1.0 v.1.1.1)
    ∷ reads (number w64) (λ after. Ask.OrderNext after)
    ∷ reads (number w64) (λ condemned. Ask.Swept condemned)
    ∷ reads greeting (λ v. Ask.Hello v.0 v.1.0 v.1.1)
    ∷ reads from_one (λ server. Ask.Bye server)
    ∷ reads from_one (λ server. Ask.Leave server)
    ∷ reads (pair from_one (number w32)) (λ v. Ask.Hibernate v.0 v.1)
    ∷ reads_none Ask.Tick
    ∷ reads from_one (λ actor. Ask.Drop actor)
    ∷ []

-- the request of a number, from 1 to 25
unfoldable pub fields_at : Option Reads → Reads
fields_at None bytes = None
fields_at (Some read) bytes = read bytes

unfoldable pub numbered_reader : ℕ → Option Reads
numbered_reader zero = None
numbered_reader (suc n) = slice_get readers n

unfoldable pub request_at : List ℕ → Option (MetaRequest × List ℕ)
request_at [] = None
request_at (kind ∷ bytes) = fields_at (numbered_reader kind) bytes

abbrev pub request : Part MetaRequest
request = record { Fits = IsSpelledRequest; text = request_text; read = request_at }

-- ---- the record

-- who asked, and the request
abbrev pub log_body : Part Logged
log_body = pair from_one request

-- a body has no byte left over
unfoldable pub whole_body : Option (Logged × List ℕ) → Option Logged
whole_body None = None
whole_body (Some (logged, [])) = Some logged
whole_body (Some (logged, byte ∷ bytes)) = None

-- the log record at the front: the length of the body, and the body
unfoldable pub log_record_at : List ℕ → Option (Logged × List ℕ)
log_record_at bytes =
    option_and_then
    (λ body. option_map (λ logged. (logged, body.1)) (whole_body (log_body.read body.0)))
    ((counted w32).read bytes)

-- a record's body is one of a logged request, and its length is in 32 bits
pub record IsLogRecord (logged : Logged) : Type 0 where
  pub body : log_body.Fits logged
  pub short : length (log_body.text logged) < 2 ^ 32

abbrev pub log_record : Part Logged
log_record =
    record { Fits = IsLogRecord; text = λ logged. (counted w32).text (log_body.text logged); read = log_record_at }
