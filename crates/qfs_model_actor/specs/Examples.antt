-- A file of five bytes that is put and read again, exchange by exchange, as one works it out by eye.
use Rattle.std.specs.Prelude.{◌≡◌, ℕ, ◌+◌, false, List, [], ◌∷◌, ◌++◌, map, Option, Some, None, replicate}
use Rattle.std.specs.List.{range_with_len}
use Rattle.qfs_base.specs.declared.chunk.BlockId.{BlockId}
use Rattle.qfs_base.specs.declared.chunk.ChunkKey.{ChunkKey}
use Rattle.qfs_base.specs.declared.chunk.Copy.{Copy}
use Rattle.qfs_base.specs.declared.command.Command.{Command}
use Rattle.qfs_base.specs.declared.command.Command.TheVariants as Does
use Rattle.qfs_base.specs.declared.command.FileCommand.TheVariants as File
use Rattle.qfs_base.specs.declared.command.Reply.TheVariants as Report
use Rattle.qfs_base.specs.declared.lists.Cause.TheVariants as Because
use Rattle.qfs_base.specs.declared.recipe.Form.TheVariants as Of
use Rattle.qfs_base.specs.declared.reply.ChunkAnswer.{ChunkAnswer}
use Rattle.qfs_base.specs.declared.reply.ChunkAnswer.TheVariants as Did
use Rattle.qfs_base.specs.declared.reply.MetaReply.{MetaReply}
use Rattle.qfs_base.specs.declared.reply.MetaReply.TheVariants as Said
use Rattle.qfs_base.specs.declared.reply.NodeReply.{NodeReply}
use Rattle.qfs_base.specs.declared.reply.NodeReply.TheVariants as From
use Rattle.qfs_base.specs.declared.reply.TreeRefusal.TheVariants as Why
use Rattle.qfs_base.specs.declared.request.ChunkRequest.{ChunkRequest}
use Rattle.qfs_base.specs.declared.request.ChunkRequest.TheVariants as Serve
use Rattle.qfs_base.specs.declared.request.MetaRequest.{MetaRequest}
use Rattle.qfs_base.specs.declared.request.MetaRequest.TheVariants as Ask
use Rattle.qfs_base.specs.declared.request.NodeRequest.{NodeRequest}
use Rattle.qfs_base.specs.declared.request.NodeRequest.TheVariants as To
use Rattle.qfs_base.specs.declared.rules.Rules.{Rules}
use Rattle.qfs_model_actor.specs.Work.{Report, Work, ends, asked, follow}
use Rattle.qfs_model_actor.specs.Command.{work_of}
use Rattle.qfs_model_actor.specs.Actor.{starting, after_replies}

-- a request with its answer
pub record Exchange : Type 0 where
  pub request : NodeRequest
  pub reply : NodeReply

abbrev pub replies_of : List Exchange → List NodeReply
replies_of exchanges = map (λ (e : Exchange). e.reply) exchanges

-- the work asks these requests, answered so, and then ends with this report
pub record Goes (work : Work) (exchanges : List Exchange) (report : Report) : Type 0 where
  pub requests : asked work (replies_of exchanges) ≡ map (λ (e : Exchange). e.request) exchanges
  pub end : follow work (replies_of exchanges) ≡ ends report

-- stripes of 16 bytes and chunks of at most 2 rows; leases last, and a get opens its file so often at most
abbrev pub small_with : ℕ → Rules
small_with tries = record { layout = record { s = 16; r = 2 }; term = 0; tries = tries }

abbrev pub small : Rules
small = small_with 1

-- /a, its five bytes, and the bytes of a chunk that holds nothing
abbrev pub path_a : List (List ℕ)
path_a = (97 ∷ []) ∷ []

abbrev pub five : List ℕ
five = 1 ∷ 2 ∷ 3 ∷ 4 ∷ 5 ∷ []

abbrev pub zeros : List ℕ
zeros = replicate 16 0

-- all five bytes stand in slot 0. The other data slots are zero, so each parity slot is as slot 0
abbrev pub with_five : List ℕ
with_five = five ++ replicate 11 0

-- an exchange with the metaserver, and with a chunk server
abbrev pub meta : MetaRequest → MetaReply → Exchange
meta request answer = record { request = To.Meta request; reply = From.Meta answer }

abbrev pub serve : ℕ → ChunkRequest → ChunkAnswer → List ℕ → Exchange
serve server request answer room =
    record { request = To.Chunk server request; reply = From.Chunk (record { answer = answer; room = room }) }

-- the file is number 1 and has one block, and slot j stands on server j + 1 in version 1 and life 1
abbrev pub block : BlockId
block = record { file = 1; index = 0 }

abbrev pub key : ℕ → ChunkKey
key slot = record { block = block; slot = slot; version = 1 }

-- a slot is granted and stored
abbrev pub stores : ℕ → List ℕ → List Exchange
stores slot chunk =
    meta (Ask.Grant 1 0 slot false)
    (Said.Granted (record { block = block; slot = slot; version = 1; server = slot + 1; life = 1; lease = 0; sources = replicate 9 None; rows = 1 }))
    ∷ serve (slot + 1) (Serve.Put (key slot) 1 chunk) Did.Stored []
    ∷ []

-- a slot is fetched, or its server answers otherwise
abbrev pub fetches : ℕ → ChunkAnswer → List ℕ → Exchange
fetches slot answer room = serve (slot + 1) (Serve.Fetch (key slot) 1 0 zeros) answer room

-- the file is put at an empty history: 20 requests
abbrev pub put_exchanges : List Exchange
put_exchanges =
    meta (Ask.Create path_a 1 5) (Said.Created 1 0)
    ∷ stores 0 with_five ++ stores 1 zeros ++ stores 2 zeros ++ stores 3 zeros ++ stores 4 zeros ++ stores 5 zeros
    ++ stores 6 with_five ++ stores 7 with_five ++ stores 8 with_five
    ++ meta (Ask.Close 1) (Said.Done 1) ∷ []

-- each slot is listed
abbrev pub listed : List (Option Copy)
listed = map (λ server. Some (record { server = server; life = 1; version = 1 })) (range_with_len 1 9)

-- the file is opened under a lease, which is released in the end
abbrev pub opens : Exchange
opens =
    meta (Ask.OpenFile path_a)
    (Said.Opened (record { lease = 1; place = 2; file = 1; len = 5; blocks = listed ∷ [] }))

abbrev pub releases : Exchange
releases = meta (Ask.Release 1) (Said.Done 2)

-- the file is read from its data slots: 8 requests
abbrev pub get_exchanges : List Exchange
get_exchanges =
    opens
    ∷ fetches 0 Did.Fetched with_five
    ∷ fetches 1 Did.Fetched zeros
    ∷ fetches 2 Did.Fetched zeros
    ∷ fetches 3 Did.Fetched zeros
    ∷ fetches 4 Did.Fetched zeros
    ∷ fetches 5 Did.Fetched zeros
    ∷ releases ∷ []

-- servers 1 and 2 are down, and slots 6 and 7 stand in for theirs
abbrev pub degraded_exchanges : List Exchange
degraded_exchanges =
    opens
    ∷ fetches 0 Did.Down zeros
    ∷ fetches 1 Did.Down zeros
    ∷ fetches 2 Did.Fetched zeros
    ∷ fetches 3 Did.Fetched zeros
    ∷ fetches 4 Did.Fetched zeros
    ∷ fetches 5 Did.Fetched zeros
    ∷ fetches 6 Did.Fetched with_five
    ∷ fetches 7 Did.Fetched with_five
    ∷ releases ∷ []

-- servers 1, 4, 8 and 9 are down, and so too few slots answer
abbrev pub too_few_exchanges : List Exchange
too_few_exchanges =
    opens
    ∷ fetches 0 Did.Down zeros
    ∷ fetches 1 Did.Fetched zeros
    ∷ fetches 2 Did.Fetched zeros
    ∷ fetches 3 Did.Down zeros
    ∷ fetches 4 Did.Fetched zeros
    ∷ fetches 5 Did.Fetched zeros
    ∷ fetches 6 Did.Fetched with_five
    ∷ fetches 7 Did.Down zeros
    ∷ fetches 8 Did.Down zeros
    ∷ releases ∷ []

-- the file is opened once more, under the next lease, and is read
abbrev pub opens_again : Exchange
opens_again =
    meta (Ask.OpenFile path_a)
    (Said.Opened (record { lease = 2; place = 2; file = 1; len = 5; blocks = listed ∷ [] }))

abbrev pub second_exchanges : List Exchange
second_exchanges =
    opens_again
    ∷ fetches 0 Did.Fetched with_five
    ∷ fetches 1 Did.Fetched zeros
    ∷ fetches 2 Did.Fetched zeros
    ∷ fetches 3 Did.Fetched zeros
    ∷ fetches 4 Did.Fetched zeros
    ∷ fetches 5 Did.Fetched zeros
    ∷ meta (Ask.Release 2) (Said.Done 2) ∷ []

-- or it is gone by then
abbrev pub finds_it_gone : Exchange
finds_it_gone = meta (Ask.OpenFile path_a) (Said.Refused Why.Missing 3)

abbrev pub put_command : Command
put_command = Does.File (File.Put path_a (Of.Hex five))

abbrev pub get_command : Command
get_command = Does.File (File.Get path_a None)

-- a put and a get
pub record FileIsPutAndRead : Type 0 where
  pub put_goes : Goes (work_of small 1 put_command) put_exchanges (Report.Stored 1 5)
  pub get_goes : Goes (work_of small 2 get_command) get_exchanges (Report.Read 2 five)

-- a get that makes two data slots anew
abbrev pub DegradedGet : Type 0
DegradedGet = Goes (work_of small 2 get_command) degraded_exchanges (Report.Read 2 five)

-- a get that fails
abbrev pub TooFewAnswer : Type 0
TooFewAnswer =
    Goes (work_of small 2 get_command) too_few_exchanges
    (Report.ReadTooFew 2 0
    (record { slot = 0; cause = Because.Down }
    ∷ record { slot = 3; cause = Because.Down }
    ∷ record { slot = 7; cause = Because.Down }
    ∷ record { slot = 8; cause = Because.Down }
    ∷ []))

-- a get that may open its file twice: it reads behind its second opening, or ends with what that one answers
pub record SecondOpening : Type 0 where
  pub reads : Goes (work_of (small_with 2) 2 get_command) (too_few_exchanges ++ second_exchanges) (Report.Read 2 five)
  pub is_refused : Goes (work_of (small_with 2) 2 get_command) (too_few_exchanges ++ finds_it_gone ∷ []) (Report.Refused 3 Why.Missing)

-- an actor with both commands, after all its replies
abbrev pub both : List Command
both = put_command ∷ get_command ∷ []

abbrev pub ActorEnds : Type 0
ActorEnds =
    after_replies (starting small 1 both) (replies_of (put_exchanges ++ get_exchanges))
    ≡ record { number = 1; rules = small; commands = both; ended = Report.Stored 1 5 ∷ Report.Read 2 five ∷ []; heard = [] }
