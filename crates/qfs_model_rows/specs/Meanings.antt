-- What some worked runs are by the definitions of gets, deletions, drawn orders and the file history.
use Rattle.std.specs.Prelude.{◌≡◌, ℕ, Bool, true, false, List, [], ◌∷◌, ◌++◌, map, filter_map, slice_get, codes, nat_eq, replicate, Option, Some, None}
use Rattle.std.specs.Option.{option_and_then}
use Rattle.std.specs.Cmp.Lexicographic.{pointwise}
use Rattle.std.specs.List.{list_all}
use Rattle.qfs_base.specs.declared.chunk.ChunkKey.{ChunkKey}
use Rattle.qfs_base.specs.declared.command.Command.{Command}
use Rattle.qfs_base.specs.declared.command.Command.TheVariants as Does
use Rattle.qfs_base.specs.declared.command.FileCommand.TheVariants as File
use Rattle.qfs_base.specs.declared.command.Reply.TheVariants as Says
use Rattle.qfs_base.specs.declared.history.Entry.{Entry}
use Rattle.qfs_base.specs.declared.history.Entry.TheVariants as Wrote
use Rattle.qfs_base.specs.declared.history.Step.{Step}
use Rattle.qfs_base.specs.declared.reply.Granted.{Granted}
use Rattle.qfs_base.specs.declared.reply.MetaReply.TheVariants as Told
use Rattle.qfs_base.specs.declared.reply.NodeReply.{NodeReply}
use Rattle.qfs_base.specs.declared.reply.NodeReply.TheVariants as From
use Rattle.qfs_base.specs.declared.reply.Opened.{Opened}
use Rattle.qfs_base.specs.declared.script.Script.{Script}
use Rattle.qfs_model_actor.specs.Work.{Report}
use Rattle.qfs_model_meta.specs.Holding.{Holding}
use Rattle.qfs_model_meta.specs.Past.{SlotCopy}
use Rattle.qfs_model_server.specs.Chunk.{Chunk}
use Rattle.qfs_model_server.specs.Server.{Server}
use Rattle.qfs_model_world.specs.Agrees.{Agrees}
use Rattle.qfs_model_world.specs.Deletion.{deleted_in}
use Rattle.qfs_model_world.specs.Drawn.{is_drawn}
use Rattle.qfs_model_world.specs.Events.{Event, events}
use Rattle.qfs_model_world.specs.FileHistory.{IsHistoryOf}
use Rattle.qfs_model_world.specs.HeldBlock.{is_held}
use Rattle.qfs_model_world.specs.Made.{made, right_bytes}
use Rattle.qfs_model_world.specs.Puts.{command_of}
use Rattle.qfs_model_world.specs.Reports.{IsPlaced}
use Rattle.qfs_model_world.specs.World.{after}
use Rattle.qfs_model_promises.specs.Heard.{holding_of}
use Rattle.qfs_model_rows.specs.Failures.{degraded, stopped_in_get, stopping_order, put_and_get, three_fail, four_fail}
use Rattle.qfs_model_rows.specs.Refusals.{put_anew, anew_order}
use Rattle.qfs_model_rows.specs.Repairs.{moved_in_get, moving_order}
use Rattle.qfs_model_rows.specs.Scripts.{path_of, path_a, small_script, steps}

-- ---- held blocks

-- whether the first block of a get is held that opens its file at step i and releases it at step j
unfoldable pub opened_in : NodeReply → Option Opened
opened_in (From.Meta (Told.Opened o)) = Some o
opened_in reply = None

unfoldable pub held_if_open : List Event → ℕ → ℕ → ℕ → Option Opened → Bool
held_if_open all number i j None = false
held_if_open all number i j (Some o) = is_held all 1 number i j o 0

unfoldable pub holds_first_block : List Event → ℕ → ℕ → ℕ → Bool
holds_first_block all number i j =
    held_if_open all number i j (option_and_then (λ (event : Event). opened_in event.reply) (slice_get all i))

-- three servers were down before: six copies are readable at the opening. Three fetches fail, and a fourth. Four servers go down
-- while the file is open: the block was held at the first opening, and isn't at the second one
pub record HeldBlocks : Type 0 where
  pub degraded_get : holds_first_block (events degraded (steps 1 34)) 5 26 33 ≡ true
  pub three_fetches_fail : holds_first_block (events put_and_get three_fail) 2 20 30 ≡ true
  pub four_fetches_fail : holds_first_block (events put_and_get four_fail) 2 20 30 ≡ false
  pub first_opening : holds_first_block (events stopped_in_get stopping_order) 2 20 38 ≡ true
  pub second_opening : holds_first_block (events stopped_in_get stopping_order) 2 39 40 ≡ false

-- ---- drawn orders

-- three actors with two commands each; the generator's first words for 1 are 2465586874, 3293950484, 1197569663, 1514799282,
-- 2902157936 and 2695391902
abbrev pub mkdirs : List ℕ → List ℕ → List Command
mkdirs first second = Does.File (File.Mkdir (path_of first)) ∷ Does.File (File.Mkdir (path_of second)) ∷ []

abbrev pub three_actors : Script
three_actors =
    small_script 1 (
    mkdirs (codes "a") (codes "b") ∷ mkdirs (codes "c") (codes "d") ∷ mkdirs (codes "e") (codes "f") ∷ [])

pub record DrawnOrders : Type 0 where
  pub three_actors_drawn : is_drawn 1 three_actors (steps 2 1 ++ steps 3 2 ++ steps 1 2 ++ steps 2 1) ≡ true
  pub other_order : is_drawn 1 three_actors (steps 2 1 ++ steps 3 1 ++ steps 2 1 ++ steps 3 1 ++ steps 1 2) ≡ false
  pub one_actor : is_drawn 1 put_and_get (steps 1 28) ≡ true

-- ---- deletions

-- a copy that was moved away is ordered deleted and erased, after the get's release; no other is
abbrev pub first_copy : SlotCopy
first_copy = record {
  block = record { file = 1; index = 0 };
  slot = 0;
  copy = record { server = 1; life = 1; version = 1 };
}

pub record Deletions : Type 0 where
  pub moved : filter_map deleted_in (events moved_in_get moving_order) ≡ first_copy ∷ first_copy ∷ []

-- ---- the file history

-- a path is removed and put anew during a get: every reply agrees with the one history
abbrev pub anew_history : List Entry
anew_history =
    Wrote.Created 1 path_a
    ∷ Wrote.Closed 1 1 1
    ∷ Wrote.Removed path_a
    ∷ Wrote.Created 2 path_a
    ∷ Wrote.Closed 2 2 2
    ∷ []

-- a reply agrees with this history
abbrev pub AgreesAnew : ℕ → ℕ → Report → Type 0
AgreesAnew actor number report =
    Agrees put_anew (events put_anew anew_order) anew_history actor number report (command_of put_anew actor number)

pub record AgreeingReplies : Type 0 where
  pub written : (after put_anew anew_order).meta.history ≡ anew_history
  pub legal : IsHistoryOf put_anew anew_history
  pub first_put : AgreesAnew 1 1 (Says.Stored 1 1)
  pub first_get : AgreesAnew 1 2 (Says.Read 2 (1 ∷ []))
  pub remove_done : AgreesAnew 2 1 (Says.Done 2)
  pub second_put : AgreesAnew 2 2 (Says.Stored 4 1)
  pub second_get : AgreesAnew 2 3 (Says.Read 5 (2 ∷ []))
  pub get_place : IsPlaced (events put_anew anew_order) 1 2 (Says.Read 2 (1 ∷ []))

-- ---- in the midst of a run

-- a get has read one chunk, and a move was granted: each holds its lease, and the move its grant; all copies are right
abbrev pub midst : List Step
midst = steps 1 21 ++ steps 2 1 ++ steps 1 1

abbrev pub moving_grant : Granted
moving_grant = record {
  block = record { file = 1; index = 0 };
  slot = 0;
  version = 2;
  server = 10;
  life = 1;
  lease = 2;
  sources = Some (record { server = 1; life = 1; version = 1 }) ∷ replicate 8 None;
  rows = 1;
}

abbrev pub both_holdings : List Holding
both_holdings =
    record { file = None; lease = Some (record { lease = 1; actor = 1; file = 1 }); grants = [] }
    ∷ record { file = None; lease = Some (record { lease = 2; actor = 2; file = 1 }); grants = moving_grant ∷ [] }
    ∷ []

-- whether all copies on a server are right
unfoldable pub are_right : (ℕ → List ℕ) → Server → Bool
are_right bytes server =
    list_all
    (λ (copy : ChunkKey × Chunk). pointwise nat_eq copy.1.bytes (right_bytes moved_in_get.layout bytes copy.0))
    server.copies

pub record InTheMidst : Type 0 where
  pub holdings : map holding_of (after moved_in_get midst).actors ≡ both_holdings
  pub right : list_all (are_right (made moved_in_get (events moved_in_get midst))) (after moved_in_get midst).servers ≡ true
