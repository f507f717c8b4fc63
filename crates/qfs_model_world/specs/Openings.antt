-- The attempts of a get: it opens its file, reads, and releases it. Where it found too few copies it may open it anew.
use Rattle.std.specs.Prelude.{◌≡◌, ℕ, ◌-◌, ◌+◌, ◌<◌, ◌&&◌, not, Bool, true, false, List, take, drop, slice_get, Some, IsTrue}
use Rattle.std.specs.List.{list_any}
use Rattle.qfs_base.specs.declared.reply.MetaReply.TheVariants as Told
use Rattle.qfs_base.specs.declared.reply.NodeReply.TheVariants as From
use Rattle.qfs_base.specs.declared.reply.Opened.{Opened}
use Rattle.qfs_base.specs.declared.request.MetaRequest.TheVariants as Ask
use Rattle.qfs_base.specs.declared.request.NodeRequest.{NodeRequest}
use Rattle.qfs_base.specs.declared.request.NodeRequest.TheVariants as To
use Rattle.qfs_model_world.specs.Events.{Event, is_step_of}

-- whether a request opens a file, and whether it ends a lease
unfoldable pub asks_open : NodeRequest → Bool
asks_open (To.Meta (Ask.OpenFile path)) = true
asks_open request = false

unfoldable pub is_release : NodeRequest → Bool
is_release (To.Meta (Ask.Release lease)) = true
is_release request = false

-- step i of these is one of the command, in which a file was opened for it
pub record OpensAt (steps : List Event) (actor number i : ℕ) (o : Opened) : Type 0 where
  pub event : Event
  pub at : slice_get steps i ≡ Some event
  pub own : IsTrue (is_step_of actor number event)
  pub opened : event.reply ≡ From.Meta (Told.Opened o)

-- step j is one of the command, in which it asked for its lease to end
pub record ReleasesAt (steps : List Event) (actor number j : ℕ) : Type 0 where
  pub event : Event
  pub at : slice_get steps j ≡ Some event
  pub own : IsTrue (is_step_of actor number event)
  pub release : IsTrue (is_release event.request)

-- whether a step is one of a command that asks to open a file
unfoldable pub opens_anew : ℕ → ℕ → Event → Bool
opens_anew actor number event = is_step_of actor number event && asks_open event.request

-- an attempt: a command opened its file at step i and released it at step j, and asked for no file in between
pub record IsOpening (steps : List Event) (actor number i j : ℕ) (o : Opened) : Type 0 where
  pub opens : OpensAt steps actor number i o
  pub releases : ReleasesAt steps actor number j
  pub later : i < j
  pub alone : IsTrue (not (list_any (opens_anew actor number) (take (j - i) (drop (i + 1) steps))))

-- it asked for no file behind step j
abbrev pub IsLastOpening : List Event → ℕ → ℕ → ℕ → Type 0
IsLastOpening steps actor number j = IsTrue (not (list_any (opens_anew actor number) (drop (j + 1) steps)))
