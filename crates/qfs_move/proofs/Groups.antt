-- What is left of a command that reads a copy group by group.
use Rattle.std.proofs.Common.{◌≡◌, ◌≢◌, refl, arith, ℕ, ◌+◌, ◌*◌, ◌<◌, ◌≤◌, ◌==◌, false, true, List, [], ◌++◌, length, replicate, Some}
use Rattle.std.proofs.lemmas.Bool.Decides.{nat_tests}
use Rattle.qfs_base.specs.Shape.{Shape}
use Rattle.qfs_base.specs.declared.lists.Cause.{Cause}
use Rattle.qfs_base.specs.declared.reply.ChunkAnswer.{ChunkAnswer}
use Rattle.qfs_base.specs.declared.reply.ChunkAnswer.TheVariants as Did
use Rattle.qfs_base.specs.declared.reply.ChunkReply.{ChunkReply}
use Rattle.qfs_base.specs.declared.reply.MetaReply.{MetaReply}
use Rattle.qfs_base.specs.declared.reply.NodeReply.TheVariants as From
use Rattle.qfs_base.specs.declared.request.ChunkRequest.TheVariants as Serve
use Rattle.qfs_base.specs.declared.request.NodeRequest.TheVariants as To
use Rattle.qfs_machine.specs.Asking.{node_asked}
use Rattle.qfs_model_actor.specs.Ask.{after_fetch, fetch, filled, key_of, on_chunk, on_served}
use Rattle.qfs_model_actor.specs.Hold.{granted, unnamed}
use Rattle.qfs_model_actor.specs.Move.{copy_windows}
use Rattle.qfs_model_actor.specs.Repair.{store_granted}
use Rattle.qfs_model_actor.specs.Work.{Work, goes_on, node_of_request, request_in}
use Rattle.qfs_move.specs.Rest.{rest_of_copying, rest_of_groups}
use Rattle.qfs_move.specs.Turns.{group_bytes, rest_if_filled, rest_of_failed, rest_with_group}
use Rattle.qfs_move.specs.declared.stage.Copying.{Copying}
use Rattle.qfs_repair.proofs.RowGroups.{filled-none, windows-next, windows-end}
use Rattle.qfs_repair.specs.Deliveries.{Course}
use Rattle.qfs_repair.specs.RowGroups.{filled_before}

-- ---- the bytes of a group are asked for

pub group-fetch : (layout : Shape) (course : Course) (c : Copying) → c.group * 16 < c.grant.rows
    → rest_of_copying layout course c
    ≡ fetch (granted c.grant) c.grant.block c.grant.slot (c.group * 16 * layout.s) (group_bytes layout c)
    (rest_with_group layout course c) (rest_of_failed course c) c.source
unfolding rest_of_copying rest_with_group rest_of_failed copy_windows
group-fetch layout course c more = rw (windows-next c.grant.block.index c.grant.rows c.group more) refl

pub group-asks : (layout : Shape) (course : Course) (c : Copying) → c.group * 16 < c.grant.rows
    → request_in (rest_of_copying layout course c)
    ≡ Some (To.Chunk c.source.server
    (Serve.Fetch (key_of c.grant.block c.grant.slot c.source.version) c.source.life (c.group * 16 * layout.s) (replicate (group_bytes layout c) 0)))
unfolding fetch request_in
group-asks layout course c more = rw (group-fetch layout course c more) refl

pub group-node : (layout : Shape) (course : Course) (c : Copying) → c.group * 16 < c.grant.rows
    → Some c.source.server ≡ node_asked (rest_of_copying layout course c)
unfolding node_of_request
group-node layout course c more = rw (group-asks layout course c more) refl

pub group-served : (layout : Shape) (course : Course) (c : Copying) (reply : ChunkReply) → c.group * 16 < c.grant.rows
    → goes_on (rest_of_copying layout course c) (From.Chunk reply)
    ≡ on_served (granted c.grant)
    (after_fetch (group_bytes layout c) (rest_with_group layout course c) (rest_of_failed course c) reply.room) reply.answer
unfolding fetch goes_on on_chunk
group-served layout course c reply more = rw (group-fetch layout course c more) refl

pub group-meta : (layout : Shape) (course : Course) (c : Copying) (answer : MetaReply) → c.group * 16 < c.grant.rows
    → unnamed ≡ goes_on (rest_of_copying layout course c) (From.Meta answer)
unfolding fetch goes_on on_chunk
group-meta layout course c answer more = rw (group-fetch layout course c more) refl

-- ---- a group came back

pub filled-short : (layout : Shape) (course : Course) (c : Copying) (room : List ℕ) → length room ≢ group_bytes layout c
    → unnamed ≡ rest_if_filled layout course c room
unfolding rest_if_filled filled
filled-short layout course c room short =
    let no : (length room == group_bytes layout c) ≡ false = grind (arith, nat_tests, short) in rw no refl

pub filled-whole : (layout : Shape) (course : Course) (c : Copying) (room : List ℕ) → length room ≡ group_bytes layout c
    → rest_with_group layout course c room ≡ rest_if_filled layout course c room
unfolding rest_if_filled filled
filled-whole layout course c room whole =
    let yes : (length room == group_bytes layout c) ≡ true = grind (arith, nat_tests, whole) in rw yes refl

-- an answer that a fetch doesn't allow
pub fetched-other : (len : ℕ) (given : List ℕ → Work) (failed : Cause → Work) (room : List ℕ) (answer : ChunkAnswer)
    → (answer ≡ Did.Fetched → ⊥) → (answer ≡ Did.Down → ⊥) → ((asked now : ℕ) → answer ≡ Did.Lost asked now → ⊥)
    → (answer ≡ Did.Absent → ⊥) → (answer ≡ Did.Fault → ⊥)
    → unnamed ≡ after_fetch len given failed room answer
unfolding after_fetch
fetched-other len given failed room Did.Fetched b c d e f = absurd (b refl)
fetched-other len given failed room Did.Down b c d e f = absurd (c refl)
fetched-other len given failed room (Did.Lost asked now) b c d e f = absurd (d asked now refl)
fetched-other len given failed room Did.Absent b c d e f = absurd (e refl)
fetched-other len given failed room Did.Fault b c d e f = absurd (f refl)
fetched-other len given failed room answer b c d e f = refl

-- what is left at the next group
pub next-group : (layout : Shape) (course : Course) (c after : Copying) (room : List ℕ)
    → after.grant ≡ c.grant → after.source ≡ c.source → after.group ≡ c.group + 1
    → filled_before layout.s (c.group + 1) after.chunk.items ≡ filled_before layout.s c.group c.chunk.items ++ room
    → rest_of_copying layout course after ≡ rest_with_group layout course c room
unfolding rest_of_copying rest_with_group
next-group layout course c after room grant source group got = rw (grant, source, group, got) refl

-- and behind the last one: the whole chunk is stored
pub last-group : (layout : Shape) (course : Course) (c : Copying) (room : List ℕ)
    → c.grant.rows ≤ (c.group + 1) * 16
    → store_granted (course.done c.grant) (course.failed c.grant) c.grant (filled_before layout.s c.group c.chunk.items ++ room)
    ≡ rest_with_group layout course c room
unfolding rest_with_group copy_windows
last-group layout course c room past = rw (windows-end c.grant.block.index c.grant.rows (c.group + 1) past) refl

-- with other room nothing that was read has changed
pub other-room : (layout : Shape) (course : Course) (before after : Copying) → after ≡ record before { chunk = after.chunk } → before.group ≡ 0
    → rest_of_copying layout course after ≡ rest_of_copying layout course before
unfolding rest_of_copying
other-room layout course before after is none =
    rw (is, none, filled-none layout.s after.chunk.items, filled-none layout.s before.chunk.items) refl

-- a copy is read from its first group on
pub first-group : (layout : Shape) (course : Course) (c : Copying) → c.group ≡ 0
    → rest_of_copying layout course c ≡ rest_of_groups layout course c 0 []
unfolding rest_of_copying
first-group layout course c none =
    rw (none, filled-none layout.s c.chunk.items) refl
