-- The front that was read tells the head.
use Rattle.std.proofs.Common.{◌≡◌, ◌⊎◌, ◌<◌, false, inl, inr, sym, ◌∙◌, arith}
use Rattle.qfs_record.specs.ChunkRecord.{begins_second}
use Rattle.qfs_store.proofs.ReadLaws.{first_was_read, second_was_read}
use Rattle.qfs_store.proofs.starting.head_under.Goals.{then-not-is_second-via-then-not-is_second, then-not-is_second-via-else-not-is_second+then-chunk}
use Rattle.qfs_store.proofs.starting.head_under.Goals as goal

pub returns-then-not-is_second-clause-read : goal.returns-then-not-is_second-clause-read
returns-then-not-is_second-clause-read g c held told_is =
    let which : (begins_second c.read.new.out ≡ false) ⊎ (c.args.chunk.now.size < 25) = elim c.then-not-is_second.branch [
      | then-not-is_second-via-then-not-is_second w ↦ inl (sym c.is_second.ensures ∙ w.if-not-is_second.true)
      | then-not-is_second-via-else-not-is_second+then-chunk w ↦ inr (let less = w.if-chunk.true in omega arith)
    ] in
    rw c.read_head.ensures.head (first_was_read held _ _ c.args.chunk.now c.read.new.out told_is (c.requires.readable held told_is) c.requires.long c.in_ok-read.ensures.handed c.in_ok-read.ensures.bytes c.read_head.ensures.bytes which)

pub returns-clause-read : goal.returns-clause-read
returns-clause-read g c held told_is =
    rw c.read_head-2.ensures.head
    (second_was_read held _ _ _ c.args.chunk.now c.read.new.out c.read-2.new.out c.joined.result told_is (c.requires.readable held told_is) (let more = c.if-chunk.false in omega arith)
    c.in_ok-read.ensures.handed c.in_ok-read.ensures.bytes c.in_ok-read-2.ensures.handed c.in_ok-read-2.ensures.bytes c.joined.ensures c.read_head-2.ensures.bytes (sym c.is_second.ensures ∙ c.if-not-is_second.false))
