-- What is left of a read when a chunk server has answered.
use Rattle.std.proofs.Common.{◌≡◌, ◌≢◌, ◌∙◌, refl, ap, sym, arith, ℕ, suc, ◌+◌, ◌-◌, ◌*◌, ◌<◌, ◌≤◌, ◌==◌, false, true, List, [], ◌∷◌, length, take, replicate, count_by, is_ok, map, Some, Err, length-append}
use Rattle.std.proofs.lemmas.Bool.Decides.{nat_tests}
use Rattle.std.proofs.lemmas.List.{take-set, get_or-set_same, length-set, map-append}
use Rattle.std.proofs.lemmas.Option.{slice_get_read}
use Rattle.std.specs.List.{slice_get, slice_set}
use Rattle.qfs_base.specs.Mask.{all_slots, insert_slot}
use Rattle.qfs_base.specs.declared.chunk.Copy.{Copy}
use Rattle.qfs_base.specs.declared.lists.Cause.{Cause}
use Rattle.qfs_base.specs.declared.reply.ChunkReply.{ChunkReply}
use Rattle.qfs_base.specs.declared.reply.MetaReply.{MetaReply}
use Rattle.qfs_base.specs.declared.reply.NodeReply.TheVariants as From
use Rattle.qfs_base.specs.declared.request.ChunkRequest.TheVariants as Serve
use Rattle.qfs_base.specs.declared.request.NodeRequest.TheVariants as To
use Rattle.qfs_model_actor.specs.Ask.{on_served, on_chunk, after_fetch, filled, fetch, key_of}
use Rattle.qfs_model_actor.specs.Hold.{unnamed}
use Rattle.qfs_model_actor.specs.Pieces.{Piece}
use Rattle.qfs_model_actor.specs.Read.{Source, Reading, are_too_few, causes_of, at_source, read_slots, with_enough, go_on_or_stop}
use Rattle.qfs_model_actor.specs.Work.{goes_on, request_in}
use Rattle.qfs_window.specs.Parts.{part_at, piece_at, pieces_of, with_piece, AreBelow, IsSameBut}
use Rattle.qfs_window.specs.Sources.{IsNext}
use Rattle.qfs_window.specs.WindowReads.{pieces_in, rest_from_slot, rest_if_filled, rest_of_read, rest_of_slots, rest_with_piece, rest_without, slot_bytes, Behind, IsAtSlot, IsReadable, WantsMore}
use Rattle.qfs_window.specs.declared.window_read.WindowRead.{WindowRead}
use Rattle.qfs_window.proofs.Slots.{insert_slot-last, AreBelow-more}
use Rattle.qfs_window.proofs.Passing.{count_ok-none, count_ok-some, enough_left}

-- the bytes of the slot are asked for
pub read-fetch : (reading : Reading) (behind : Behind) (r : WindowRead) → IsAtSlot r
    → rest_of_read reading behind r
    ≡ fetch reading.hold reading.block r.slot (r.window.first_row * reading.stripe) (slot_bytes reading.stripe r)
    (rest_with_piece reading behind r) (rest_without reading behind r) r.copy
unfolding rest_from_slot read_slots at_source rest_with_piece rest_without
read-fetch reading behind r readable =
    let wanted : 6 - length r.have ≡ suc (5 - length r.have) = omega (arith, readable.more.few) in
    let slots : 9 - r.slot ≡ suc (9 - (r.slot + 1)) = omega (arith, readable.slot) in
    rw (wanted, slots, readable.listed) refl

pub read-asks : (reading : Reading) (behind : Behind) (r : WindowRead) → IsAtSlot r
    → request_in (rest_of_read reading behind r)
    ≡ Some (To.Chunk r.copy.server
    (Serve.Fetch (key_of reading.block r.slot r.copy.version) r.copy.life (r.window.first_row * reading.stripe) (replicate (slot_bytes reading.stripe r) 0)))
unfolding fetch request_in
read-asks reading behind r readable = rw (read-fetch reading behind r readable) refl

-- what becomes of the server's answer
pub read-served : (reading : Reading) (behind : Behind) (r : WindowRead) (reply : ChunkReply) → IsAtSlot r
    → goes_on (rest_of_read reading behind r) (From.Chunk reply)
    ≡ on_served reading.hold
    (after_fetch (slot_bytes reading.stripe r) (rest_with_piece reading behind r) (rest_without reading behind r) reply.room) reply.answer
unfolding fetch goes_on on_chunk
read-served reading behind r reply readable = rw (read-fetch reading behind r readable) refl

pub read-meta : (reading : Reading) (behind : Behind) (r : WindowRead) (answer : MetaReply) → IsAtSlot r
    → unnamed ≡ goes_on (rest_of_read reading behind r) (From.Meta answer)
unfolding fetch goes_on on_chunk
read-meta reading behind r answer readable = rw (read-fetch reading behind r readable) refl

-- ---- the next slot that can be read

pub from-next : (reading : Reading) (behind : Behind) (r : WindowRead) (start slot : ℕ) (copy : Copy) → IsNext r.sources start slot copy
    → length r.have < 6 → rest_from_slot reading behind r slot ≡ rest_from_slot reading behind r start
unfolding rest_from_slot
from-next reading behind r start slot copy next few =
    let wanted : 6 - length r.have ≡ suc (5 - length r.have) = omega (arith, few) in
    rw wanted (sym (next.passed reading r.window (5 - length r.have) (pieces_in reading.stripe r) behind))

pub reads-next : (sources : List Source) (have : List ℕ) (start slot : ℕ) (copy : Copy) → WantsMore sources have start → IsNext sources start slot copy
    → IsReadable sources have slot copy
reads-next sources have start slot copy more next =
    record {
      slot = next.within;
      listed = next.listed;
      nine = next.nine;
      more =
          record {
            before = next.before ∙ more.before;
            enough = more.enough;
            few = more.few;
            below = AreBelow-more start slot have next.from more.below;
          };
    }

-- a window is read from its first slot that can be read
pub begins-window : (reading : Reading) (behind : Behind) (r : WindowRead) → r.have ≡ []
    → rest_from_slot reading behind r 0 ≡ read_slots reading r.window 6 all_slots r.sources [] behind
unfolding rest_from_slot pieces_of
begins-window reading behind r none = rw none refl

pub wants-first : (sources : List Source) → are_too_few sources ≡ false → WantsMore sources [] 0
wants-first sources enough = record { before = refl; enough = enough_left sources enough; few = omega arith; below = tt }

-- ---- a slot that failed

-- the sources without it
pub slice_get-failed : (sources : List Source) (slot : ℕ) (cause : Cause) → slot < length sources → slice_get (slice_set sources slot (Err cause)) slot ≡ Some (Err cause)
slice_get-failed sources slot cause within =
    slice_get_read (slice_set sources slot (Err cause)) (length (slice_set sources slot (Err cause))) slot (Err cause) refl (omega (arith, within, length-set sources slot (Err cause))) (sym (get_or-set_same sources slot (Err cause) (Err cause) within))

pub count-failed : (sources : List Source) (slot : ℕ) (cause : Cause) → slot < length sources
    → count_by is_ok (take (slot + 1) (slice_set sources slot (Err cause))) ≡ count_by is_ok (take slot sources)
count-failed sources slot cause within =
    count_ok-none (slice_set sources slot (Err cause)) slot cause (slice_get-failed sources slot cause within)
    ∙ ap (count_by is_ok) (take-set sources slot (Err cause))

-- too few are left
pub without-stops : (reading : Reading) (behind : Behind) (r : WindowRead) (cause : Cause) → are_too_few (slice_set r.sources r.slot (Err cause)) ≡ true
    → reading.too_few (causes_of (slice_set r.sources r.slot (Err cause))) ≡ rest_without reading behind r cause
unfolding rest_without with_enough go_on_or_stop
without-stops reading behind r cause few = rw few refl

-- enough are left
pub without-goes_on : (reading : Reading) (behind : Behind) (r : WindowRead) (cause : Cause) → length r.have < 6
    → are_too_few (slice_set r.sources r.slot (Err cause)) ≡ false
    → rest_from_slot reading behind (record r { sources = slice_set r.sources r.slot (Err cause) }) (r.slot + 1)
    ≡ rest_without reading behind r cause
unfolding rest_without with_enough go_on_or_stop rest_from_slot
without-goes_on reading behind r cause few enough =
    let wanted : 6 - length r.have ≡ suc (5 - length r.have) = omega (arith, few) in
    rw (enough, wanted) refl

pub wants-without : (sources : List Source) (have : List ℕ) (slot : ℕ) (cause : Cause) → WantsMore sources have slot → slot < length sources
    → are_too_few (slice_set sources slot (Err cause)) ≡ false → WantsMore (slice_set sources slot (Err cause)) have (slot + 1)
wants-without sources have slot cause more within enough =
    record {
      before = count-failed sources slot cause within ∙ more.before;
      enough = enough_left (slice_set sources slot (Err cause)) enough;
      few = more.few;
      below = AreBelow-more slot (slot + 1) have (omega arith) more.below;
    }

-- ---- a slot that gave its bytes

not_less : (t slot : ℕ) → t < slot → t ≢ slot
not_less t slot less same = omega (arith, less, same)

map-same : (size : ℕ) (old new : List ℕ) (slot : ℕ) (have : List ℕ) → AreBelow slot have
    → IsSameBut size slot old new → map (piece_at size new) have ≡ map (piece_at size old) have
map-same size old new slot [] below same = refl
map-same size old new slot (t ∷ have) below same =
    let other : t ≢ slot = not_less t slot below.0 in
    rw (same t other) (ap (λ more. record { slot = t; bytes = part_at size old t } ∷ more) (map-same size old new slot have below.1 same))

-- one piece more
pub pieces-put : (size slot : ℕ) (old new have bytes : List ℕ) → AreBelow slot have → part_at size new slot ≡ bytes
    → IsSameBut size slot old new
    → pieces_of size new (insert_slot slot have) ≡ with_piece (pieces_of size old have) slot bytes
unfolding pieces_of
pieces-put size slot old new have bytes below put same =
    ap (map (piece_at size new)) (insert_slot-last slot have below)
    ∙ map-append (piece_at size new) have (slot ∷ [])
    ∙ rw (map-same size old new slot have below same, put) refl

pub length-insert : (slot : ℕ) (have : List ℕ) → AreBelow slot have → length (insert_slot slot have) ≡ length have + 1
length-insert slot have below = ap length (insert_slot-last slot have below) ∙ length-append have (slot ∷ [])

-- with six pieces the window is read, and with fewer the next slots are
pub six-pieces : (reading : Reading) (behind : Behind) (r : WindowRead) (bytes : List ℕ) (pieces : List Piece) → length r.have + 1 ≡ 6
    → pieces ≡ with_piece (pieces_in reading.stripe r) r.slot bytes
    → behind r.sources pieces ≡ rest_with_piece reading behind r bytes
unfolding rest_with_piece read_slots
six-pieces reading behind r bytes pieces six more = let none : 5 - length r.have ≡ 0 = omega (arith, six) in rw (none, more) refl

pub next-piece : (reading : Reading) (behind : Behind) (r : WindowRead) (bytes : List ℕ) (count : ℕ) (pieces : List Piece) → count ≡ length r.have + 1
    → pieces ≡ with_piece (pieces_in reading.stripe r) r.slot bytes
    → rest_of_slots reading behind r (6 - count) (r.slot + 1) r.sources pieces ≡ rest_with_piece reading behind r bytes
unfolding rest_with_piece
next-piece reading behind r bytes count pieces many more =
    let wanted : 6 - count ≡ 5 - length r.have = omega (arith, many) in rw (wanted, more) refl

pub wants-behind : (sources : List Source) (have all : List ℕ) (slot : ℕ) (copy : Copy) → IsReadable sources have slot copy
    → length all ≡ length have + 1 → length all < 6 → AreBelow (slot + 1) all → WantsMore sources all (slot + 1)
wants-behind sources have all slot copy readable many few below =
    record {
      before = count_ok-some sources slot copy readable.listed ∙ ap (λ n. n + 1) readable.more.before ∙ sym many;
      enough = readable.more.enough;
      few = few;
      below = below;
    }

pub enough-few : (sources : List Source) → 6 ≤ count_by is_ok sources → are_too_few sources ≡ false
unfolding are_too_few
enough-few sources enough = grind (arith, nat_tests, enough)

pub filled-short : (reading : Reading) (behind : Behind) (r : WindowRead) (room : List ℕ) → length room ≢ slot_bytes reading.stripe r
    → unnamed ≡ rest_if_filled reading behind r room
unfolding rest_if_filled filled
filled-short reading behind r room short = let no : (length room == slot_bytes reading.stripe r) ≡ false = grind (arith, nat_tests, short) in rw no refl

pub filled-whole : (reading : Reading) (behind : Behind) (r : WindowRead) (room : List ℕ) → length room ≡ slot_bytes reading.stripe r
    → rest_with_piece reading behind r room ≡ rest_if_filled reading behind r room
unfolding rest_if_filled filled
filled-whole reading behind r room whole = let yes : (length room == slot_bytes reading.stripe r) ≡ true = grind (arith, nat_tests, whole) in rw yes refl

-- with other room nothing that was read has changed
pub other-room : (reading : Reading) (behind : Behind) (before after : WindowRead) → after ≡ record before { nine = after.nine } → before.have ≡ []
    → rest_from_slot reading behind after after.slot ≡ rest_from_slot reading behind before before.slot
unfolding rest_from_slot pieces_of
other-room reading behind before after is none = rw (is, none) refl
