-- What is left of a get when a chunk server has answered.
use Rattle.std.proofs.Common.{◌≡◌, ◌≢◌, ◌∙◌, refl, ap, sym, arith, ℕ, suc, ◌+◌, ◌-◌, ◌*◌, ◌<◌, ◌≤◌, ◌==◌, false, true, List, [], ◌∷◌, ◌++◌, length, take, count_by, is_ok, map, Some, Err, length-append}
use Rattle.std.proofs.lemmas.Bool.Decides.{nat_tests}
use Rattle.std.proofs.lemmas.List.{take-set, get_or-set_same, length-set}
use Rattle.std.proofs.lemmas.Option.{slice_get_read}
use Rattle.std.specs.List.{slice_get, slice_set}
use Rattle.qfs_base.specs.declared.chunk.Copy.{Copy}
use Rattle.qfs_base.specs.declared.lists.Cause.{Cause}
use Rattle.qfs_base.specs.declared.reply.ChunkAnswer.{ChunkAnswer}
use Rattle.qfs_base.specs.declared.reply.ChunkAnswer.TheVariants as Did
use Rattle.qfs_base.specs.declared.reply.ChunkReply.{ChunkReply}
use Rattle.qfs_base.specs.declared.reply.NodeReply.TheVariants as From
use Rattle.qfs_model_actor.specs.Ask.{on_served, on_chunk, after_fetch, filled, fetch}
use Rattle.qfs_model_actor.specs.Get.{reading_of}
use Rattle.qfs_model_actor.specs.Hold.{opened, unnamed}
use Rattle.qfs_model_actor.specs.Read.{Source, are_too_few, causes_of, at_source, read_slots, read_windows, with_enough, go_on_or_stop}
use Rattle.qfs_model_actor.specs.Pieces.{Piece}
use Rattle.qfs_model_actor.specs.Work.{Work, goes_on}
use Rattle.qfs_reader.specs.Rest.{rest_of_slots, rest_of_position, rest_of_windows, rest_from_slot, rest_with_piece, rest_if_filled, rest_without, reading_at, pieces_at, window_bytes, behind_window}
use Rattle.qfs_reader.specs.Sources.{IsNext}
use Rattle.qfs_reader.specs.ReaderState.{IsAtSlot, IsReadable, WantsMore}
use Rattle.qfs_reader.specs.declared.stage.Attempt.{Attempt}
use Rattle.qfs_reader.specs.declared.stage.Get.{Get}
use Rattle.qfs_reader.specs.declared.stage.Position.{Position}
use Rattle.std.proofs.lemmas.List.{map-append}
use Rattle.qfs_base.specs.Mask.{insert_slot}
use Rattle.qfs_reader.specs.Parts.{part_at, piece_at, pieces_of, with_piece, AreBelow, IsSameBut}
use Rattle.qfs_reader.proofs.Slots.{insert_slot-last, AreBelow-more}
use Rattle.qfs_reader.proofs.Passing.{count_ok-none, count_ok-some, enough_left}

-- the bytes of the slot are asked for
pub position-fetch : (get : Get) (attempt : Attempt) (position : Position) → IsAtSlot position
    → rest_of_position get attempt position
    ≡ fetch (opened attempt.opened.lease) (record { file = attempt.opened.file; index = position.block }) position.slot (position.window.first_row * get.layout.s) (window_bytes get.layout position.window)
    (rest_with_piece get attempt position) (rest_without get attempt position) position.copy
unfolding rest_from_slot read_slots at_source rest_with_piece rest_without reading_of
position-fetch get attempt position readable =
    let wanted : 6 - length position.have ≡ suc (5 - length position.have) = omega (arith, readable.more.few) in
    let slots : 9 - position.slot ≡ suc (9 - (position.slot + 1)) = omega (arith, readable.slot) in
    rw (wanted, slots, readable.listed) refl

-- what becomes of the server's answer
pub position-served : (get : Get) (attempt : Attempt) (position : Position) (reply : ChunkReply) → IsAtSlot position
    → goes_on (rest_of_position get attempt position) (From.Chunk reply)
    ≡ on_served (opened attempt.opened.lease)
    (after_fetch (window_bytes get.layout position.window) (rest_with_piece get attempt position) (rest_without get attempt position) reply.room) reply.answer
unfolding fetch goes_on on_chunk
position-served get attempt position reply readable = rw (position-fetch get attempt position readable) refl

-- an answer that a fetch doesn't allow
pub fetched-other : (len : ℕ) (given : List ℕ → Work) (failed : Cause → Work) (room : List ℕ) (answer : ChunkAnswer)
    → (answer ≡ Did.Fetched → ⊥) → (answer ≡ Did.Down → ⊥) → ((asked now : ℕ) → answer ≡ Did.Lost asked now → ⊥)
    → (answer ≡ Did.Absent → ⊥) → (answer ≡ Did.Fault → ⊥)
    → unnamed ≡ after_fetch len given failed room answer
unfolding after_fetch
fetched-other len given failed room Did.Fetched b c d e f = absurd (b refl)
fetched-other len given failed room Did.Down b c d e f = absurd (c refl)
fetched-other len given failed room (Did.Lost asked now) b c d e f = absurd (d asked now refl)
fetched-other len given failed room Did.Absent b c d e f = absurd (e refl)
fetched-other len given failed room Did.Fault b c d e f = absurd (f refl)
fetched-other len given failed room answer b c d e f = refl

-- ---- the next slot that can be read

pub from-next : (get : Get) (attempt : Attempt) (position : Position) (start slot : ℕ) (copy : Copy) → IsNext position.sources start slot copy
    → length position.have < 6 → rest_from_slot get attempt position slot ≡ rest_from_slot get attempt position start
unfolding rest_from_slot
from-next get attempt position start slot copy next few =
    let wanted : 6 - length position.have ≡ suc (5 - length position.have) = omega (arith, few) in
    rw wanted
    (sym (next.passed (reading_at get attempt position.block) position.window (5 - length position.have) (pieces_at get attempt position) (behind_window get attempt position attempt.got)))

pub reads-next : (sources : List Source) (have : List ℕ) (start slot : ℕ) (copy : Copy) → WantsMore sources have start → IsNext sources start slot copy
    → IsReadable sources have slot copy
reads-next sources have start slot copy more next =
    record {
      slot = next.within;
      listed = next.listed;
      nine = next.nine;
      more =
          record {
            before = next.before ∙ more.before;
            enough = more.enough;
            few = more.few;
            below = AreBelow-more start slot have next.from more.below;
          };
    }

-- a window is read from its first slot that can be read
pub begins-window : (get : Get) (attempt : Attempt) (position : Position) → position.have ≡ []
    → rest_from_slot get attempt position 0
    ≡ rest_of_windows get attempt position.block (position.window ∷ position.windows) position.sources attempt.got
unfolding rest_from_slot read_windows pieces_of
begins-window get attempt position none = rw none refl

pub wants-first : (sources : List Source) → are_too_few sources ≡ false → WantsMore sources [] 0
wants-first sources enough = record { before = refl; enough = enough_left sources enough; few = omega arith; below = tt }

-- ---- a slot that failed

-- the sources without it
pub slice_get-failed : (sources : List Source) (slot : ℕ) (cause : Cause) → slot < length sources → slice_get (slice_set sources slot (Err cause)) slot ≡ Some (Err cause)
slice_get-failed sources slot cause within =
    slice_get_read (slice_set sources slot (Err cause)) (length (slice_set sources slot (Err cause))) slot (Err cause) refl (omega (arith, within, length-set sources slot (Err cause))) (sym (get_or-set_same sources slot (Err cause) (Err cause) within))

pub count-failed : (sources : List Source) (slot : ℕ) (cause : Cause) → slot < length sources
    → count_by is_ok (take (slot + 1) (slice_set sources slot (Err cause))) ≡ count_by is_ok (take slot sources)
count-failed sources slot cause within =
    count_ok-none (slice_set sources slot (Err cause)) slot cause (slice_get-failed sources slot cause within)
    ∙ ap (count_by is_ok) (take-set sources slot (Err cause))

-- too few are left
pub without-stops : (get : Get) (attempt : Attempt) (position : Position) (cause : Cause) → are_too_few (slice_set position.sources position.slot (Err cause)) ≡ true
    → (reading_at get attempt position.block).too_few (causes_of (slice_set position.sources position.slot (Err cause))) ≡ rest_without get attempt position cause
unfolding rest_without with_enough go_on_or_stop
without-stops get attempt position cause few = rw few refl

-- enough are left
pub without-goes_on : (get : Get) (attempt : Attempt) (position : Position) (cause : Cause) → length position.have < 6
    → are_too_few (slice_set position.sources position.slot (Err cause)) ≡ false
    → rest_from_slot get attempt (record position { sources = slice_set position.sources position.slot (Err cause) }) (position.slot + 1)
    ≡ rest_without get attempt position cause
unfolding rest_without with_enough go_on_or_stop rest_from_slot
without-goes_on get attempt position cause few enough =
    let wanted : 6 - length position.have ≡ suc (5 - length position.have) = omega (arith, few) in
    rw (enough, wanted) refl

pub wants-without : (sources : List Source) (have : List ℕ) (slot : ℕ) (cause : Cause) → WantsMore sources have slot → slot < length sources
    → are_too_few (slice_set sources slot (Err cause)) ≡ false → WantsMore (slice_set sources slot (Err cause)) have (slot + 1)
wants-without sources have slot cause more within enough =
    record {
      before = count-failed sources slot cause within ∙ more.before;
      enough = enough_left (slice_set sources slot (Err cause)) enough;
      few = more.few;
      below = AreBelow-more slot (slot + 1) have (omega arith) more.below;
    }

-- ---- a slot that gave its bytes

not_less : (t slot : ℕ) → t < slot → t ≢ slot
not_less t slot less same = omega (arith, less, same)

map-same : (size : ℕ) (old new : List ℕ) (slot : ℕ) (have : List ℕ) → AreBelow slot have
    → IsSameBut size slot old new → map (piece_at size new) have ≡ map (piece_at size old) have
map-same size old new slot [] below same = refl
map-same size old new slot (t ∷ have) below same =
    let other : t ≢ slot = not_less t slot below.0 in
    rw (same t other) (ap (λ more. record { slot = t; bytes = part_at size old t } ∷ more) (map-same size old new slot have below.1 same))

-- one piece more
pub pieces-put : (size slot : ℕ) (old new have bytes : List ℕ) → AreBelow slot have → part_at size new slot ≡ bytes
    → IsSameBut size slot old new
    → pieces_of size new (insert_slot slot have) ≡ with_piece (pieces_of size old have) slot bytes
unfolding pieces_of
pieces-put size slot old new have bytes below put same =
    ap (map (piece_at size new)) (insert_slot-last slot have below)
    ∙ map-append (piece_at size new) have (slot ∷ [])
    ∙ rw (map-same size old new slot have below same, put) refl

pub length-insert : (slot : ℕ) (have : List ℕ) → AreBelow slot have → length (insert_slot slot have) ≡ length have + 1
length-insert slot have below = ap length (insert_slot-last slot have below) ∙ length-append have (slot ∷ [])

-- with six pieces the window is read, and with fewer the next slots are
pub six-pieces : (get : Get) (attempt : Attempt) (position : Position) (bytes : List ℕ) (pieces : List Piece) → length position.have + 1 ≡ 6
    → pieces ≡ with_piece (pieces_at get attempt position) position.slot bytes
    → behind_window get attempt position attempt.got position.sources pieces ≡ rest_with_piece get attempt position bytes
unfolding rest_with_piece read_slots
six-pieces get attempt position bytes pieces six more = let none : 5 - length position.have ≡ 0 = omega (arith, six) in rw (none, more) refl

pub next-piece : (get : Get) (attempt : Attempt) (position : Position) (bytes : List ℕ) (count : ℕ) (pieces : List Piece) → count ≡ length position.have + 1
    → pieces ≡ with_piece (pieces_at get attempt position) position.slot bytes
    → rest_of_slots get attempt position (6 - count) (position.slot + 1) position.sources pieces ≡ rest_with_piece get attempt position bytes
unfolding rest_with_piece
next-piece get attempt position bytes count pieces many more =
    let wanted : 6 - count ≡ 5 - length position.have = omega (arith, many) in rw (wanted, more) refl

pub wants-behind : (sources : List Source) (have all : List ℕ) (slot : ℕ) (copy : Copy) → IsReadable sources have slot copy
    → length all ≡ length have + 1 → length all < 6 → AreBelow (slot + 1) all → WantsMore sources all (slot + 1)
wants-behind sources have all slot copy readable many few below =
    record {
      before = count_ok-some sources slot copy readable.listed ∙ ap (λ n. n + 1) readable.more.before ∙ sym many;
      enough = readable.more.enough;
      few = few;
      below = below;
    }

pub enough-few : (sources : List Source) → 6 ≤ count_by is_ok sources → are_too_few sources ≡ false
unfolding are_too_few
enough-few sources enough = grind (arith, nat_tests, enough)

pub filled-short : (get : Get) (attempt : Attempt) (position : Position) (room : List ℕ) → length room ≢ window_bytes get.layout position.window
    → unnamed ≡ rest_if_filled get attempt position room
unfolding rest_if_filled filled
filled-short get attempt position room short = let no : (length room == window_bytes get.layout position.window) ≡ false = grind (arith, nat_tests, short) in rw no refl

pub filled-whole : (get : Get) (attempt : Attempt) (position : Position) (room : List ℕ) → length room ≡ window_bytes get.layout position.window
    → rest_with_piece get attempt position room ≡ rest_if_filled get attempt position room
unfolding rest_if_filled filled
filled-whole get attempt position room whole = let yes : (length room == window_bytes get.layout position.window) ≡ true = grind (arith, nat_tests, whole) in rw yes refl
