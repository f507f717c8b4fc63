-- What is left of a put and of a get at their stages, and what they ask there. Cited by the steps
-- of puts and gets.
use Rattle.std.proofs.Common.{◌≡◌, ◌∙◌, refl, sym, ap, arith, ℕ, suc, ◌+◌, ◌-◌, ◌*◌, ◌<◌, ◌≤◌, ◌==◌}
use Rattle.std.proofs.Common.{nat_lt, nat_le, min, true, false, Option, Some, None, Ok, Err, List}
use Rattle.std.proofs.Common.{[], ◌∷◌, ◌++◌, length, replicate}
use Rattle.std.proofs.Math.Nat.{zero-mul}
use Rattle.std.specs.Prelude.{slice_get, slice_set}
use Rattle.std.specs.List.{range_with_len}
use Rattle.std.proofs.lemmas.Bool.Decides.{nat_tests}
use Rattle.std.proofs.lemmas.List.FromFn.{get_or-range_with_len}
use Rattle.std.proofs.lemmas.Option.{slice_get-map, slice_get_read}
use Rattle.qfs_base.specs.Layout.{blocks_of}
use Rattle.qfs_base.specs.NameTree.{PathNames}
use Rattle.qfs_base.specs.Shape.{Shape}
use Rattle.qfs_base.specs.declared.chunk.Copy.{Copy}
use Rattle.qfs_base.specs.declared.command.Reply.TheVariants as Report
use Rattle.qfs_base.specs.declared.lists.Cause.{Cause}
use Rattle.qfs_base.specs.declared.reply.ChunkAnswer.TheVariants as Did
use Rattle.qfs_base.specs.declared.reply.MetaReply.TheVariants as Said
use Rattle.qfs_base.specs.declared.reply.NodeReply.TheVariants as From
use Rattle.qfs_base.specs.declared.reply.Opened.{Opened}
use Rattle.qfs_base.specs.declared.reply.TreeRefusal.{TreeRefusal}
use Rattle.qfs_base.specs.declared.request.ChunkRequest.TheVariants as Serve
use Rattle.qfs_base.specs.declared.request.MetaRequest.TheVariants as Ask
use Rattle.qfs_base.specs.declared.request.NodeRequest.TheVariants as To
use Rattle.qfs_model_slot.specs.Slot.{slot_of}
use Rattle.qfs_model_actor.specs.Ask.{ask, on_served, on_chunk, ask_server, after_store}
use Rattle.qfs_model_actor.specs.Ask.{after_fetch, filled, fetch}
use Rattle.qfs_model_actor.specs.Get.{reading_of, listed_in, read_blocks, read_if_any, read_range}
use Rattle.qfs_model_actor.specs.Get.{read_if_whole, is_whole, range_of, was_opened, attempt}
use Rattle.qfs_model_actor.specs.Get.{attempts, get_work}
use Rattle.qfs_model_actor.specs.Grants.{is_grant_of, if_meant, with_grant_of}
use Rattle.qfs_model_actor.specs.Hold.{opened, on_answer, on_meta, ask_or, was_released, give_back}
use Rattle.qfs_model_actor.specs.Hold.{end_with}
use Rattle.qfs_model_actor.specs.Pieces.{Piece}
use Rattle.qfs_model_actor.specs.Put.{slots_from, chosen, ask_grant, store, store_slot, store_slots}
use Rattle.qfs_model_actor.specs.Put.{store_blocks, closed, close_file, put_blocks_from, created}
use Rattle.qfs_model_actor.specs.Put.{put_work}
use Rattle.qfs_model_actor.specs.Read.{Source, source_of_listed, sources_of, are_too_few}
use Rattle.qfs_model_actor.specs.Read.{with_enough, go_on_or_stop, at_source, read_slots}
use Rattle.qfs_model_actor.specs.Read.{read_windows, read_block}
use Rattle.qfs_model_actor.specs.Tree.{refused}
use Rattle.qfs_model_actor.specs.Work.{Report, Work, ends, goes_on, request_in, for_each}
use Rattle.qfs_laws_first.proofs.PutGrants.{grant_on}
use Rattle.qfs_laws_first.proofs.Reading.{IsOfOneRow, blocks_of-one, blocks_touched-one}
use Rattle.qfs_laws_first.proofs.Reading.{windows_touched-one, first_row, pieces_to, pieces_to-more}
use Rattle.qfs_laws_first.proofs.Reading.{row-kept}
use Rattle.qfs_laws_first.proofs.States.{first_key, first_copy}

-- ---- a put

-- what is left before a slot is granted; slot 9 stands for the end
abbrev pub at_slot : Shape → List ℕ → ℕ → ℕ → Work
at_slot layout bytes file slot =
    store_slots layout bytes file 0 (slots_from slot) (close_file (length bytes) file)

-- what is left before a slot is stored on the server of its grant
abbrev pub at_store : Shape → List ℕ → ℕ → ℕ → ℕ → Work
at_store layout bytes file slot server =
    store layout bytes file 0 slot (at_slot layout bytes file (slot + 1))
    (store_slot 63 true layout bytes file 0 slot (at_slot layout bytes file (slot + 1)))
    (grant_on layout (length bytes) file slot server)

module _ (layout : Shape) (number : ℕ) (path : PathNames) (bytes : List ℕ) where
  pub put-asks : request_in (put_work layout number path bytes)
      ≡ Some (To.Meta (Ask.Create path number (length bytes)))
  unfolding put_work ask ask_or request_in
  put-asks = refl

  pub put-refused : (why : TreeRefusal) (place : ℕ)
      → goes_on (put_work layout number path bytes) (From.Meta (Said.Refused why place))
      ≡ ends (Report.Refused place why)
  unfolding put_work ask ask_or goes_on on_meta on_answer created refused
  put-refused why place = refl

  pub put-goes_on : (file place : ℕ) → IsOfOneRow layout (length bytes)
      → goes_on (put_work layout number path bytes) (From.Meta (Said.Created file place))
      ≡ at_slot layout bytes file 0
  unfolding put_work ask ask_or goes_on on_meta on_answer created put_blocks_from store_blocks
      for_each
  put-goes_on file place short =
      let one : blocks_of layout.s layout.r (length bytes) - 0 ≡ 1 =
      omega (arith, blocks_of-one layout (length bytes) short) in
      rw one refl

module _ (layout : Shape) (bytes : List ℕ) (file slot : ℕ) where
  slot-is : slot < 9 → at_slot layout bytes file slot
      ≡ store_slot 64 false layout bytes file 0 slot (at_slot layout bytes file (slot + 1))
  unfolding store_slots for_each
  slot-is below =
      let more : 9 - slot ≡ suc (9 - (slot + 1)) = omega arith in
      rw more refl

  pub slot-asks : slot < 9
      → request_in (at_slot layout bytes file slot) ≡ Some (To.Meta (Ask.Grant file 0 slot false))
  unfolding store_slot ask_grant ask ask_or request_in
  slot-asks below = ap request_in (slot-is below)

  pub slot-goes_on : (server : ℕ) → slot < 9
      → goes_on (at_slot layout bytes file slot)
      (From.Meta (Said.Granted (grant_on layout (length bytes) file slot server)))
      ≡ at_store layout bytes file slot server
  unfolding store_slot ask_grant ask ask_or goes_on on_meta on_answer chosen with_grant_of if_meant
      is_grant_of
  slot-goes_on server below =
      let own : (slot == slot) ≡ true = grind (arith, nat_tests) in
      ap (λ work. goes_on work
      (From.Meta (Said.Granted (grant_on layout (length bytes) file slot server))))
      (slot-is below)
      ∙ ap (if_meant (store layout bytes file 0 slot (at_slot layout bytes file (slot + 1))
      (store_slot 63 true layout bytes file 0 slot (at_slot layout bytes file (slot + 1))))
      (grant_on layout (length bytes) file slot server)) own

  pub store-asks : (server : ℕ) → request_in (at_store layout bytes file slot server)
      ≡ Some (To.Chunk server (Serve.Put (first_key file slot) 1 (slot_of layout bytes 0 slot)))
  unfolding store ask_server request_in
  store-asks server = refl

  pub store-goes_on : (server : ℕ)
      → goes_on (at_store layout bytes file slot server)
      (From.Chunk (record { answer = Did.Stored; room = [] }))
      ≡ at_slot layout bytes file (slot + 1)
  unfolding store ask_server goes_on on_chunk on_served after_store
  store-goes_on server = refl

pub close-asks : (layout : Shape) (bytes : List ℕ) (file : ℕ)
    → request_in (at_slot layout bytes file 9) ≡ Some (To.Meta (Ask.Close file))
unfolding store_slots for_each close_file ask ask_or request_in
close-asks layout bytes file = refl

pub close-ends : (layout : Shape) (bytes : List ℕ) (file place : ℕ)
    → goes_on (at_slot layout bytes file 9) (From.Meta (Said.Done place))
    ≡ ends (Report.Stored place (length bytes))
unfolding store_slots for_each close_file ask ask_or goes_on on_meta on_answer closed
close-ends layout bytes file place = refl

-- ---- a get

-- what is left of a get of one row before a slot is fetched; slot 6 stands for the end
abbrev pub row_done : Shape → (Report → Work) → Opened → List Source → List Piece → Work
row_done layout again o left pieces =
    read_windows (reading_of layout again o 0 o.len 0) [] left
    ([] ++ (reading_of layout again o 0 o.len 0).kept first_row pieces)
    (λ more. read_blocks layout again o 0 o.len [] more)

abbrev pub at_fetch : Shape → (Report → Work) → Opened → List Source → List ℕ → ℕ → Work
at_fetch layout again o sources bytes slot =
    read_slots (reading_of layout again o 0 o.len 0) first_row (6 - slot) (slots_from slot) sources
    (pieces_to layout bytes slot) (row_done layout again o)

-- how a get goes on after too few copies
abbrev pub anew : Shape → ℕ → PathNames → Report → Work
anew layout tries path = attempts (tries - 1) layout path (range_of None)

module _ (layout : Shape) (tries : ℕ) (path : PathNames) where
  pub get-asks : request_in (get_work layout tries path None) ≡ Some (To.Meta (Ask.OpenFile path))
  unfolding get_work attempt ask ask_or request_in
  get-asks = refl

  pub get-refused : (why : TreeRefusal) (place : ℕ)
      → goes_on (get_work layout tries path None) (From.Meta (Said.Refused why place))
      ≡ ends (Report.Refused place why)
  unfolding get_work attempt ask ask_or goes_on on_meta on_answer was_opened refused
  get-refused why place = refl

-- a block all of whose data slots are listed
abbrev pub ListsSlots : List (Option Copy) → Type 0
ListsSlots nine = (slot : ℕ) → slot < 6
    → (server : ℕ) × (slice_get nine slot ≡ Some (Some (first_copy server)))

six_or_more : (a b c : ℕ) → nat_lt (6 + a + b + c) 6 ≡ false
six_or_more a b c = grind (arith, nat_tests)

enough : (nine : List (Option Copy)) → ListsSlots nine → are_too_few (sources_of nine) ≡ false
unfolding are_too_few sources_of source_of_listed
enough nine listed =
    let none = (listed 0 (omega arith)).1 in
    let one = (listed 1 (omega arith)).1 in
    let two = (listed 2 (omega arith)).1 in
    let three = (listed 3 (omega arith)).1 in
    let four = (listed 4 (omega arith)).1 in
    let five = (listed 5 (omega arith)).1 in
    rw (none, one, two, three, four, five) (six_or_more _ _ _)

-- each of the nine slots stands at its number
pub place-of : (slot : ℕ) → slot < 9 → slice_get (range_with_len 0 9) slot ≡ Some slot
place-of slot below =
    let sum : 0 + slot ≡ slot = omega arith in
    slice_get_read (range_with_len 0 9) 9 slot slot refl below
    (sym (get_or-range_with_len 0 9 slot slot below ∙ sum))

pub source-at : (nine : List (Option Copy)) (slot server : ℕ) → slot < 6
    → slice_get nine slot ≡ Some (Some (first_copy server))
    → slice_get (sources_of nine) slot ≡ Some (Ok (first_copy server))
unfolding sources_of source_of_listed
source-at nine slot server within listed =
    slice_get-map (λ slot. source_of_listed (slice_get nine slot)) (range_with_len 0 9) slot
    ∙ rw (place-of slot (omega arith)) (ap (λ listed. Some (source_of_listed listed)) listed)

whole-file : (layout : Shape) (o : Opened) → IsOfOneRow layout o.len → o.len ≤ 32
    → length o.blocks ≡ 1
    → is_whole layout o ≡ true
unfolding is_whole
whole-file layout o short few one =
    let small : nat_le o.len 268435456 ≡ true = grind (arith, nat_tests) in
    rw (small, one, blocks_of-one layout o.len short) refl

pub get-goes_on : (layout : Shape) (tries : ℕ) (path : PathNames) (o : Opened) (bytes : List ℕ)
    → IsOfOneRow layout o.len → o.len ≤ 32 → length o.blocks ≡ 1 → ListsSlots (listed_in o 0)
    → goes_on (get_work layout tries path None) (From.Meta (Said.Opened o)) ≡ at_fetch layout
    (anew layout tries path) o (sources_of (listed_in o 0)) bytes 0
unfolding get_work attempt ask ask_or goes_on on_meta on_answer was_opened read_if_whole range_of
    read_range read_if_any read_blocks read_block with_enough go_on_or_stop read_windows
get-goes_on layout tries path o bytes short few one listed =
    let to : min (0 + 268435456) o.len ≡ o.len = omega arith in
    let any : nat_lt 0 o.len ≡ true = (let some = short.some in grind (arith, nat_tests)) in
    rw (
      whole-file layout o short few one,
      to,
      any,
      blocks_touched-one layout o.len short,
      windows_touched-one layout o.len short,
      enough (listed_in o 0) listed,
    ) refl

module _ (layout : Shape) (again : Report → Work) (o : Opened) (sources : List Source)
    (bytes : List ℕ) (slot server : ℕ)
    (below : slot < 6) (listed : slice_get sources slot ≡ Some (Ok (first_copy server))) where
  -- what is left once the slot is fetched
  abbrev fetched : List ℕ → Work
  fetched room =
      read_slots (reading_of layout again o 0 o.len 0) first_row (6 - (slot + 1))
      (slots_from (slot + 1)) sources
      (pieces_to layout bytes slot ++ record { slot = slot; bytes = room } ∷ [])
      (row_done layout again o)

  abbrev failed : Cause → Work
  failed cause =
      with_enough (reading_of layout again o 0 o.len 0)
      (λ left. read_slots (reading_of layout again o 0 o.len 0) first_row (suc (6 - (slot + 1)))
      (slots_from (slot + 1)) left (pieces_to layout bytes slot) (row_done layout again o))
      (slice_set sources slot (Err cause))

  fetch-is : at_fetch layout again o sources bytes slot
      ≡ fetch (opened o.lease) (record { file = o.file; index = 0 }) slot (0 * layout.s)
      (1 * layout.s) fetched failed (first_copy server)
  unfolding read_slots at_source reading_of
  fetch-is =
      let wanted : 6 - slot ≡ suc (6 - (slot + 1)) = omega arith in
      let slots : 9 - slot ≡ suc (9 - (slot + 1)) = omega arith in
      rw (wanted, slots, listed) refl

  pub fetch-asks : request_in (at_fetch layout again o sources bytes slot)
      ≡ Some (To.Chunk server (Serve.Fetch (first_key o.file slot) 1 0 (replicate layout.s 0)))
  unfolding fetch request_in
  fetch-asks =
      let none : 0 * layout.s ≡ 0 = zero-mul layout.s in
      let one : 1 * layout.s ≡ layout.s = omega arith in
      ap request_in fetch-is ∙ rw (none, one) refl

  pub fetch-goes_on : (room : List ℕ) → room ≡ slot_of layout bytes 0 slot → length room ≡ layout.s
      → goes_on (at_fetch layout again o sources bytes slot)
      (From.Chunk (record { answer = Did.Fetched; room = room })) ≡ at_fetch layout again o sources
      bytes (slot + 1)
  unfolding fetch goes_on on_chunk on_served after_fetch filled
  fetch-goes_on room same long =
      let full : (length room == 1 * layout.s) ≡ true = grind (arith, nat_tests) in
      ap (λ work. goes_on work (From.Chunk (record { answer = Did.Fetched; room = room }))) fetch-is
      ∙ rw full refl
      ∙ ap (λ room. fetched room) same
      ∙ ap (λ pieces. read_slots (reading_of layout again o 0 o.len 0) first_row (6 - (slot + 1))
      (slots_from (slot + 1)) sources pieces (row_done layout again o))
      (pieces_to-more layout bytes slot)

module _ (layout : Shape) (again : Report → Work) (o : Opened) (sources : List Source)
    (bytes : List ℕ) (short : IsOfOneRow layout (length bytes)) (len : o.len ≡ length bytes) where
  row-is : (reading_of layout again o 0 o.len 0).kept first_row (pieces_to layout bytes 6) ≡ bytes
  unfolding reading_of
  row-is = rw len (row-kept layout bytes short)

  end-is : at_fetch layout again o sources bytes 6 ≡ end_with (opened o.lease)
      (Report.Read o.place bytes)
  unfolding read_slots read_windows read_blocks
  end-is = ap (λ got. end_with (opened o.lease) (Report.Read o.place got)) row-is

  pub release-asks : request_in (at_fetch layout again o sources bytes 6)
      ≡ Some (To.Meta (Ask.Release o.lease))
  unfolding end_with give_back ask_or request_in
  release-asks = ap request_in end-is

  pub release-done : (place : ℕ)
      → goes_on (at_fetch layout again o sources bytes 6) (From.Meta (Said.Done place))
      ≡ ends (Report.Read o.place bytes)
  unfolding end_with give_back ask_or goes_on on_meta on_answer was_released
  release-done place = ap (λ work. goes_on work (From.Meta (Said.Done place))) end-is

  pub release-gone : goes_on (at_fetch layout again o sources bytes 6) (From.Meta Said.Gone)
      ≡ ends (Report.Read o.place bytes)
  unfolding end_with give_back ask_or goes_on on_meta on_answer was_released
  release-gone = ap (λ work. goes_on work (From.Meta Said.Gone)) end-is
