-- A get asks only requests of gets. For the law that puts and gets delete nothing.
use Rattle.std.proofs.Common.{ℕ, zero, suc, ◌-◌, ◌++◌, Bool, true, false, List, [], ◌∷◌, Option}
use Rattle.std.proofs.Common.{Some, None, Ok, Err, slice_get, slice_set}
use Rattle.qfs_base.specs.Shape.{Shape}
use Rattle.qfs_base.specs.declared.chunk.Copy.{Copy}
use Rattle.qfs_base.specs.declared.command.Range.{Range}
use Rattle.qfs_base.specs.declared.layout.Window.{Window}
use Rattle.qfs_base.specs.declared.lists.Cause.{Cause}
use Rattle.qfs_base.specs.declared.lists.SlotCause.{SlotCause}
use Rattle.qfs_base.specs.declared.reply.MetaReply.{MetaReply}
use Rattle.qfs_base.specs.declared.reply.MetaReply.TheVariants as Said
use Rattle.qfs_base.specs.declared.reply.Opened.{Opened}
use Rattle.qfs_base.specs.Mask.{all_slots}
use Rattle.qfs_base.specs.Sizes.{DATA_SLOTS}
use Rattle.qfs_model_actor.specs.Work.{Report, Work}
use Rattle.qfs_model_actor.specs.Hold.{nothing, opened}
use Rattle.qfs_model_actor.specs.Pieces.{Piece}
use Rattle.qfs_base.specs.Layout.{blocks_touched, windows_touched}
use Rattle.qfs_model_actor.specs.Read.{Source, Reading, go_on_or_stop, with_enough, are_too_few}
use Rattle.qfs_model_actor.specs.Read.{at_source, read_slots, read_windows, read_block, sources_of}
use Rattle.qfs_model_actor.specs.Get.{reading_of, listed_in, read_blocks, read_if_any, read_range}
use Rattle.qfs_model_actor.specs.Get.{read_if_whole, is_whole, was_opened, attempt, attempts}
use Rattle.qfs_model_actor.specs.Get.{range_of, get_work}
use Rattle.qfs_laws_first.specs.Asks.{AsksOfFiles}
use Rattle.qfs_laws_first.proofs.Asks.{IsOfFile, ask-asks, give_back-asks, end_with-asks}
use Rattle.qfs_laws_first.proofs.Asks.{fetch-asks, refused-asks}

with_enough-asks : (reading : Reading) (next : List Source → Work)
    → ((causes : List SlotCause) → AsksOfFiles (reading.too_few causes))
    → ((left : List Source) → AsksOfFiles (next left)) → (sources : List Source)
    → AsksOfFiles (with_enough reading next sources)
unfolding with_enough go_on_or_stop
with_enough-asks reading next t h sources = choice (are_too_few sources)
  where
    choice : (b : Bool) → AsksOfFiles (go_on_or_stop reading next sources b)
    choice true = t _
    choice false = h sources

at_source-asks : (passed : Cause → Work) (read : Copy → Work)
    → ((c : Cause) → AsksOfFiles (passed c))
    → ((copy : Copy) → AsksOfFiles (read copy)) → (source : Option Source)
    → AsksOfFiles (at_source passed read source)
unfolding at_source
at_source-asks passed read p r (Some (Ok copy)) = r copy
at_source-asks passed read p r (Some (Err cause)) = p cause
at_source-asks passed read p r None = p _

module _ (reading : Reading) (held : IsOfFile reading.hold) (t : (causes : List SlotCause)
    → AsksOfFiles (reading.too_few causes)) where
  read_slots-asks : (w : Window) (next : List Source → List Piece → Work)
      → ((left : List Source) (pieces : List Piece) → AsksOfFiles (next left pieces))
      → (wanted : ℕ) (slots : List ℕ) (sources : List Source) (pieces : List Piece)
      → AsksOfFiles (read_slots reading w wanted slots sources pieces next)
  unfolding read_slots
  read_slots-asks w next h zero slots sources pieces = h sources pieces
  read_slots-asks w next h (suc wanted) [] sources pieces = h sources pieces
  read_slots-asks w next h (suc wanted) (slot ∷ slots) sources pieces =
      at_source-asks _ _
      (λ cause. read_slots-asks w next h (suc wanted) slots sources pieces)
      (fetch-asks reading.hold reading.block slot _ _ _ _ held
      (λ room. read_slots-asks w next h wanted slots sources
      (pieces ++ record { slot = slot; bytes = room } ∷ []))
      (λ cause. with_enough-asks reading
      (λ left. read_slots reading w (suc wanted) slots left pieces next) t
      (λ left. read_slots-asks w next h (suc wanted) slots left pieces)
      (slice_set sources slot (Err cause))))
      (slice_get sources slot)

  read_windows-asks : (next : List ℕ → Work) → ((got : List ℕ) → AsksOfFiles (next got))
      → (windows : List Window) (sources : List Source) (got : List ℕ)
      → AsksOfFiles (read_windows reading windows sources got next)
  unfolding read_windows
  read_windows-asks next h [] sources got = h got
  read_windows-asks next h (w ∷ windows) sources got =
      read_slots-asks w _ (λ left pieces. read_windows-asks next h windows left
      (got ++ reading.kept w pieces)) DATA_SLOTS all_slots sources []

  read_block-asks : (windows : List Window) (nine : List (Option Copy)) (got : List ℕ)
      (next : List ℕ → Work)
      → ((more : List ℕ) → AsksOfFiles (next more))
      → AsksOfFiles (read_block reading windows nine got next)
  unfolding read_block
  read_block-asks windows nine got next h =
      with_enough-asks reading _ t (λ sources. read_windows-asks next h windows sources got)
      (sources_of nine)

-- what a get does behind its opening, where it goes on so after too few copies
module _ (layout : Shape) (again : Report → Work) (a : (r : Report) → AsksOfFiles (again r)) where
  read_blocks-asks : (o : Opened) (from to : ℕ) (blocks got : List ℕ)
      → AsksOfFiles (read_blocks layout again o from to blocks got)
  unfolding read_blocks reading_of
  read_blocks-asks o from to [] got = end_with-asks (opened o.lease) tt _
  read_blocks-asks o from to (k ∷ ks) got =
      read_block-asks (reading_of layout again o from to k) tt
      (λ causes. give_back-asks _ (opened o.lease) tt (a _))
      (windows_touched layout.s layout.r from to k) (listed_in o k) got _
      (λ more. read_blocks-asks o from to ks more)

  read_if_any-asks : (o : Opened) (from to : ℕ) (b : Bool)
      → AsksOfFiles (read_if_any layout again o from to b)
  unfolding read_if_any
  read_if_any-asks o from to true =
      read_blocks-asks o from to (blocks_touched layout.s layout.r from to) []
  read_if_any-asks o from to false = end_with-asks (opened o.lease) tt _

  read_if_whole-asks : (range : Range) (o : Opened) (b : Bool)
      → AsksOfFiles (read_if_whole layout again range o b)
  unfolding read_if_whole read_range
  read_if_whole-asks range o true = read_if_any-asks o range.from _ _
  read_if_whole-asks range o false = tt

  was_opened-asks : (range : Range) (answer : MetaReply)
      → AsksOfFiles (was_opened layout again range answer)
  unfolding was_opened
  was_opened-asks range (Said.Opened o) = read_if_whole-asks range o (is_whole layout o)
  was_opened-asks range answer = refused-asks answer

  attempt-asks : (path : List (List ℕ)) (range : Range)
      → AsksOfFiles (attempt layout again path range)
  unfolding attempt
  attempt-asks path range =
      ask-asks nothing _ (was_opened layout again range) tt tt (was_opened-asks range)

attempts-asks : (more : ℕ) (layout : Shape) (path : List (List ℕ)) (range : Range) (r : Report)
    → AsksOfFiles (attempts more layout path range r)
unfolding attempts
attempts-asks zero layout path range r = tt
attempts-asks (suc more) layout path range r =
    attempt-asks layout (attempts more layout path range) (attempts-asks more layout path range)
    path range

pub get_work-asks : (layout : Shape) (tries : ℕ) (path : List (List ℕ)) (range : Option Range)
    → AsksOfFiles (get_work layout tries path range)
unfolding get_work
get_work-asks layout tries path range =
    attempt-asks layout _ (attempts-asks (tries - 1) layout path (range_of range)) path
    (range_of range)
