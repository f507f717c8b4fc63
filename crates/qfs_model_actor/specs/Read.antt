-- Reading a block from any six of its nine slots, window by window.
use Rattle.std.specs.Prelude.{ℕ, zero, suc, ◌*◌, Bool, true, false, List, [], ◌∷◌, ◌++◌, map, Option, Some, None, Result, Ok, Err, slice_get, slice_set, count_by, filter_map, is_ok, nat_lt}
use Rattle.std.specs.List.{enumerate_from}
use Rattle.qfs_base.specs.declared.chunk.BlockId.{BlockId}
use Rattle.qfs_base.specs.declared.chunk.Copy.{Copy}
use Rattle.qfs_base.specs.declared.lists.Cause.{Cause}
use Rattle.qfs_base.specs.declared.lists.Cause.TheVariants as Because
use Rattle.qfs_base.specs.declared.lists.SlotCause.{SlotCause}
use Rattle.qfs_base.specs.Mask.{all_slots}
use Rattle.qfs_base.specs.Sizes.{DATA_SLOTS}
use Rattle.qfs_model_actor.specs.Work.{Work}
use Rattle.qfs_model_actor.specs.Hold.{Hold}
use Rattle.qfs_model_actor.specs.Ask.{fetch}
use Rattle.qfs_model_actor.specs.Pieces.{Piece}
use Rattle.qfs_base.specs.declared.layout.Window.{Window}

-- where a slot can be read, or why it can't
abbrev pub Source : Type 0
Source = Result Copy Cause

-- a slot is read where it is listed
unfoldable pub source_of_listed : Option (Option Copy) → Source
source_of_listed (Some (Some copy)) = Ok copy
source_of_listed (Some None) = Err Because.Unlisted
source_of_listed None = Err Because.Unlisted

-- the sources of a block by slot, as its copies are listed
unfoldable pub sources_of : List (Option Copy) → List Source
sources_of nine = map (λ slot. source_of_listed (slice_get nine slot)) all_slots

-- why a slot can't be read, if it can't
unfoldable pub cause_at : ℕ → Source → Option SlotCause
cause_at slot (Ok copy) = None
cause_at slot (Err cause) = Some (record { slot = slot; cause = cause })

-- each slot that can't be read, in order, with its cause
unfoldable pub causes_of : List Source → List SlotCause
causes_of sources = filter_map (λ (slot, source). cause_at slot source) (enumerate_from 0 sources)

-- whether too few slots are left to read the block
unfoldable pub are_too_few : List Source → Bool
are_too_few sources = nat_lt (count_by is_ok sources) DATA_SLOTS

-- a block that is read: for whom, in which stripes, what is kept of the six pieces of a window, and what comes where
-- too few slots are left
pub record Reading : Type 0 where
  pub hold : Hold
  pub block : BlockId
  pub stripe : ℕ
  pub kept : Window → List Piece → List ℕ
  pub too_few : List SlotCause → Work

-- goes on with these sources unless they are too few
unfoldable pub go_on_or_stop : Reading → (List Source → Work) → List Source → Bool → Work
go_on_or_stop reading next sources true = reading.too_few (causes_of sources)
go_on_or_stop reading next sources false = next sources

unfoldable pub with_enough : Reading → (List Source → Work) → List Source → Work
with_enough reading next sources = go_on_or_stop reading next sources (are_too_few sources)

-- reads a slot where it can be read, and passes over it else
unfoldable pub at_source : (Cause → Work) → (Copy → Work) → Option Source → Work
at_source passed read (Some (Ok copy)) = read copy
at_source passed read (Some (Err cause)) = passed cause
at_source passed read None = passed Because.Unlisted

-- asks for the rows of a window from one slot after another, until so many more have answered
unfoldable pub read_slots : Reading → Window → ℕ → List ℕ → List Source → List Piece → (List Source → List Piece → Work) → Work
read_slots reading w zero slots sources pieces next = next sources pieces
read_slots reading w (suc wanted) [] sources pieces next = next sources pieces
read_slots reading w (suc wanted) (slot ∷ slots) sources pieces next =
    at_source
    (λ cause. read_slots reading w (suc wanted) slots sources pieces next)
    (fetch reading.hold reading.block slot (w.first_row * reading.stripe) (w.rows * reading.stripe)
    (λ room. read_slots reading w wanted slots sources (pieces ++ record { slot = slot; bytes = room } ∷ []) next)
    (λ cause. with_enough reading
    (λ left. read_slots reading w (suc wanted) slots left pieces next)
    (slice_set sources slot (Err cause))))
    (slice_get sources slot)

-- reads these windows one after another, and keeps of each what is wanted
unfoldable pub read_windows : Reading → List Window → List Source → List ℕ → (List ℕ → Work) → Work
read_windows reading [] sources got next = next got
read_windows reading (w ∷ windows) sources got next =
    read_slots reading w DATA_SLOTS all_slots sources []
    (λ left pieces. read_windows reading windows left (got ++ reading.kept w pieces) next)

-- reads these windows of a block whose copies are listed so
unfoldable pub read_block : Reading → List Window → List (Option Copy) → List ℕ → (List ℕ → Work) → Work
read_block reading windows nine got next =
    with_enough reading (λ sources. read_windows reading windows sources got next) (sources_of nine)
