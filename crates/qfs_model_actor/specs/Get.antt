-- A get: OpenFile; the Fetches of its range; Release. The lease is released where the command ends early. Where a block
-- has too few copies that can be read, the get opens its path again, as long as it has attempts left, and begins anew.
use Rattle.std.specs.Prelude.{ℕ, zero, suc, ◌+◌, ◌-◌, ◌==◌, ◌&&◌, Bool, true, false, List, [], ◌∷◌, min, length, Option, Some, None, slice_get, unwrap_or, nat_le, nat_lt}
use Rattle.qfs_base.specs.Layout.{blocks_of, blocks_touched, windows_touched}
use Rattle.qfs_base.specs.Shape.{Shape}
use Rattle.qfs_base.specs.Sizes.{MOST_FILE_BYTES}
use Rattle.qfs_base.specs.declared.chunk.Copy.{Copy}
use Rattle.qfs_base.specs.declared.command.Range.{Range}
use Rattle.qfs_base.specs.declared.command.Reply.TheVariants as Report
use Rattle.qfs_base.specs.declared.reply.MetaReply.{MetaReply}
use Rattle.qfs_base.specs.declared.reply.MetaReply.TheVariants as Said
use Rattle.qfs_base.specs.declared.reply.Opened.{Opened}
use Rattle.qfs_base.specs.declared.request.MetaRequest.TheVariants as Ask
use Rattle.qfs_model_actor.specs.Work.{Report, Work, ends}
use Rattle.qfs_model_actor.specs.Hold.{nothing, opened, unnamed, give_back, end_with}
use Rattle.qfs_model_actor.specs.Ask.{ask}
use Rattle.qfs_model_actor.specs.Tree.{refused}
use Rattle.qfs_model_actor.specs.Pieces.{data_of, rows_of_file}
use Rattle.qfs_model_actor.specs.Windows.{window_offset, cut_to_range}
use Rattle.qfs_model_actor.specs.Read.{Reading, read_block}

-- what a get reads of block k, for the bytes from `from` up to `to` of its file. Where too few slots are left it gives
-- its lease back and goes on as `again` says of the report that it would end with
unfoldable pub reading_of : Shape → (Report → Work) → Opened → ℕ → ℕ → ℕ → Reading
reading_of layout again o from to k =
    record {
      hold = opened o.lease;
      block = record { file = o.file; index = k };
      stripe = layout.s;
      kept = λ w pieces. cut_to_range from to (window_offset layout w) (rows_of_file layout.s w.rows (data_of pieces));
      too_few = λ causes. give_back (again (Report.ReadTooFew o.place k causes)) (opened o.lease);
    }

-- the listed copies of block k
abbrev pub listed_in : Opened → ℕ → List (Option Copy)
listed_in o k = unwrap_or (slice_get o.blocks k) []

-- reads these blocks behind the bytes that it has got
unfoldable pub read_blocks : Shape → (Report → Work) → Opened → ℕ → ℕ → List ℕ → List ℕ → Work
read_blocks layout again o from to [] got = end_with (opened o.lease) (Report.Read o.place got)
read_blocks layout again o from to (k ∷ ks) got =
    read_block (reading_of layout again o from to k) (windows_touched layout.s layout.r from to k) (listed_in o k) got
    (λ more. read_blocks layout again o from to ks more)

-- reads the bytes from `from` up to `to`, of which there is one where the flag says so
unfoldable pub read_if_any : Shape → (Report → Work) → Opened → ℕ → ℕ → Bool → Work
read_if_any layout again o from to true =
    read_blocks layout again o from to (blocks_touched layout.s layout.r from to) []
read_if_any layout again o from to false = end_with (opened o.lease) (Report.Read o.place [])

-- reads a range, cut at the file's end
unfoldable pub read_range : Shape → (Report → Work) → Opened → Range → Work
read_range layout again o range =
    let to = min (range.from + range.count) o.len in read_if_any layout again o range.from to (nat_lt range.from to)

-- a file's length is in its range, and each of its blocks has its list
unfoldable pub is_whole : Shape → Opened → Bool
is_whole layout o = nat_le o.len MOST_FILE_BYTES && length o.blocks == blocks_of layout.s layout.r o.len

unfoldable pub read_if_whole : Shape → (Report → Work) → Range → Opened → Bool → Work
read_if_whole layout again range o true = read_range layout again o range
read_if_whole layout again range o false = unnamed

-- the file is open
unfoldable pub was_opened : Shape → (Report → Work) → Range → MetaReply → Work
was_opened layout again range (Said.Opened o) = read_if_whole layout again range o (is_whole layout o)
was_opened layout again range answer = refused answer

-- opens the path and reads the range; where too few slots are left, `again` says how it goes on
unfoldable pub attempt : Shape → (Report → Work) → List (List ℕ) → Range → Work
attempt layout again path range = ask nothing (Ask.OpenFile path) (was_opened layout again range)

-- what follows an attempt that found too few slots, with so many attempts left: the next one, or the report of this one
unfoldable pub attempts : ℕ → Shape → List (List ℕ) → Range → Report → Work
attempts zero layout path range report = ends report
attempts (suc more) layout path range report = attempt layout (attempts more layout path range) path range

-- without a range the whole file is wanted
unfoldable pub range_of : Option Range → Range
range_of (Some range) = range
range_of None = record { from = 0; count = MOST_FILE_BYTES }

-- a get that opens its path at most `tries` times
unfoldable pub get_work : Shape → ℕ → List (List ℕ) → Option Range → Work
get_work layout tries path range =
    attempt layout (attempts (tries - 1) layout path (range_of range)) path (range_of range)
