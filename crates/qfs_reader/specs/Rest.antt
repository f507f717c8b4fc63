-- What is left of a get at each of its stages.
use Rattle.std.specs.Prelude.{ℕ, suc, ◌+◌, ◌-◌, ◌*◌, ◌==◌, List, [], ◌∷◌, ◌++◌, length, Err, slice_set}
use Rattle.std.specs.List.{range_with_len}
use Rattle.qfs_base.specs.Layout.{blocks_of}
use Rattle.qfs_base.specs.Shape.{Shape}
use Rattle.qfs_base.specs.Sizes.{DATA_SLOTS}
use Rattle.qfs_base.specs.declared.command.Reply.TheVariants as Report
use Rattle.qfs_base.specs.declared.layout.Window.{Window}
use Rattle.qfs_base.specs.declared.lists.Cause.{Cause}
use Rattle.qfs_base.specs.declared.reply.ChunkReply.{ChunkReply}
use Rattle.qfs_base.specs.declared.reply.MetaReply.{MetaReply}
use Rattle.qfs_base.specs.declared.reply.NodeReply.{NodeReply}
use Rattle.qfs_base.specs.declared.reply.Opened.{Opened}
use Rattle.qfs_machine.specs.Endings.{report_of_ending}
use Rattle.qfs_model_actor.specs.Ask.{after_fetch, filled}
use Rattle.qfs_model_actor.specs.Get.{attempt, attempts, is_whole, reading_of, read_blocks, read_if_whole, read_range, was_opened}
use Rattle.qfs_model_actor.specs.Hold.{nothing, opened, end_with, give_back, on_answer, was_released}
use Rattle.qfs_model_actor.specs.Pieces.{Piece}
use Rattle.qfs_model_actor.specs.Put.{slots_from}
use Rattle.qfs_model_actor.specs.Read.{Source, Reading, causes_of, read_slots, read_windows, with_enough}
use Rattle.qfs_model_actor.specs.Work.{Report, Work, ends, goes_on}
use Rattle.qfs_reader.specs.Parts.{pieces_of, with_piece}
use Rattle.qfs_reader.specs.declared.stage.Attempt.{Attempt}
use Rattle.qfs_reader.specs.declared.stage.Get.{Get}
use Rattle.qfs_reader.specs.declared.stage.GetEnding.{GetEnding}
use Rattle.qfs_reader.specs.declared.stage.GetEnding.TheVariants as With
use Rattle.qfs_reader.specs.declared.stage.Position.{Position}
use Rattle.qfs_reader.specs.declared.stage.Stage.{Stage}
use Rattle.qfs_reader.specs.declared.stage.Stage.TheVariants as At

-- what follows an attempt that finds too few slots, where so many more may be made
abbrev pub again : Get → ℕ → Report → Work
again get more = attempts more get.layout get.path get.range

-- what becomes of an answer to its request for the file, which doesn't end every command, and of
-- any answer
abbrev pub after_opening : Get → ℕ → MetaReply → Work
after_opening get more answer = was_opened get.layout (again get more) get.range answer

abbrev pub on_opening : Get → ℕ → MetaReply → Work
on_opening get more answer = on_answer (end_with nothing) (after_opening get more) answer

-- what is left of a get whose file is open, where it is whole, and where it may not be
abbrev pub rest_of_whole : Get → ℕ → Opened → Work
rest_of_whole get more o = read_range get.layout (again get more) o get.range

abbrev pub rest_if_whole : Get → ℕ → Opened → Work
rest_if_whole get more o =
    read_if_whole get.layout (again get more) get.range o (is_whole get.layout o)

-- what becomes of an answer to the request that gives a lease back, before the get goes on so
abbrev pub on_release : Work → MetaReply → Work
on_release next answer = on_answer ends (was_released next) answer

-- what is left of a get that opens its file, where so many more attempts may follow
abbrev pub rest_of_opening : Get → ℕ → Work
rest_of_opening get more = attempt get.layout (again get more) get.path get.range

-- how a block of an open file is read
abbrev pub reading_at : Get → Attempt → ℕ → Reading
reading_at get attempt block =
    reading_of get.layout (again get attempt.more) attempt.opened attempt.from attempt.to block

-- what is left of a get that finds too few slots of a block
abbrev pub rest_if_too_few : Get → Attempt → ℕ → List Source → Work
rest_if_too_few get attempt block sources =
    (reading_at get attempt block).too_few (causes_of sources)

-- what is left of a get that comes to a block of its file
abbrev pub rest_of_blocks : Get → Attempt → ℕ → List ℕ → Work
rest_of_blocks get attempt block got =
    read_blocks get.layout (again get attempt.more) attempt.opened attempt.from attempt.to
    (range_with_len block (blocks_of get.layout.s get.layout.r attempt.to - block)) got

-- what is left of a get that comes to these windows of a block
abbrev pub rest_of_windows : Get → Attempt → ℕ → List Window → List Source → List ℕ → Work
rest_of_windows get attempt block windows sources got =
    read_windows (reading_at get attempt block) windows sources got
    (rest_of_blocks get attempt (block + 1))

-- what comes behind a window, where these slots can be read and these pieces were
abbrev pub behind_window : Get → Attempt → Position → List ℕ → List Source → List Piece → Work
behind_window get attempt position got left pieces =
    rest_of_windows get attempt position.block position.windows left
    (got ++ (reading_at get attempt position.block).kept position.window pieces)

-- how many bytes a slot gives in a window
abbrev pub window_bytes : Shape → Window → ℕ
window_bytes layout w = w.rows * layout.s

-- what the slots of a window gave so far
abbrev pub pieces_at : Get → Attempt → Position → List Piece
pieces_at get attempt position =
    pieces_of (window_bytes get.layout position.window) attempt.nine.items position.have

-- what is left of a get that has six pieces of its window
abbrev pub rest_of_read_window : Get → Attempt → Position → Work
rest_of_read_window get attempt position =
    behind_window get attempt position attempt.got position.sources (pieces_at get attempt position)

-- what is left of a get that reads a window from these slots on
abbrev pub rest_of_slots : Get → Attempt → Position → ℕ → ℕ → List Source → List Piece → Work
rest_of_slots get attempt position wanted slot sources pieces =
    read_slots (reading_at get attempt position.block) position.window wanted (slots_from slot)
    sources pieces (behind_window get attempt position attempt.got)

-- what is left of a get that has come to a slot of its window
unfoldable pub rest_from_slot : Get → Attempt → Position → ℕ → Work
rest_from_slot get attempt position slot =
    rest_of_slots get attempt position (DATA_SLOTS - length position.have) slot position.sources
    (pieces_at get attempt position)

-- what is left of a get that waits for the bytes of a slot
abbrev pub rest_of_position : Get → Attempt → Position → Work
rest_of_position get attempt position = rest_from_slot get attempt position position.slot

-- what is left once the slot gave its bytes, and once it failed
unfoldable pub rest_with_piece : Get → Attempt → Position → List ℕ → Work
rest_with_piece get attempt position room =
    rest_of_slots get attempt position (5 - length position.have) (position.slot + 1)
    position.sources (with_piece (pieces_at get attempt position) position.slot room)

-- and where a room came back that may not be as long as it was asked for
unfoldable pub rest_if_filled : Get → Attempt → Position → List ℕ → Work
rest_if_filled get attempt position room =
    filled (rest_with_piece get attempt position) room
    (length room == window_bytes get.layout position.window)

unfoldable pub rest_without : Get → Attempt → Position → Cause → Work
rest_without get attempt position cause =
    with_enough (reading_at get attempt position.block)
    (λ left. rest_of_slots get attempt position (suc (5 - length position.have)) (position.slot + 1)
    left (pieces_at get attempt position))
    (slice_set position.sources position.slot (Err cause))

-- what becomes of a server's answer to the request for them, which doesn't end every command
abbrev pub after_slot : Get → Attempt → Position → ChunkReply → Work
after_slot get attempt position reply =
    after_fetch (window_bytes get.layout position.window) (rest_with_piece get attempt position)
    (rest_without get attempt position) reply.room reply.answer

-- the report of a get that ends so
unfoldable pub report_of_get : GetEnding → Report
report_of_get (With.Read place got) = Report.Read place got
report_of_get (With.TooFew place block sources) = Report.ReadTooFew place block (causes_of sources)
report_of_get (With.Refused place refusal) = Report.Refused place refusal
report_of_get (With.Common ending) = report_of_ending ending

-- what is left of a get at a stage
unfoldable pub rest_of_get : Get → Stage → Work
rest_of_get get (At.Opening more) = rest_of_opening get more
rest_of_get get (At.Reading attempt position) = rest_of_position get attempt position
rest_of_get get (At.Releasing lease ending kept) = end_with (opened lease) (report_of_get ending)
rest_of_get get (At.Retrying lease more) = give_back (rest_of_opening get more) (opened lease)
rest_of_get get (At.Ended ending kept) = ends (report_of_get ending)

-- what is left of it behind a node's reply
abbrev pub rest_after : Get → Stage → NodeReply → Work
rest_after get stage reply = goes_on (rest_of_get get stage) reply
