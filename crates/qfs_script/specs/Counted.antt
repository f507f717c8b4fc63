-- How much a script asks for with one command more.
use Rattle.std.specs.Prelude.{ℕ, ◌+◌, ◌≤◌, ◌&&◌, nat_le, Bool, if◌then◌else◌, Option, Some, None}
use Rattle.qfs_base.specs.Shape.{Shape}
use Rattle.qfs_script.specs.declared.counts.Counts.{Counts}
use Rattle.qfs_model_grammar.specs.SoFar.{chunk_bytes_of}
use Rattle.qfs_model_script.specs.InScript.{blocks_in}
use Rattle.qfs_model_script.specs.Limits.{MOST_COMMANDS, MOST_BLOCKS_OF_PUT, MOST_BLOCKS, MOST_BYTES_OF_CHUNKS}

-- all limits are kept so far
pub record AreKept (counts : Counts) : Type 0 where
  pub commands : counts.commands ≤ MOST_COMMANDS
  pub blocks : counts.blocks ≤ MOST_BLOCKS
  pub chunk_bytes : counts.chunk_bytes ≤ MOST_BYTES_OF_CHUNKS

-- with a command that puts so many bytes
abbrev pub with_put : Shape → Counts → ℕ → Counts
with_put layout counts len = record {
  commands = counts.commands + 1;
  blocks = counts.blocks + blocks_in layout len;
  chunk_bytes = counts.chunk_bytes + chunk_bytes_of layout len;
}

-- whether all limits are kept then
abbrev pub keeps : Shape → Counts → ℕ → Bool
keeps layout now len =
    nat_le now.commands MOST_COMMANDS
    && nat_le (blocks_in layout len) MOST_BLOCKS_OF_PUT
    && nat_le now.blocks MOST_BLOCKS
    && nat_le now.chunk_bytes MOST_BYTES_OF_CHUNKS

abbrev pub counted : Shape → Counts → ℕ → Option Counts
counted layout counts len = if keeps layout (with_put layout counts len) len then Some (with_put layout counts len) else None
