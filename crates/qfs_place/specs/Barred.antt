-- The servers that are barred from a block's chunks, one slot after another.
use Rattle.std.specs.Prelude.{ℕ, Bool, ◌==◌, ◌&&◌, ◌||◌, List, ◌++◌}
use Rattle.std.specs.List.{list_any}
use Rattle.std.specs.Option.{option_to_list}
use Rattle.qfs_base.specs.declared.chunk.Copy.{Copy}
use Rattle.qfs_base.specs.declared.image.ServerView.{ServerView}
use Rattle.qfs_base.specs.declared.image.SlotRecord.{SlotRecord}
use Rattle.qfs_base.specs.Sizes.{MOST_SERVERS}
use Rattle.qfs_model_meta.specs.Grammar.{IsServer}
use Rattle.qfs_model_meta.specs.Servers.{is_live}
use Rattle.qfs_model_meta.specs.Slots.{granted_copy}

-- a copy's server has one of the numbers that servers may have
abbrev pub HasNumber : Copy → Type 0
HasNumber copy = IsServer MOST_SERVERS copy.server

-- the current copy of a slot and the one that its pending grant allows
abbrev pub row_copies : SlotRecord → List Copy
row_copies state = option_to_list state.current ++ option_to_list (granted_copy state.grant)

-- whether a copy is live and stands on a server
abbrev pub is_live_at : List ServerView → ℕ → Copy → Bool
is_live_at servers server copy = (copy.server == server) && is_live servers copy

-- whether one of a slot's copies is live and stands on a server
abbrev pub has_live_on : List ServerView → ℕ → SlotRecord → Bool
has_live_on servers server state =
    list_any (is_live_at servers server) (option_to_list state.current)
    || list_any (is_live_at servers server) (option_to_list (granted_copy state.grant))
