-- What is kept of the bytes that a get has read.
use Rattle.std.specs.Prelude.{◌≡◌, ℕ, ◌≤◌, List, length, nat_le, take}
use Rattle.qfs_base.specs.declared.command.Shown.{Shown}
use Rattle.qfs_model_actor.specs.Shown.{most_shown, shown_if_few}
use Rattle.sha2.specs.Hashers.{Holds256}
use Rattle.sha2.specs.declared.Sha256.{Sha256}

-- the length, the bytes where they are few, and a hasher are those of the bytes that were read
pub record IsReadSoFar (len : ℕ) (first : List ℕ) (hasher : Sha256) (read : List ℕ) : Type 0 where
  pub count : len ≡ length read
  pub whole : len ≤ 32 → take len first ≡ read
  pub hashed : Holds256 hasher read

-- what is shown of the bytes that were read: all of them, where they are few, or else their digest
abbrev pub shown_of : List ℕ → Shown
shown_of read = shown_if_few read (nat_le (length read) most_shown)
