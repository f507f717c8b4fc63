-- The moments of a disk in memory: what it held at each, and what a crash then might have left.
use Rattle.std.specs.Prelude.{◌≡◌, ◌<◌, ◌≤◌, ◌⊎◌, ℕ, zero, suc, ◌+◌, min, max, List, [], ◌∷◌, ◌++◌, length, take, drop, get_or}
use mathlib.Core.Logic.{inl, inr}
use Rattle.std.proofs.Common.{refl, arith}
use Rattle.qfs_disk.specs.Disk.{written}
use Rattle.qfs_disk.specs.declared.disk_call.DiskCall.{DiskCall}
use Rattle.qfs_disk.specs.declared.disk_call.DiskCall.TheVariants as Call

-- What a disk holds at a moment, and what isn't settled of it: the least and the greatest length since the last sync, before
-- this moment, and the ranges that were written since.
pub record Moment : Type 0 where
  pub bytes : List ℕ
  pub least : ℕ
  pub greatest : ℕ
  pub dirty : List (ℕ × ℕ)

-- these bytes, all of them settled
abbrev pub settled : List ℕ → Moment
settled bytes = record { bytes = bytes; least = length bytes; greatest = length bytes; dirty = [] }

-- ---- calls

abbrev pub after_write : ℕ → List ℕ → Moment → Moment
after_write at put m = record {
  bytes = written at put m.bytes;
  least = min m.least (length m.bytes);
  greatest = max m.greatest (length m.bytes);
  dirty = m.dirty ++ (at, length put) ∷ [];
}

abbrev pub after_cut : ℕ → Moment → Moment
after_cut n m = record {
  bytes = take n m.bytes;
  least = min m.least (length m.bytes);
  greatest = max m.greatest (length m.bytes);
  dirty = m.dirty;
}

abbrev pub after_sync : Moment → Moment
after_sync m = settled m.bytes

abbrev pub after_call : DiskCall → Moment → Moment
after_call (Call.Write at bytes) m = after_write at bytes.items m
after_call (Call.Cut len) m = after_cut len m
after_call Call.Sync m = after_sync m

-- ---- images

-- a place in one of these ranges
abbrev pub IsDirty : List (ℕ × ℕ) → ℕ → Type 0
IsDirty [] i = ⊥
IsDirty (range ∷ ranges) i = ((range.0 ≤ i) × (i < range.0 + range.1)) ⊎ IsDirty ranges i

-- the least length since the last sync
abbrev pub least_of : Moment → ℕ
least_of m = min m.least (length m.bytes)

-- A length from the least to the greatest since the last sync. Below the least, a byte that wasn't written since is as a read
-- gives it; every other byte is any.
pub record IsImage (m : Moment) (image : List ℕ) : Type 0 where
  pub no_shorter : least_of m ≤ length image
  pub no_longer : length image ≤ max m.greatest (length m.bytes)
  pub clean : (i : ℕ) → i < least_of m → (IsDirty m.dirty i → ⊥) → get_or image i 0 ≡ get_or m.bytes i 0

-- ---- the past of a disk: its first moment, and the later ones

pub record Past : Type 0 where
  pub first : Moment
  pub later : List Moment

-- the last of these moments
abbrev pub last_of : Moment → List Moment → Moment
last_of m [] = m
last_of m (next ∷ later) = last_of next later

abbrev pub now : Past → Moment
now past = last_of past.first past.later

-- another moment
abbrev pub then : Moment → Past → Past
then next past = record { first = past.first; later = past.later ++ next ∷ [] }

-- a disk that begins with these bytes
abbrev pub beginning : List ℕ → Past
beginning bytes = record { first = settled bytes; later = [] }

-- an image of one of these moments
abbrev pub HadBeen : List Moment → List ℕ → Type 0
HadBeen [] c = ⊥
HadBeen (m ∷ later) c = IsImage m c ⊎ HadBeen later c

abbrev pub LeftSince : Past → ℕ → List ℕ → Type 0
LeftSince past t c = HadBeen (drop t (past.first ∷ past.later)) c

-- ---- what every disk with a past keeps

pub reads : (m : Moment) → IsImage m m.bytes
reads m = record { no_shorter = omega arith; no_longer = omega arith; clean = λ i below clean. refl }

had_last : (first : Moment) (later : List Moment) (c : List ℕ) → IsImage (last_of first later) c → HadBeen (first ∷ later) c
had_last first [] c is = inl is
had_last first (next ∷ later) c is = inr (had_last next later c is)

counts_from : (first : Moment) (later : List Moment) (t : ℕ) (c : List ℕ) → t ≤ length later → IsImage (last_of first later) c
    → HadBeen (drop t (first ∷ later)) c
counts_from first later zero c le is = had_last first later c is
counts_from first [] (suc t) c le is = absurd (omega (arith, le))
counts_from first (next ∷ later) (suc t) c le is = counts_from next later t c (omega (arith, le)) is

pub counts : (past : Past) (t : ℕ) (c : List ℕ) → t ≤ length past.later → IsImage (now past) c → LeftSince past t c
counts past t c le is = counts_from past.first past.later t c le is

only_from : (first : Moment) (later : List Moment) (c : List ℕ) → HadBeen (drop (length later) (first ∷ later)) c → IsImage (last_of first later) c
only_from first [] c (inl is) = is
only_from first [] c (inr none) = absurd none
only_from first (next ∷ later) c left = only_from next later c left

pub only : (past : Past) (c : List ℕ) → LeftSince past (length past.later) c → IsImage (now past) c
only past c left = only_from past.first past.later c left

-- ---- the past as a list of calls

-- the moments behind this one, call by call
abbrev pub moments_from : Moment → List DiskCall → List Moment
moments_from m [] = []
moments_from m (call ∷ calls) = after_call call m ∷ moments_from (after_call call m) calls

-- a disk that began with these bytes, after these calls
abbrev pub past_of : List ℕ → List DiskCall → Past
past_of bytes calls = record { first = settled bytes; later = moments_from (settled bytes) calls }
