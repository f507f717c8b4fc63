-- What is found on a device after a write, and after a key was taken away.
use Rattle.std.proofs.Common.{◌≡◌, ℕ, ◌+◌, ◌≤◌, IsTrue, List, [], length, Option, Some, None, cond, is_some, true≢false, refl, sym, ap, ◌∙◌, subst}
use Rattle.std.specs.Prelude.{unwrap_or}
use Rattle.std.specs.Cmp.{tied_itself}
use Rattle.std.specs.Option.{option_map, ForSome}
use Rattle.std.specs.Ordering.{is_eq, eq_by_cmp}
use Rattle.qfs_base.specs.Key.{key_cmp}
use Rattle.qfs_base.specs.KeyLaws.{key_cmp_total}
use Rattle.qfs_base.specs.KeyMapLaws.{value_at-with_entry, value_at-without_key}
use Rattle.qfs_base.specs.declared.chunk.ChunkKey.{ChunkKey}
use Rattle.qfs_device.specs.Held.{Held, chunk_at, holding, lacking, LiesIn}

-- what was written is found under its key, and every other key has what it had
pub chunk_at-holding : (held : Held) (key : ChunkKey) (bytes : List ℕ) (other : ChunkKey)
    → chunk_at (holding key bytes held) other ≡ cond (eq_by_cmp key_cmp other key) (Some bytes) (chunk_at held other)
chunk_at-holding held key bytes other = value_at-with_entry key_cmp_total held.contents key bytes other

-- a key that was taken away isn't there, and every other key has what it had
pub chunk_at-lacking : (held : Held) (key other : ChunkKey) → chunk_at (lacking key held) other ≡ cond (eq_by_cmp key_cmp other key) None (chunk_at held other)
chunk_at-lacking held key other = value_at-without_key key_cmp_total held.contents key other

-- what was written is found under its key
pub chunk_at-written : (held : Held) (key : ChunkKey) (bytes : List ℕ) → chunk_at (holding key bytes held) key ≡ Some bytes
chunk_at-written held key bytes =
    chunk_at-holding held key bytes key ∙ ap (λ r. cond (is_eq r) (Some bytes) (chunk_at held key)) (tied_itself key_cmp_total key)

pub lies_in-written : (held : Held) (key : ChunkKey) (bytes : List ℕ) (at count : ℕ) → at + count ≤ length bytes → LiesIn (holding key bytes held) key at count
lies_in-written held key bytes at count inside = record {
  there = subst (λ found. IsTrue (is_some found)) (sym (chunk_at-written held key bytes)) refl;
  inside = subst (λ found. at + count ≤ length (unwrap_or found [])) (sym (chunk_at-written held key bytes)) inside;
}

-- what a write that succeeded wrote can be read
pub readable-written : (key : ChunkKey) (bytes : List ℕ) (at count : ℕ) (old new : Option Held) → new ≡ option_map (holding key bytes) old
    → at + count ≤ length bytes → ForSome new (λ held. LiesIn held key at count)
readable-written key bytes at count None new written inside = λ held is. absurd (true≢false (sym (ap is_some (sym written ∙ is))))
readable-written key bytes at count (Some before) new written inside = λ held is.
    let same : holding key bytes before ≡ held = ap (λ told. unwrap_or told before) (sym written ∙ is) in
    subst (λ now. LiesIn now key at count) same (lies_in-written before key bytes at count inside)
