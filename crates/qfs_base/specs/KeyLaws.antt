-- The laws of the orders of blocks and of chunk keys.
use Rattle.std.proofs.Common.{◌≡◌, ℕ, refl, sym, ap, true≢false}
use Rattle.std.specs.Cmp.{IsTotalOrder, nat_cmp_total, on_total, then_total, ranked}
use Rattle.std.specs.Ordering.{nat_cmp, ordering_then, is_eq}
use Rattle.std.specs.declared.cmp.Ordering.{Ordering}
use Rattle.std.specs.declared.cmp.Ordering.TheVariants.{Less, Equal, Greater}
use Rattle.qfs_base.specs.declared.chunk.BlockId.{BlockId}
use Rattle.qfs_base.specs.declared.chunk.ChunkKey.{ChunkKey}
use Rattle.qfs_base.specs.Key.{block_cmp, key_cmp}

pub block_cmp_total : IsTotalOrder block_cmp
block_cmp_total = then_total (on_total (λ b. b.file) nat_cmp_total) (on_total (λ b. b.index) nat_cmp_total)

pub key_cmp_total : IsTotalOrder key_cmp
key_cmp_total = then_total (on_total (λ k. k.block) block_cmp_total) (then_total (on_total (λ k. k.slot) nat_cmp_total) (on_total (λ k. k.version) nat_cmp_total))

-- both parts tie where the whole does
then-first : (a b : Ordering) → ordering_then a b ≡ Equal → a ≡ Equal
then-first Less b e = absurd (true≢false (sym (ap is_eq e)))
then-first Equal b e = refl
then-first Greater b e = absurd (true≢false (sym (ap is_eq e)))

then-second : (a b : Ordering) → ordering_then a b ≡ Equal → b ≡ Equal
then-second Less b e = absurd (true≢false (sym (ap is_eq e)))
then-second Equal b e = e
then-second Greater b e = absurd (true≢false (sym (ap is_eq e)))

same_number : (m n : ℕ) → nat_cmp m n ≡ Equal → m ≡ n
same_number m n e = ranked m n Equal (sym e)

-- blocks that tie are one block
pub block_cmp-Equal : (a b : BlockId) → block_cmp a b ≡ Equal → a ≡ b
block_cmp-Equal a b e =
    let file : a.file ≡ b.file = same_number a.file b.file (then-first _ _ e) in
    let index : a.index ≡ b.index = same_number a.index b.index (then-second _ _ e) in
    λ i. record { file = file i; index = index i }

-- keys that tie are one key
pub key_cmp-Equal : (a b : ChunkKey) → key_cmp a b ≡ Equal → a ≡ b
key_cmp-Equal a b e =
    let block : a.block ≡ b.block = block_cmp-Equal a.block b.block (then-first _ _ e) in
    let rest : ordering_then (nat_cmp a.slot b.slot) (nat_cmp a.version b.version) ≡ Equal = then-second _ _ e in
    let slot : a.slot ≡ b.slot = same_number a.slot b.slot (then-first _ _ rest) in
    let version : a.version ≡ b.version = same_number a.version b.version (then-second _ _ rest) in
    λ i. record { block = block i; slot = slot i; version = version i }
