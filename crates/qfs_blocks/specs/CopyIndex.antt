-- The index of the condemned copies: by server, life, slot and version of what they are copies of,
-- and then by number. It has a row for each of them, and no others.
use Rattle.std.proofs.Common.{◌≡◌, ◌∙◌, ℕ, refl, sym, Bool, List}
use Rattle.std.proofs.lemmas.Cmp.{nat_cmp_total, on_total, then_total}
use Rattle.std.specs.Cmp.{IsTotalOrder}
use Rattle.std.specs.List.{list_any}
use Rattle.std.specs.Ordering.{nat_cmp, ordering_then}
use Rattle.std.specs.declared.cmp.Ordering.{Ordering}
use Rattle.std.specs.declared.cmp.Ordering.TheVariants.{Less, Equal, Greater}
use Rattle.qfs_base.specs.declared.chunk.BlockId.{BlockId}
use Rattle.qfs_base.specs.declared.chunk.Copy.{Copy}
use Rattle.qfs_base.specs.declared.image.CondemnedEntry.{CondemnedEntry}
use Rattle.qfs_base.specs.Key.{block_cmp}
use Rattle.qfs_base.specs.KeyLaws.{block_cmp_total}
use Rattle.qfs_table.specs.Keys.{Follows}
use Rattle.qfs_table.specs.KeyLaws.{front_falls}
use Rattle.qfs_blocks.specs.declared.index.CopyRow.{CopyRow}

-- how the servers, lives and blocks of rows compare, and then their slots and versions
abbrev pub home_cmp : CopyRow → CopyRow → Ordering
home_cmp a b =
    ordering_then (ordering_then (nat_cmp a.server b.server) (nat_cmp a.life b.life))
    (block_cmp a.block b.block)

abbrev pub place_cmp : CopyRow → CopyRow → Ordering
place_cmp a b =
    ordering_then (ordering_then (home_cmp a b) (nat_cmp a.slot b.slot))
    (nat_cmp a.version b.version)

-- the order of rows
abbrev pub copy_cmp : CopyRow → CopyRow → Ordering
copy_cmp a b = ordering_then (place_cmp a b) (nat_cmp a.number b.number)

place_total : IsTotalOrder place_cmp
place_total =
    then_total (then_total (then_total (then_total
    (on_total (λ (row : CopyRow). row.server) nat_cmp_total)
    (on_total (λ (row : CopyRow). row.life) nat_cmp_total))
    (on_total (λ (row : CopyRow). row.block) block_cmp_total))
    (on_total (λ (row : CopyRow). row.slot) nat_cmp_total))
    (on_total (λ (row : CopyRow). row.version) nat_cmp_total)

pub copy_total : IsTotalOrder copy_cmp
copy_total = then_total place_total (on_total (λ (row : CopyRow). row.number) nat_cmp_total)

-- the row of a condemned copy
abbrev pub copy_row : CondemnedEntry → CopyRow
copy_row entry =
    record {
      server = entry.condemned.copy.server;
      life = entry.condemned.copy.life;
      block = entry.condemned.block;
      slot = entry.condemned.slot;
      version = entry.condemned.copy.version;
      number = entry.condemned.number;
    }

-- the first row that a copy of a slot may have
abbrev pub copy_key : BlockId → ℕ → Copy → CopyRow
copy_key block slot copy =
    record {
      server = copy.server;
      life = copy.life;
      block = block;
      slot = slot;
      version = copy.version;
      number = 0;
    }

-- where a row stands to the copies on a server
abbrev pub server_order : ℕ → CopyRow → Ordering
server_order server row = nat_cmp server row.server

-- the index has the rows of these entries and no others
abbrev pub IsCopyIndex : List CopyRow → List CondemnedEntry → Type 0
IsCopyIndex rows entries =
    (test : CopyRow → Bool) → list_any test rows ≡ list_any (λ entry. test (copy_row entry)) entries

pub place_falls : (key : CopyRow) → Follows copy_cmp (place_cmp key)
place_falls key a b = front_falls place_total key a b (nat_cmp a.number b.number)

then_then : (first next last : Ordering)
    → ordering_then (ordering_then first next) last
    ≡ ordering_then first (ordering_then next last)
then_then Less next last = refl
then_then Equal next last = refl
then_then Greater next last = refl

pub server_falls : (server : ℕ) → Follows copy_cmp (server_order server)
server_falls server a b less =
    let first = nat_cmp a.server b.server in
    let life = nat_cmp a.life b.life in
    let block = block_cmp a.block b.block in
    let slot = nat_cmp a.slot b.slot in
    let version = nat_cmp a.version b.version in
    let number = nat_cmp a.number b.number in
    front_falls nat_cmp_total server a.server b.server _
    (sym (then_then first life (ordering_then block (ordering_then slot
    (ordering_then version number))))
    ∙ sym (then_then (ordering_then first life) block (ordering_then slot
    (ordering_then version number)))
    ∙ sym (then_then (home_cmp a b) slot (ordering_then version number))
    ∙ sym (then_then (ordering_then (home_cmp a b) slot) version number)
    ∙ less)
