-- What a change of other files leaves of a file, and what the servers are to the metaserver. Cited
-- by the steps of puts and gets.
use Rattle.std.proofs.Common.{◌≡◌, ℕ, zero, suc, ◌<◌, ◌≤◌, true, false, List, [], ◌∷◌, replicate}
use Rattle.std.proofs.Common.{ap, ◌∙◌, arith}
use Rattle.std.proofs.lemmas.List.{get_or-replicate}
use Rattle.std.specs.Ordering.{nat_cmp, is_eq}
use Rattle.qfs_base.specs.Shape.{Shape}
use Rattle.qfs_base.specs.Table.{Each}
use Rattle.qfs_base.specs.declared.image.SlotRecord.{SlotRecord}
use Rattle.qfs_base.specs.declared.image.SlotRow.{SlotRow}
use Rattle.qfs_base.specs.declared.image.TreeRow.{TreeRow}
use Rattle.qfs_model_meta.specs.TreeRows.{file_row, has_file}
use Rattle.qfs_model_meta.specs.Servers.{no_server, server_at}
use Rattle.qfs_model_meta.specs.Slots.{slot_at}
use Rattle.qfs_model_meta.specs.Step.{first_server}
use Rattle.qfs_model_server.specs.Server.{Server}
use Rattle.qfs_laws_first.proofs.Servers.{stored_at}
use Rattle.qfs_laws_first.proofs.Tests.{own-key}
use Rattle.qfs_laws_first.proofs.States.{Target, target_row, first_block, first_key, IsFile}

-- a file stays whole where its slots and their copies stay
pub file-kept : (layout : Shape) (n : ℕ) (servers changed : List Server) (slots new : List SlotRow)
    (file len : ℕ) (bytes : List ℕ)
    → ((slot : ℕ) → slot < 9
    → slot_at new (first_block file) slot ≡ slot_at slots (first_block file) slot)
    → ((server slot : ℕ) → stored_at changed server (first_key file slot) ≡ stored_at servers server
    (first_key file slot))
    → IsFile layout n servers slots file len bytes → IsFile layout n changed new file len bytes
file-kept layout n servers changed slots new file len bytes slots_stay copies_stay is =
    record {
      length_is = is.length_is;
      some = is.some;
      most = is.most;
      copies = λ slot below.
          let old = is.copies slot below in
          record {
            server = old.server;
            first = old.first;
            last = old.last;
            current = ap (λ (r : SlotRecord). r.current) (slots_stay slot below) ∙ old.current;
            stored = copies_stay old.server slot ∙ old.stored;
          };
    }

-- two facts of each row
pub each_with : {X : Type 0} (P Q R : X → Type 0) (rows : List X)
    → ((row : X) → P row → Q row → R row) → Each P rows → Each Q rows → Each R rows
each_with P Q R [] both p q = tt
each_with P Q R (row ∷ rows) both p q = (both row p.0 q.0, each_with P Q R rows both p.1 q.1)

-- every server is as every run begins
pub view-first : (n server : ℕ) → 1 ≤ server → server ≤ n
    → server_at (replicate n first_server) server ≡ first_server
unfolding server_at
view-first n zero first last = absurd (omega arith)
view-first n (suc k) first last = get_or-replicate n k first_server no_server (omega arith)

-- a closed file isn't the one that is put
pub closed-elsewhere : (commands : ℕ) (t : Target) (row : TreeRow)
    → (has_file t.file row ≡ true → row ≡ target_row commands t) → row.closed ≡ true
    → row.file ≡ t.file → ⊥
unfolding file_row has_file
closed-elsewhere commands t row own closed same =
    let own_row : is_eq (nat_cmp t.file row.file) ≡ true = rw same (own-key t.file) in
    let unshut : row.closed ≡ false = ap (λ (r : TreeRow). r.closed) (own own_row) in
    absurd (cc)
