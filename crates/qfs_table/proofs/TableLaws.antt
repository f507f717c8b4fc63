-- Tables, and the copies of their rows.
use Rattle.std.proofs.Common.{ℕ, ◌≡◌, ◌≤◌, ◌<◌, List, [], ◌∷◌, ◌++◌, length, take, drop, vec_capacity, sym, subst, ◌∙◌, ap, arith}
use Rattle.std.proofs.lemmas.List.{append-nil, take-append-drop}
use Rattle.std.specs.List.{All, AllZip}
use Rattle.std.specs.Prelude.{Vec}
use Rattle.std.specs.declared.cmp.Ordering.{Ordering}
use Rattle.qfs_base.specs.Table.{IsRising}
use Rattle.qfs_table.specs.Chunks.{flat, IsChunk, IsSpare}
use Rattle.qfs_table.specs.Tables.{held, Takes, IsTable}

-- rows may go from a table: what has room still has
pub shrunk : {T Z Y : Type 0} {cmp : T → T → Ordering} {chunks spare : Vec (Vec T Z) Y}
    {count promised : ℕ} →
    IsTable cmp chunks spare count promised → (new_chunks new_spare : Vec (Vec T Z) Y) (left : ℕ) →
    IsRising cmp (flat new_chunks.items) → All IsChunk new_chunks.items →
    All IsSpare new_spare.items →
    vec_capacity new_chunks ≡ vec_capacity chunks → vec_capacity new_spare ≡ vec_capacity spare →
    held new_chunks new_spare ≡ held chunks spare → length spare.items ≤ length new_spare.items →
    Takes 0 chunks spare new_chunks new_spare → left ≡ length (flat new_chunks.items) →
    left ≤ count →
    IsTable cmp new_chunks new_spare left promised
shrunk {spare = spare} {promised = promised} was new_chunks new_spare left rising sound spares slots
    spare_slots same more strain counted fewer = record {
      rising = rising;
      sound = sound;
      spares = spares;
      slots = omega (arith, same, slots, was.slots);
      spare_slots = omega (arith, same, spare_slots, was.spare_slots);
      room = λ short.
          let before : length spare.items < promised = omega (arith, more, short) in
          omega (arith, strain, was.room before);
      counted = counted;
      limit = omega (arith, fewer, was.limit);
    }

-- ---- copies of rows, one after another

module _ {X : Type 0} (R : X → X → Type 0) where
  pub zip_next : (all copies : List X) (row copy : X) (rest : List X) →
      drop (length copies) all ≡ row ∷ rest →
      AllZip R (take (length copies) all) copies → R row copy →
      AllZip R (take (length (copies ++ copy ∷ [])) all) (copies ++ copy ∷ [])
      × (drop (length (copies ++ copy ∷ [])) all ≡ rest)
  zip_next [] [] row copy rest is zip holds = absurd cc
  zip_next [] (c ∷ copies) row copy rest is zip holds = absurd cc
  zip_next (x ∷ all) [] row copy rest is zip holds =
      let same : row ≡ x = cc in
      ((subst (λ x. R x copy) same holds, tt), let left : all ≡ rest = cc in left)
  zip_next (x ∷ all) (c ∷ copies) row copy rest is zip holds =
      let more = zip_next all copies row copy rest is zip.1 holds in
      ((zip.0, more.0), more.1)

  pub zip_all : (all copies : List X) → drop (length copies) all ≡ [] →
      AllZip R (take (length copies) all) copies → AllZip R all copies
  zip_all all copies end zip =
      subst (λ rows. AllZip R rows copies)
      (sym (append-nil (take (length copies) all)) ∙ ap (λ rest. take (length copies) all ++ rest)
      (sym end)
      ∙ take-append-drop (length copies) all)
      zip
