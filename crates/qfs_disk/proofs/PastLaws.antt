-- The calls of a disk in memory, as moves of its past.
use Rattle.std.proofs.Common.{◌≡◌, inl, inr, ⊎_elim, ◌∙◌, refl, sym, ap, subst, arith, ℕ, ◌≤◌, Bool, true, false, cond, List, [], ◌∷◌, ◌++◌, length, length-append}
use Rattle.std.specs.Prelude.{Result, Ok, Err}
use Rattle.qfs_disk.specs.Disk.{Same, Spoils, Torn, CutShort, WithoutMemory}
use Rattle.qfs_disk.specs.Moves.{Moves}
use Rattle.qfs_disk.specs.Steps.{torn_itself, cut_itself}
use Rattle.qfs_disk.specs.Moments.{Moment, Past, now, then, IsImage, LeftSince, after_write, after_cut, after_sync, after_call, settled, moments_from, past_of, beginning, reads, counts, only}
use Rattle.qfs_disk.specs.declared.disk_call.DiskCall.{DiskCall}
use Rattle.qfs_device.specs.declared.errors.DeviceError.{DeviceError}
use Rattle.qfs_device.specs.declared.errors.DeviceError.TheVariants.{Failed, NoMemory}
use Rattle.qfs_disk.proofs.Images.{write_image, cut_image, sync_only}
use Rattle.qfs_disk.proofs.Pushed.{call_push, last_push, during_push, since_push, keeps_push, earlier_push, next_counts}

-- how the past of a disk moves
abbrev PastMoves : (List ℕ → List ℕ → Type 0) → Past → Past → Type 0
PastMoves step old new = Moves (λ (p : Past). length p.later) (λ (p : Past) c. IsImage (now p) c) (λ (p : Past) t c. LeftSince p t c) step old new

none : (step : List ℕ → List ℕ → Type 0) (p : Past) → ((c : List ℕ) → step c c) → PastMoves step p p
none step p itself = record {
  later = omega arith;
  during = λ c left. (c, only p c left, itself c);
  now = λ c is. counts p (length p.later) c (omega arith) is;
  since = λ t c le left. inl left;
  keeps = λ t c le left. left;
  earlier = λ t c le left. earlier_push p.first p.later t (length p.later) c le left;
}

one : (step : List ℕ → List ℕ → Type 0) (p : Past) (next : Moment) → ((c : List ℕ) → step c c)
    → ((c : List ℕ) → IsImage next c → (d : List ℕ) × IsImage (now p) d × step d c) → PastMoves step p (then next p)
one step p next itself from = record {
  later = omega (arith, length-append p.later (next ∷ []));
  during = λ c left. ⊎_elim (λ was. (c, was, itself c)) (λ is. from c is) (during_push p.first p.later next c left);
  now = λ c is. next_counts p.first p.later next c (subst (λ m. IsImage m c) (last_push p.first p.later next) is);
  since = λ t c le left. ⊎_elim (λ was. inl was) (λ is. inr (next_counts p.first p.later next c is)) (since_push p.first p.later next t c le left);
  keeps = λ t c le left. keeps_push p.first p.later next t c le left;
  earlier = λ t c le left. earlier_push p.first (p.later ++ next ∷ []) t (length p.later) c le left;
}

-- the same of disks with such a past
module _ {D : Type 0} (past : D → Past) where
  abbrev pub DiskMoves : (List ℕ → List ℕ → Type 0) → D → D → Type 0
  DiskMoves step old new =
      Moves (λ d. length (past d).later) (λ d c. IsImage (now (past d)) c) (λ d t c. LeftSince (past d) t c) step old new

  on_disk : (step : List ℕ → List ℕ → Type 0) (old new : D) → PastMoves step (past old) (past new) → DiskMoves step old new
  on_disk step old new m = record { later = m.later; during = m.during; now = m.now; since = m.since; keeps = m.keeps; earlier = m.earlier }

  -- a call that does nothing
  pub idle : (step : List ℕ → List ℕ → Type 0) (old new : D) → ((c : List ℕ) → step c c) → past new ≡ past old → DiskMoves step old new
  idle step old new itself same = on_disk step old new (subst (λ p. PastMoves step (past old) p) (sym same) (none step (past old) itself))

  pub idle_spoils : {T : Type 0} (step : List ℕ → List ℕ → Type 0) (result : Result T DeviceError) (old new : D) → ((c : List ℕ) → step c c)
      → past new ≡ past old → DiskMoves (Spoils step result) old new
  idle_spoils step (Ok v) old new itself same = idle step old new itself same
  idle_spoils step (Err Failed) old new itself same = idle step old new itself same
  idle_spoils step (Err NoMemory) old new itself same = idle Same old new (λ c. refl) same

  goes : (step : List ℕ → List ℕ → Type 0) (old new : D) (next : Moment) → ((c : List ℕ) → step c c)
      → ((c : List ℕ) → IsImage next c → (d : List ℕ) × IsImage (now (past old)) d × step d c) → past new ≡ then next (past old) → DiskMoves step old new
  goes step old new next itself from is = on_disk step old new (subst (λ p. PastMoves step (past old) p) (sym is) (one step (past old) next itself from))

  -- what is held after a call
  pub holds : (old new : D) (next : Moment) → past new ≡ then next (past old) → now (past new) ≡ next
  holds old new next is = ap now is ∙ last_push (past old).first (past old).later next

  -- a write, a cut and a sync
  pub writes : (at : ℕ) (put : List ℕ) (old new : D) → at ≤ length (now (past old)).bytes → past new ≡ then (after_write at put (now (past old))) (past old)
      → DiskMoves (Torn at (length put)) old new
  writes at put old new inside is =
      goes (Torn at (length put)) old new (after_write at put (now (past old))) (torn_itself at (length put)) (write_image (now (past old)) at put inside) is

  pub cuts : (n : ℕ) (old new : D) → n ≤ length (now (past old)).bytes → past new ≡ then (after_cut n (now (past old))) (past old) → DiskMoves (CutShort n) old new
  cuts n old new inside is = goes (CutShort n) old new (after_cut n (now (past old))) (cut_itself n) (cut_image (now (past old)) n inside) is

  pub syncs : (old new : D) → past new ≡ then (after_sync (now (past old))) (past old) → DiskMoves Same old new
  syncs old new is =
      goes Same old new (after_sync (now (past old))) (λ c. refl) (λ c image. ((now (past old)).bytes, reads (now (past old)), sync_only (now (past old)) c image)) is

  pub settles : (old new : D) → past new ≡ then (after_sync (now (past old))) (past old) → (c : List ℕ) → IsImage (now (past new)) c → c ≡ (now (past old)).bytes
  settles old new is c image = sync_only (now (past old)) c (subst (λ (m : Moment). IsImage m c) (holds old new (after_sync (now (past old))) is) image)

-- ---- a list of calls

-- the past after one more call
pub one_more : (start : List ℕ) (calls more : List DiskCall) (call : DiskCall) → more ≡ calls ++ call ∷ []
    → past_of start more ≡ then (after_call call (now (past_of start calls))) (past_of start calls)
one_more start calls more call is =
    ap (λ (l : List DiskCall). past_of start l) is
    ∙ ap (λ (later : List Moment). the_past (settled start) later) (call_push (settled start) calls call)
  where
    the_past : Moment → List Moment → Past
    the_past first later = record { first = first; later = later }

-- what is held then
pub held_more : (start : List ℕ) (calls more : List DiskCall) (call : DiskCall) → more ≡ calls ++ call ∷ []
    → now (past_of start more) ≡ after_call call (now (past_of start calls))
held_more start calls more call is =
    ap now (one_more start calls more call is) ∙ last_push (settled start) (moments_from (settled start) calls) (after_call call (now (past_of start calls)))

-- a push that may have found no memory, of a call that leaves the bytes
pub push_keeps : (start : List ℕ) (calls more : List DiskCall) (call : DiskCall) (pushed : Bool)
    → (after_call call (now (past_of start calls))).bytes ≡ (now (past_of start calls)).bytes → more ≡ cond pushed (calls ++ call ∷ []) calls
    → (now (past_of start calls)).bytes ≡ (now (past_of start more)).bytes
push_keeps start calls more call true same is = sym (ap (λ (m : Moment). m.bytes) (held_more start calls more call is) ∙ same)
push_keeps start calls more call false same is = ap (λ (l : List DiskCall). (now (past_of start l)).bytes) (sym is)

-- a disk that begins with no bytes has no other image
pub begins_empty : (past : Past) → past ≡ beginning [] → (c : List ℕ) → IsImage (now past) c → c ≡ []
begins_empty past is c image = sync_only (settled []) c (subst (λ (p : Past). IsImage (now p) c) is image)

-- a past that is as it was has the images that it had
pub same_images : (old new : Past) → new ≡ old → (c : List ℕ) → IsImage (now old) c → IsImage (now new) c
same_images old new same c image = subst (λ (p : Past). IsImage (now p) c) (sym same) image

-- what holds anyway holds without memory
pub without_memory : {T P : Type 0} (result : Result T DeviceError) → P → WithoutMemory result P
without_memory (Ok value) p = tt
without_memory (Err Failed) p = tt
without_memory (Err NoMemory) p = p
