-- How a log stands after a load, over disks on which nothing is pending.
use Rattle.std.proofs.Common.{◌≡◌, ◌∙◌, refl, sym, ap, subst, arith, ℕ, ◌+◌, Bool, true, false, List, [], ◌∷◌, ◌++◌, length, drop, length-append, None}
use Rattle.qfs_disk.specs.Disk.{Only}
use Rattle.qfs_log.specs.Gates.{Guarded}
use Rattle.qfs_log.specs.Found.{Content, loaded, front_text, is_checkpoint, epoch_of, found_on, loses}
use Rattle.qfs_log.specs.Log.{Current, Other}
use Rattle.qfs_log.proofs.Gates.{rest_guarded}
use Rattle.qfs_log.proofs.Read.{AreBytes, Disked, disk_was}

-- the disk that was chosen: its front ends at the first closed gate, and it is at rest where nothing stands behind that
pub loaded_current : (leaves : List ℕ → Type 0) (bytes : List ℕ) (content : Content) (gate : ℕ) (tail_due : Bool) → AreBytes bytes → is_checkpoint bytes ≡ true → found_on bytes ≡ loaded content → Only bytes leaves
    → gate ≡ length (front_text (epoch_of bytes) content) → (tail_due ≡ false → length bytes ≡ gate + 1) → Current leaves bytes (epoch_of bytes) gate true tail_due None content
loaded_current leaves bytes content gate tail_due are counts found only place ends = record {
  fits = disk.fits;
  place = sym place;
  images = λ c left. subst (λ (l : List ℕ). Guarded front l) (sym (only c left ∙ disk.text)) (rest_guarded front disk.gate disk.rest disk.closed);
  rest = λ none. record {
    gate = disk.gate;
    ends = disk.text ∙ ap (λ (l : List ℕ). front ++ disk.gate ∷ l) (no_rest disk.rest (omega (arith, ends none, place, ap length disk.text, length-append front (disk.gate ∷ disk.rest))));
    closed = disk.closed;
    durable = only;
  };
  body = tt;
}
  where
    disk : Disked bytes content
    disk = disk_was bytes content are counts found

    front : List ℕ
    front = front_text (epoch_of bytes) content

    no_rest : (l : List ℕ) → length l ≡ 0 → l ≡ []
    no_rest [] is = refl
    no_rest (x ∷ l) is = absurd (omega (arith, is))

-- the other disk: its gate is settled where it is closed, and what stands behind an open one loses
pub loaded_other : (leaves : List ℕ → Type 0) (bytes : List ℕ) (right : Bool) (epoch : ℕ) (settled close_due : Bool) → Only bytes leaves → (settled ≡ true → Guarded [] bytes) → (settled ≡ false → loses right epoch (drop 1 bytes) ≡ true)
    → Other leaves right epoch settled close_due None
loaded_other leaves bytes right epoch true close_due only closed lost = record {
  images = λ c left. subst (λ (l : List ℕ). Guarded [] l) (sym (only c left)) (closed refl);
  due = λ _. refl;
  image = tt;
  room = tt;
}
loaded_other leaves bytes right epoch false close_due only closed lost = record {
  images = λ c left. record { same = refl; behind = subst (λ (l : List ℕ). loses right epoch (drop 1 l) ≡ true) (sym (only c left)) (lost refl) };
  due = λ _. refl;
  image = tt;
  room = tt;
}
