-- The moments of a disk before one more, and after it.
use Rattle.std.proofs.Common.{◌≡◌, ◌⊎◌, inl, inr, ⊎_elim, refl, sym, ap, subst, arith, ℕ, zero, suc, ◌≤◌, List, [], ◌∷◌, ◌++◌, length, drop, length-append}
use Rattle.qfs_disk.specs.Moments.{Moment, IsImage, last_of, HadBeen, counts, moments_from, after_call}
use Rattle.qfs_disk.specs.declared.disk_call.DiskCall.{DiskCall}

pub last_push : (first : Moment) (later : List Moment) (next : Moment) → last_of first (later ++ next ∷ []) ≡ next
last_push first [] next = refl
last_push first (m ∷ later) next = last_push m later next

had_push : (moments : List Moment) (next : Moment) (c : List ℕ) → HadBeen (moments ++ next ∷ []) c → HadBeen moments c ⊎ IsImage next c
had_push [] next c (inl is) = inr is
had_push [] next c (inr none) = absurd none
had_push (m ∷ moments) next c (inl is) = inl (inl is)
had_push (m ∷ moments) next c (inr had) = ⊎_elim (λ h. inl (inr h)) (λ is. inr is) (had_push moments next c had)

had_keeps : (moments : List Moment) (next : Moment) (c : List ℕ) → HadBeen moments c → HadBeen (moments ++ next ∷ []) c
had_keeps [] next c had = absurd had
had_keeps (m ∷ moments) next c (inl is) = inl is
had_keeps (m ∷ moments) next c (inr had) = inr (had_keeps moments next c had)

had_drop : (k : ℕ) (moments : List Moment) (c : List ℕ) → HadBeen (drop k moments) c → HadBeen moments c
had_drop zero moments c had = had
had_drop (suc k) [] c had = had
had_drop (suc k) (m ∷ moments) c had = inr (had_drop k moments c had)

had_earlier : (t u : ℕ) (moments : List Moment) (c : List ℕ) → t ≤ u → HadBeen (drop u moments) c → HadBeen (drop t moments) c
had_earlier zero u moments c le had = had_drop u moments c had
had_earlier (suc t) zero moments c le had = absurd (omega (arith, le))
had_earlier (suc t) (suc u) [] c le had = had
had_earlier (suc t) (suc u) (m ∷ moments) c le had = had_earlier t u moments c (omega (arith, le)) had

abbrev HadFrom : Moment → List Moment → ℕ → List ℕ → Type 0
HadFrom first later t c = HadBeen (drop t (first ∷ later)) c

pub during_push : (first : Moment) (later : List Moment) (next : Moment) (c : List ℕ) → HadFrom first (later ++ next ∷ []) (length later) c → IsImage (last_of first later) c ⊎ IsImage next c
during_push first [] next c (inl is) = inl is
during_push first [] next c (inr (inl is)) = inr is
during_push first [] next c (inr (inr none)) = absurd none
during_push first (m ∷ later) next c left = during_push m later next c left

pub since_push : (first : Moment) (later : List Moment) (next : Moment) (t : ℕ) (c : List ℕ) → t ≤ length later → HadFrom first (later ++ next ∷ []) t c → HadFrom first later t c ⊎ IsImage next c
since_push first later next zero c le left = had_push (first ∷ later) next c left
since_push first [] next (suc t) c le left = absurd (omega (arith, le))
since_push first (m ∷ later) next (suc t) c le left = since_push m later next t c (omega (arith, le)) left

pub keeps_push : (first : Moment) (later : List Moment) (next : Moment) (t : ℕ) (c : List ℕ) → t ≤ length later → HadFrom first later t c → HadFrom first (later ++ next ∷ []) t c
keeps_push first later next zero c le left = had_keeps (first ∷ later) next c left
keeps_push first [] next (suc t) c le left = absurd (omega (arith, le))
keeps_push first (m ∷ later) next (suc t) c le left = keeps_push m later next t c (omega (arith, le)) left

pub earlier_push : (first : Moment) (later : List Moment) (t : ℕ) (u : ℕ) (c : List ℕ) → t ≤ u → HadFrom first later u c → HadFrom first later t c
earlier_push first later t u c le left = had_earlier t u (first ∷ later) c le left

-- this moment is the last of them
pub next_counts : (first : Moment) (later : List Moment) (next : Moment) (c : List ℕ) → IsImage next c → HadFrom first (later ++ next ∷ []) (length later) c
next_counts first later next c is =
    counts (record { first = first; later = later ++ next ∷ [] }) (length later) c (omega (arith, length-append later (next ∷ []))) (subst (λ m. IsImage m c) (sym (last_push first later next)) is)

-- ---- calls

-- one more call is one more moment
pub call_push : (m : Moment) (calls : List DiskCall) (call : DiskCall)
    → moments_from m (calls ++ call ∷ []) ≡ moments_from m calls ++ after_call call (last_of m (moments_from m calls)) ∷ []
call_push m [] call = refl
call_push m (first ∷ calls) call = ap (λ (l : List Moment). after_call first m ∷ l) (call_push (after_call first m) calls call)
