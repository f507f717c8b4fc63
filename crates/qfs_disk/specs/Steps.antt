-- How two calls on one disk join.
use Rattle.std.proofs.Common.{inl, inr, ⊎_elim, ℕ, ◌≤◌, List, refl, sym, subst, arith}
use Rattle.std.specs.Prelude.{Result, Ok, Err}
use Rattle.qfs_disk.specs.Disk.{Torn, CutShort, Same, Spoils}
use Rattle.qfs_disk.specs.Moves.{Moves}
use Rattle.qfs_device.specs.declared.errors.DeviceError.{DeviceError}
use Rattle.qfs_device.specs.declared.errors.DeviceError.TheVariants.{Failed, NoMemory}

pub torn_itself : (at n : ℕ) (c : List ℕ) → Torn at n c c
torn_itself at n c = record { no_shorter = omega arith; no_longer = omega arith; outside = λ i inside apart. refl }

pub cut_itself : (n : ℕ) (c : List ℕ) → CutShort n c c
cut_itself n c = record { no_shorter = omega arith; no_longer = omega arith; front = λ i before inside. refl }

module _ {D : Type 0} (clock : D → ℕ) (leaves : D → List ℕ → Type 0) (left_since : D → ℕ → List ℕ → Type 0) where
  -- a step, and then one that may do another thing
  pub joined : (old mid new : D) (first second both : List ℕ → List ℕ → Type 0)
      → ((d c : List ℕ) → leaves old d → first d c → both d c) → ((d e c : List ℕ) → leaves old d → leaves mid e → first d e → second e c → both d c)
      → Moves clock leaves left_since first old mid → Moves clock leaves left_since second mid new → Moves clock leaves left_since both old new
  joined old mid new first second both one two a b = record {
    later = omega (arith, a.later, b.later);
    during = λ c left. ⊎_elim
        (λ before. let from = a.during c before in (from.0, from.1, one from.0 c from.1 from.2))
        (λ then. let by = b.during c then in let from = a.during by.0 (a.now by.0 by.1) in (from.0, from.1, two from.0 by.0 c from.1 by.1 from.2 by.2))
        (b.since (clock old) c a.later left);
    now = λ c left. b.earlier (clock old) c a.later (b.now c left);
    since = λ t c le left. ⊎_elim
        (λ before. ⊎_elim (λ was. inl was) (λ on_the_way. inr (b.keeps (clock old) c a.later on_the_way)) (a.since t c le before))
        (λ then. inr (b.earlier (clock old) c a.later then)) (b.since t c (omega (arith, le, a.later)) left);
    keeps = λ t c le left. b.keeps t c (omega (arith, le, a.later)) (a.keeps t c le left);
    earlier = λ t c le left. ⊎_elim
        (λ before. b.keeps t c (omega (arith, le, a.later)) (a.earlier t c le before))
        (λ then. b.earlier t c (omega (arith, le, a.later)) then) (b.since (clock old) c a.later left);
  }

  -- what an image may become may be said with less
  pub becomes : (old new : D) (first both : List ℕ → List ℕ → Type 0) → ((d c : List ℕ) → leaves old d → first d c → both d c)
      → Moves clock leaves left_since first old new → Moves clock leaves left_since both old new
  becomes old new first both one a = record {
    later = a.later;
    during = λ c left. let from = a.during c left in (from.0, from.1, one from.0 c from.1 from.2);
    now = a.now;
    since = a.since;
    keeps = a.keeps;
    earlier = a.earlier;
  }

  -- a call that found no memory spoils nothing
  pub spoiled : {T : Type 0} (old new : D) (step : List ℕ → List ℕ → Type 0) (result : Result T DeviceError) → ((c : List ℕ) → step c c)
      → Moves clock leaves left_since (Spoils step result) old new → Moves clock leaves left_since step old new
  spoiled old new step (Ok value) itself a = a
  spoiled old new step (Err Failed) itself a = a
  spoiled old new step (Err NoMemory) itself a = becomes old new Same step (λ d c was same. subst (λ e. step d e) (sym same) (itself d)) a

  -- a call and the sync behind it
  pub synced : {T : Type 0} (old mid new : D) (step : List ℕ → List ℕ → Type 0) (result : Result T DeviceError) → ((c : List ℕ) → step c c)
      → Moves clock leaves left_since (Spoils step result) old mid → Moves clock leaves left_since Same mid new → Moves clock leaves left_since step old new
  synced old mid new step result itself a b =
      joined old mid new step Same step (λ d c was by. by) (λ d e c was then by same. subst (λ f. step d f) (sym same) by) (spoiled old mid step result itself a) b

  -- no call at all
  pub stays : (old : D) → ((t : ℕ) (c : List ℕ) → t ≤ clock old → leaves old c → left_since old t c) → ((c : List ℕ) → left_since old (clock old) c → leaves old c)
      → Moves clock leaves left_since Same old old
  stays old counts only = record {
    later = omega arith;
    during = λ c left. (c, only c left, refl);
    now = λ c left. counts (clock old) c (omega arith) left;
    since = λ t c le left. inl left;
    keeps = λ t c le left. left;
    earlier = λ t c le left. counts t c le (only c left);
  }
