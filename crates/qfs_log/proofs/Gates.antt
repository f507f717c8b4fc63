-- What is kept of a gate while a disk is written, cut or torn.
use Rattle.std.proofs.Common.{◌≡◌, ◌≢◌, inl, inr, ℕ, ◌+◌, ◌<◌, ◌≤◌, Bool, true, false, IsTrue, List, [], ◌∷◌, ◌++◌, length, get_or, take, drop, refl, sym, ◌∙◌, ap, subst, arith, append_assoc, length-append}
use Rattle.std.specs.Prelude.{Result, Ok, Err, OnOk, OnErr}
use Rattle.qfs_device.specs.declared.errors.DeviceError.{DeviceError}
use Rattle.std.proofs.lemmas.List.{append-nil, take_all, drop_all, take_more}
use Rattle.qfs_disk.specs.Disk.{Torn, CutShort, Only, written}
use Rattle.qfs_log.specs.Gates.{Guarded, Staged, equals, GateIs, GateWas, AtRest, Opened}
use Rattle.qfs_log.proofs.Parts.{take_same, get_behind, take_front, drop_behind, split_at, front_fits, drop_torn, equals_itself}

module _ (front : List ℕ) where
  -- a closed gate stays closed while something behind it is written
  pub guarded_torn : (at n : ℕ) (d c : List ℕ) → length front < at → Guarded front d → Torn at n d c → Guarded front c
  guarded_torn at n d c behind was torn = record {
    same = take_same (length front) c d (omega (arith, was.there, torn.no_shorter)) (omega (arith, was.there)) (λ i before. torn.outside i (omega (arith, was.there, before)) (inl (omega (arith, before, behind)))) ∙ was.same;
    there = omega (arith, was.there, torn.no_shorter);
    closed = λ is_open. was.closed (sym (torn.outside (length front) was.there (inl behind)) ∙ is_open);
  }

  -- or while what is behind it is cut away
  pub guarded_cut : (n : ℕ) (d c : List ℕ) → length front < n → Guarded front d → CutShort n d c → Guarded front c
  guarded_cut n d c behind was cut =
      let there : length front < length c = omega (arith, was.there, cut.no_shorter, behind) in
      record {
        same = take_same (length front) c d (omega (arith, there)) (omega (arith, was.there)) (λ i before. cut.front i (omega (arith, before, behind)) (omega (arith, before, there))) ∙ was.same;
        there = there;
        closed = λ is_open. was.closed (sym (cut.front (length front) behind there) ∙ is_open);
      }

  -- what stands behind a gate stays while the gate is written
  pub staged_torn : (test : List ℕ → Bool) (d c : List ℕ) → Staged front test d → Torn (length front) 1 d c → Staged front test c
  staged_torn test d c was torn =
      let long : length front ≤ length d = front_fits front d was.same in
      record {
        same = take_same (length front) c d (omega (arith, long, torn.no_shorter)) long (λ i before. torn.outside i (omega (arith, long, before)) (inl before)) ∙ was.same;
        behind = subst (λ (l : List ℕ). IsTrue (test l)) (sym (drop_torn (length front) d c long torn)) was.behind;
      }

  pub rest_guarded : (g : ℕ) (rest : List ℕ) → g ≢ 1 → Guarded front (front ++ g ∷ rest)
  rest_guarded g rest closed = record {
    same = take_front front (g ∷ rest);
    there = omega (arith, length-append front (g ∷ rest));
    closed = λ is_open. closed (sym (get_behind front rest g) ∙ is_open);
  }

  pub staged_here : (g : ℕ) (test : List ℕ → Bool) (tail : List ℕ) → IsTrue (test tail) → Staged front test (front ++ g ∷ tail)
  staged_here g test tail passes = record {
    same = take_front front (g ∷ tail);
    behind = subst (λ (l : List ℕ). IsTrue (test l)) (sym (drop_behind front tail g)) passes;
  }

  -- a tail is written behind the gate that ends the disk
  pub written_behind : (g : ℕ) (tail : List ℕ) → written (length front + 1) tail (front ++ g ∷ []) ≡ front ++ g ∷ tail
  written_behind g tail =
      let long : length (front ++ g ∷ []) ≡ length front + 1 = omega (arith, length-append front (g ∷ [])) in
      ap (λ (l : List ℕ). l ++ tail ++ drop (length front + 1 + length tail) (front ++ g ∷ [])) (take_all _ (front ++ g ∷ []) (omega (arith, long)))
      ∙ ap (λ (l : List ℕ). (front ++ g ∷ []) ++ tail ++ l) (drop_all (length front + 1 + length tail) (front ++ g ∷ []) (omega (arith, long)))
      ∙ append-nil ((front ++ g ∷ []) ++ tail)
      ∙ append_assoc front (g ∷ []) tail

  -- the gate is written
  pub written_gate : (g byte : ℕ) (rest : List ℕ) → written (length front) (byte ∷ []) (front ++ g ∷ rest) ≡ front ++ byte ∷ rest
  written_gate g byte rest =
      ap (λ (l : List ℕ). l ++ (byte ∷ []) ++ drop (length front + 1) (front ++ g ∷ rest)) (take_front front (g ∷ rest))
      ∙ ap (λ (l : List ℕ). (front ++ byte ∷ []) ++ l) (drop_behind front rest g)
      ∙ append_assoc front (byte ∷ []) rest

  -- an image by its parts
  pub guarded_split : (c : List ℕ) → Guarded front c → c ≡ front ++ get_or c (length front) 0 ∷ drop (length front + 1) c
  guarded_split c was = split_at (length front) c was.there ∙ ap (λ (l : List ℕ). l ++ get_or c (length front) 0 ∷ drop (length front + 1) c) was.same

  -- a closed gate was written
  pub closed_guarded : (test : List ℕ → Bool) (d : List ℕ) → Staged front test d → Guarded front (written (length front) (0 ∷ []) d)
  closed_guarded test d was =
      subst (λ e. Guarded front e) (sym (ap (λ (l : List ℕ). (l ++ 0 ∷ []) ++ drop (length front + 1) d) was.same ∙ append_assoc front (0 ∷ []) (drop (length front + 1) d)))
      (rest_guarded 0 (drop (length front + 1) d) (omega arith))

  -- what a cut behind a closed gate leaves
  pub cut_at_rest : (leaves : List ℕ → Type 0) (d content : List ℕ) → Guarded front d → content ≡ take (length front + 1) d → Only content leaves → AtRest leaves content front
  cut_at_rest leaves d content was cut only = record {
    gate = get_or d (length front) 0;
    ends = cut ∙ take_more d (length front) 0 was.there ∙ ap (λ (l : List ℕ). l ++ get_or d (length front) 0 ∷ []) was.same;
    closed = was.closed;
    durable = only;
  }

  pub was_is : (settled : Bool) (test : List ℕ → Bool) (c : List ℕ) → GateIs settled front test c → GateWas settled front test c
  was_is true tail c is = is
  was_is false tail c is = inr is

  pub was_guarded : (settled : Bool) (test : List ℕ → Bool) (c : List ℕ) → Guarded front c → GateWas settled front test c
  was_guarded true tail c is = is
  was_guarded false tail c is = inl is

  module _ (gate : ℕ) (long : length front ≡ gate) where
    at_gate : (n : ℕ) (d c : List ℕ) → Torn gate n d c → Torn (length front) n d c
    at_gate n d c torn = subst (λ k. Torn k n d c) (sym long) torn

    -- an image of a disk whose gate is written, where a tail is whole behind it
    pub staged_on : (test : List ℕ → Bool) (d c : List ℕ) → Staged front test d → Torn gate 1 d c → Staged front test c
    staged_on tail d c was torn = staged_torn tail d c was (at_gate 1 d c torn)

    -- a gate that wasn't settled was written closed, or that failed
    pub gate_closed : {T : Type 0} (before after : List ℕ → Type 0) (old new : List ℕ) (test : List ℕ → Bool) (settled : Bool) (result : Result T DeviceError)
        → ((c : List ℕ) → before c → Staged front test c) → before old → ((c : List ℕ) → after c → (d : List ℕ) × before d × Torn gate 1 d c)
        → OnOk result (new ≡ written gate (0 ∷ []) old) → OnOk result (Only new after) → OnErr result (settled ≡ true → ⊥)
        → (c : List ℕ) → after c → GateIs settled front test c
    gate_closed before after old new test false result was reads torn wrote only failed c left = let from = torn c left in staged_on test from.0 c (was from.0 from.1) from.2
    gate_closed before after old new test true (Ok value) was reads torn wrote only failed c left =
        subst (λ e. Guarded front e) (sym (only c left ∙ wrote ∙ ap (λ k. written k (0 ∷ []) old) (sym long))) (closed_guarded test old (was old reads))
    gate_closed before after old new test true (Err error) was reads torn wrote only failed c left = absurd (failed refl)

    -- what the first of two writes leaves while the gate stays closed
    pub behind_guarded : (n : ℕ) (d c : List ℕ) → Guarded front d → Torn (gate + 1) n d c → Guarded front c
    behind_guarded n d c was torn = guarded_torn (gate + 1) n d c (omega (arith, long)) was torn

    pub cut_guarded : (d c : List ℕ) → Guarded front d → CutShort (gate + 1) d c → Guarded front c
    cut_guarded d c was cut = guarded_cut (gate + 1) d c (omega (arith, long)) was cut

    -- each image of a disk at rest
    pub rest_images : (leaves : List ℕ → Type 0) (content : List ℕ) → AtRest leaves content front → (c : List ℕ) → leaves c → Guarded front c
    rest_images leaves content rest c left = subst (λ e. Guarded front e) (sym (rest.durable c left ∙ rest.ends)) (rest_guarded rest.gate [] rest.closed)

    -- the tail was written behind the gate
    pub tail_is : (leaves : List ℕ → Type 0) (content new tail : List ℕ) (rest : AtRest leaves content front) → new ≡ written (gate + 1) tail content → new ≡ front ++ rest.gate ∷ tail
    tail_is leaves content new tail rest wrote =
        wrote ∙ ap (λ (l : List ℕ). written (gate + 1) tail l) rest.ends ∙ ap (λ k. written (k + 1) tail (front ++ rest.gate ∷ [])) (sym long) ∙ written_behind rest.gate tail

    pub tail_staged : (leaves : List ℕ → Type 0) (content new tail : List ℕ) → AtRest leaves content front → new ≡ written (gate + 1) tail content → Staged front (equals tail) new
    tail_staged leaves content new tail rest wrote = subst (λ e. Staged front (equals tail) e) (sym (tail_is leaves content new tail rest wrote)) (staged_here rest.gate (equals tail) tail (equals_itself tail))

    pub tail_guarded : (leaves : List ℕ → Type 0) (content new tail : List ℕ) → AtRest leaves content front → new ≡ written (gate + 1) tail content → Guarded front new
    tail_guarded leaves content new tail rest wrote = subst (λ e. Guarded front e) (sym (tail_is leaves content new tail rest wrote)) (rest_guarded rest.gate tail rest.closed)

    -- the gate was opened before a tail, or that failed
    pub gate_failed : (mid after : List ℕ → Type 0) (content tail : List ℕ) (settled : Bool)
        → Staged front (equals tail) content → Guarded front content → Only content mid → ((c : List ℕ) → after c → (d : List ℕ) × mid d × Torn gate 1 d c)
        → (settled ≡ true → (c : List ℕ) → after c → mid c)
        → (c : List ℕ) → after c → GateIs settled front (equals tail) c
    gate_failed mid after content tail false staged guarded only torn kept c left =
        let from = torn c left in staged_on (equals tail) from.0 c (subst (λ e. Staged front (equals tail) e) (sym (only from.0 from.1)) staged) from.2
    gate_failed mid after content tail true staged guarded only torn kept c left = subst (λ e. Guarded front e) (sym (only c (kept refl c left))) guarded

    pub gate_opened : (leaves after : List ℕ → Type 0) (content mid new tail : List ℕ) → AtRest leaves content front → mid ≡ written (gate + 1) tail content → new ≡ written gate (1 ∷ []) mid → Only new after → Opened after new front tail
    gate_opened leaves after content mid new tail rest wrote opened only = record {
      ends = opened ∙ ap (λ k. written k (1 ∷ []) mid) (sym long) ∙ ap (λ (l : List ℕ). written (length front) (1 ∷ []) l) (tail_is leaves content mid tail rest wrote) ∙ written_gate rest.gate 1 tail;
      durable = only;
    }
