-- A slot that is restored from six others of code words is that slot.
use Rattle.std.proofs.Common.{◌≡◌, ℕ, ◌<◌, ◌≤◌, Bool, true, false, cond, ◌==◌, ltb, List, [], ◌∷◌, length, get_or, map, bit_xor, refl, sym, ap, ap₂, ◌∙◌, arith, zero-add, eqb-true, inl, inr, ⊎_elim, ◌&&◌, true≢false}
use Rattle.std.proofs.lemmas.Bool.{cases_Bool, and_parts, ltb-true}
use Rattle.std.proofs.lemmas.List.FromFn.{fill_by_all, length-map-range_with_len, get_or-map-range_with_len}
use Rattle.std.specs.Int.Bits.{xor_zero_r}
use Rattle.std.specs.List.{list_all, range_with_len}
use Rattle.qfs_base.specs.Mask.{all_slots, has_slot, IsMask}
use Rattle.qfs_galois.proofs.Additive.{xor_twice}
use Rattle.qfs_model_slot.specs.CodeWord.{column, slot_at, IsCodeWord, AreCodeWords}
use Rattle.qfs_model_slot.specs.Restored.{dot, weighed, counts_of, cross, without_slots, combination, scaled_to, equation, weight, weights_by, weights, restored}
use Rattle.qfs_code.proofs.Dot.{dot-xor, dot-only, dot_same, only, all_bytes}
use Rattle.qfs_code.proofs.Columns.{length-column, get_or-column, length-weighed, get_or-weighed, weighed_by_bytes}
use Rattle.qfs_code.proofs.Words.{combination_meets}
use Rattle.qfs_code.proofs.WantedSlot.{equation_are_bytes, counts_one, counts_none}

same_range : (f g : ℕ → ℕ) (n : ℕ) → ((i : ℕ) → i < n → f i ≡ g i) → map f (range_with_len 0 n) ≡ map g (range_with_len 0 n)
same_range f g n h =
    fill_by_all g (map f (range_with_len 0 n)) n 0 (length-map-range_with_len f 0 n)
    (λ i l. get_or-map-range_with_len f 0 n i i 0 l (zero-add i) ∙ h i l)

equal_from_sum : (x y : ℕ) → bit_xor x y ≡ 0 → x ≡ y
equal_from_sum x y h = sym (xor_zero_r x) ∙ ap (bit_xor x) (sym h) ∙ xor_twice x y

-- a combination that is made of three bytes
three_meet : (xs word : List ℕ) → length xs ≡ 3 → list_all (λ x. ltb x 256) xs ≡ true → IsCodeWord word
    → dot (map (λ j. dot xs (counts_of j)) all_slots) word ≡ 0
three_meet [] word long _ _ = absurd (omega arith)
three_meet (a ∷ []) word long _ _ = absurd (omega arith)
three_meet (a ∷ b ∷ []) word long _ _ = absurd (omega arith)
three_meet (a ∷ b ∷ c ∷ []) word long bytes code =
    let first = and_parts (ltb a 256) (ltb b 256 && (ltb c 256 && true)) bytes in
    let second = and_parts (ltb b 256) (ltb c 256 && true) first.1 in
    let third = and_parts (ltb c 256) true second.1 in
    combination_meets a b c word (ltb-true a 256 first.0) (ltb-true b 256 second.0) (ltb-true c 256 third.0) code
three_meet (a ∷ b ∷ c ∷ d ∷ xs) word long _ _ = absurd (omega arith)

length-equation : (have : List ℕ) (want : ℕ) → length (equation have want) ≡ 3
unfolding equation scaled_to combination without_slots cross
length-equation have want = refl

-- ---- slots that aren't at hand have no influence

module _ (have : List ℕ) (want : ℕ) (nine others : List (List ℕ)) (long : length nine ≡ length others)
    (agree : (j : ℕ) → has_slot have j ≡ true → slot_at nine j ≡ slot_at others j) where
  pub same_bytes : (t : ℕ) → dot (weights have want) (column nine t) ≡ dot (weights have want) (column others t)
  unfolding weights weights_by weight
  same_bytes t =
      let K = weight have (equation have want) in
      let lengths = length-column nine t ∙ long ∙ sym (length-column others t) in
      dot_same K 0 9 (column nine t) (column others t) lengths
      (λ i l. ⊎_elim
      (λ (here : has_slot have i ≡ true). inr (get_or-column nine t i ∙ ap (λ s. get_or s t 0) (agree i here) ∙ sym (get_or-column others t i)))
      (λ (away : has_slot have i ≡ false). inl (ap K (zero-add i) ∙ ap (λ b. cond b (dot (equation have want) (counts_of i)) 0) away))
      (cases_Bool (has_slot have i)))

  same_weighed : (size : ℕ) → weighed (weights have want) size nine ≡ weighed (weights have want) size others
  same_weighed size =
      weighed_by_bytes (weighed (weights have want) size nine) (weights have want) size others (length-weighed (weights have want) size nine)
      (λ t l. get_or-weighed (weights have want) size nine t l ∙ same_bytes t)

-- ---- the wanted byte of a code word

module _ (have : List ℕ) (want : ℕ) (mask : IsMask have) (enough : 6 ≤ length have) (lw : want < 9) (missing : has_slot have want ≡ false) where
  -- the equation, as what the slots at hand count and the wanted slot
  parted : (j : ℕ) → j < 9 → dot (equation have want) (counts_of j) ≡ bit_xor (weight have (equation have want) j) (only want j)
  unfolding weight only
  parted j lj =
      let count = dot (equation have want) (counts_of j) in
      let P : Bool → Bool → ℕ = λ at_hand wanted. bit_xor (cond at_hand count 0) (cond wanted 1 0) in
      let at = has_slot have j in
      let is = j == want in
      let wanted_missing : at ≡ true → is ≡ true → ⊥ =
      λ (here : at ≡ true) (e : is ≡ true). true≢false (sym here ∙ ap (has_slot have) (eqb-true j want e) ∙ missing) in
      ⊎_elim
      (λ (here : at ≡ true). ⊎_elim (λ (e : is ≡ true). absurd (wanted_missing here e))
      (λ (other : is ≡ false). sym (ap₂ P here other ∙ xor_zero_r count)) (cases_Bool is))
      (λ (away : at ≡ false). ⊎_elim
      (λ (e : is ≡ true). ap (λ i. dot (equation have want) (counts_of i)) (eqb-true j want e) ∙ counts_one have want mask enough lw missing ∙ sym (ap₂ P away e))
      (λ (other : is ≡ false). counts_none have want mask enough lw missing j lj away other ∙ sym (ap₂ P away other)) (cases_Bool is))
      (cases_Bool at)

  -- what the slots at hand sum up to is the wanted byte
  pub restored_byte : (word : List ℕ) → IsCodeWord word → dot (weights have want) word ≡ get_or word want 0
  unfolding weights weights_by
  restored_byte word code =
      let e = equation have want in
      let K = weight have e in
      let whole = three_meet e word (length-equation have want) (equation_are_bytes have want mask enough lw missing) code in
      let split = ap (λ ws. dot ws word) (same_range (λ j. dot e (counts_of j)) (λ j. bit_xor (K j) (only want j)) 9 parted)
      ∙ dot-xor K (only want) all_slots word in
      let wanted = ap (λ w. dot (map (only w) all_slots) word) (sym (zero-add want)) ∙ dot-only 0 9 want word lw (all_bytes word code.bytes) in
      equal_from_sum (dot (map K all_slots) word) (get_or word want 0)
      (ap (bit_xor (dot (map K all_slots) word)) (sym wanted) ∙ sym split ∙ whole)

  pub weighed_is_slot : (size : ℕ) (nine slots : List (List ℕ)) → length nine ≡ 9 → AreCodeWords size slots
      → ((j : ℕ) → has_slot have j ≡ true → slot_at nine j ≡ slot_at slots j) → weighed (weights have want) size nine ≡ slot_at slots want
  weighed_is_slot size nine slots long code agree =
      sym (weighed_by_bytes (slot_at slots want) (weights have want) size nine (code.sizes want [] (omega (arith, code.nine)))
      (λ t l. sym (same_bytes have want nine slots (long ∙ sym code.nine) agree t ∙ restored_byte (column slots t) (code.words t l) ∙ get_or-column slots t want)))

-- ---- the two ways

module _ (have : List ℕ) (size : ℕ) (nine : List (List ℕ)) (want : ℕ) where
  choose : Bool → List ℕ
  choose here = cond here (slot_at nine want) (weighed (weights have want) size nine)

  pub restored_at_hand : has_slot have want ≡ true → restored have size nine want ≡ slot_at nine want
  unfolding restored choose
  restored_at_hand here = ap choose here

  pub restored_from_others : has_slot have want ≡ false → restored have size nine want ≡ weighed (weights have want) size nine
  unfolding restored choose
  restored_from_others away = ap choose away

pub restored_is_slot : (have : List ℕ) (want size : ℕ) (nine slots : List (List ℕ)) → IsMask have → 6 ≤ length have → want < 9 → length nine ≡ 9
    → AreCodeWords size slots → ((j : ℕ) → has_slot have j ≡ true → slot_at nine j ≡ slot_at slots j)
    → restored have size nine want ≡ slot_at slots want
restored_is_slot have want size nine slots mask enough lw long code agree =
    ⊎_elim
    (λ (here : has_slot have want ≡ true). restored_at_hand have size nine want here ∙ agree want here)
    (λ (away : has_slot have want ≡ false).
    restored_from_others have size nine want away ∙ weighed_is_slot have want mask enough lw away size nine slots long code agree)
    (cases_Bool (has_slot have want))

pub no_influence : (have : List ℕ) (size : ℕ) (nine others : List (List ℕ)) (want : ℕ) → length nine ≡ length others
    → ((j : ℕ) → has_slot have j ≡ true → slot_at nine j ≡ slot_at others j) → restored have size nine want ≡ restored have size others want
no_influence have size nine others want long agree =
    ⊎_elim
    (λ (here : has_slot have want ≡ true). restored_at_hand have size nine want here ∙ agree want here ∙ sym (restored_at_hand have size others want here))
    (λ (away : has_slot have want ≡ false).
    restored_from_others have size nine want away ∙ same_weighed have want nine others long agree size ∙ sym (restored_from_others have size others want away))
    (cases_Bool (has_slot have want))
