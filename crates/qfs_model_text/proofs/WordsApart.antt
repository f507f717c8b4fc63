-- A text of words is cut in one way only, where each word ends at a byte that it doesn't have.
use Rattle.std.proofs.Common.{◌≡◌, ℕ, ◌+◌, ◌%◌, ◌^◌, ◌<◌, ◌≤◌, List, [], ◌∷◌, ◌++◌, refl, sym, subst, arith, ◌∙◌, append_assoc}
use Rattle.std.specs.Prelude.{decimal}
use Rattle.std.proofs.lemmas.Fmt.{decimal_by_steps}
use Rattle.qfs_base.specs.EachLaws.{each_append}
use Rattle.qfs_base.specs.Table.{Each}
use Rattle.qfs_model_text.specs.Line.{Words, more_words}

-- a text that begins with such a byte
pub record Begins (Ends : ℕ → Type 0) (text : List ℕ) : Type 0 where
  pub byte : ℕ
  pub rest : List ℕ
  pub ends : Ends byte
  pub is : text ≡ byte ∷ rest

pub record SameCut (a b : List ℕ) (s t : List ℕ) : Type 0 where
  pub front : a ≡ b
  pub back : s ≡ t

-- what stands before the first byte that ends a word
pub same_cut : (Inside Ends : ℕ → Type 0) → ((byte : ℕ) → Inside byte → Ends byte → ⊥) → (a b s t : List ℕ)
    → Each Inside a → Each Inside b → Begins Ends s → Begins Ends t → a ++ s ≡ b ++ t → SameCut a b s t
same_cut Inside Ends apart [] [] s t of_a of_b of_s of_t same = record { front = refl; back = same }
same_cut Inside Ends apart [] (y ∷ b) s t of_a of_b of_s of_t same =
    let one : of_s.byte ∷ of_s.rest ≡ y ∷ (b ++ t) = sym of_s.is ∙ same in
    let head : y ≡ of_s.byte = cc in
    absurd (apart of_s.byte (subst Inside head of_b.0) of_s.ends)
same_cut Inside Ends apart (x ∷ a) [] s t of_a of_b of_s of_t same =
    let one : of_t.byte ∷ of_t.rest ≡ x ∷ (a ++ s) = sym of_t.is ∙ sym same in
    let head : x ≡ of_t.byte = cc in
    absurd (apart of_t.byte (subst Inside head of_a.0) of_t.ends)
same_cut Inside Ends apart (x ∷ a) (y ∷ b) s t of_a of_b of_s of_t same =
    let head : x ≡ y = cc in
    let tail : a ++ s ≡ b ++ t = cc in
    let more = same_cut Inside Ends apart a b s t of_a.1 of_b.1 of_s of_t tail in
    record { front = cc more.front; back = more.back }

-- ---- lines

-- no byte of a word is a blank or a line end
abbrev pub IsInWord : ℕ → Type 0
IsInWord byte = 33 ≤ byte

abbrev pub EndsWord : ℕ → Type 0
EndsWord byte = byte < 33

apart : (byte : ℕ) → IsInWord byte → EndsWord byte → ⊥
apart byte inside ends = absurd (omega arith)

-- the end of a line, or a blank before the next word
begins : (words : Words) → Begins EndsWord (more_words words ++ 10 ∷ [])
begins [] = record { byte = 10; rest = []; ends = omega arith; is = refl }
begins (word ∷ words) = record {
  byte = 32;
  rest = word ++ (more_words words ++ 10 ∷ []);
  ends = omega arith;
  is = append_assoc (32 ∷ word) (more_words words) (10 ∷ []);
}

pub same_words : (a b : Words) → Each (Each IsInWord) a → Each (Each IsInWord) b
    → more_words a ++ 10 ∷ [] ≡ more_words b ++ 10 ∷ [] → a ≡ b
same_words [] [] of_a of_b same = refl
same_words [] (word ∷ words) of_a of_b same = absurd (cc)
same_words (word ∷ words) [] of_a of_b same = absurd (cc)
same_words (first ∷ a) (second ∷ b) of_a of_b same =
    let left : (32 ∷ first) ++ (more_words a ++ 10 ∷ []) ≡ (32 ∷ second) ++ (more_words b ++ 10 ∷ []) =
    sym (append_assoc (32 ∷ first) (more_words a) (10 ∷ [])) ∙ same ∙ append_assoc (32 ∷ second) (more_words b) (10 ∷ []) in
    let below : first ++ (more_words a ++ 10 ∷ []) ≡ second ++ (more_words b ++ 10 ∷ []) = cc in
    let cut = same_cut IsInWord EndsWord apart first second (more_words a ++ 10 ∷ []) (more_words b ++ 10 ∷ []) of_a.0 of_b.0 (begins a) (begins b) below in
    let rest = same_words a b of_a.1 of_b.1 cut.back in
    let front = cut.front in
    cc

-- ---- digits

abbrev pub IsDigit : ℕ → Type 0
IsDigit byte = (48 ≤ byte) × (byte ≤ 57)

pub digits_of : (n : ℕ) → n < 2 ^ 64 → Each IsDigit (decimal n)
digits_of =
    decimal_by_steps (λ n ds. Each IsDigit ds) (λ n small. ((omega arith, omega arith), tt))
    (λ n ds big before. each_append IsDigit ds ((48 + n % 10) ∷ []) before ((omega arith, omega arith), tt))
