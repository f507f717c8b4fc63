-- Lines of plain words: what a line says is its words, and a text of such lines is its lines. For
-- the law `printed_scripts_are_read_back`.
use Rattle.std.proofs.Common.{◌≡◌, ◌∙◌, ap, refl, arith, ℕ, ◌≤◌, Bool, true, false, ◌&&◌, not, cond, List, [], ◌∷◌, ◌++◌, length, append_assoc, append-nil}
use Rattle.std.specs.Prelude.{All, nat_le, ◌==◌, filter, flat_map}
use Rattle.std.specs.List.{slice_split, list_all}
use Rattle.std.proofs.lemmas.Bool.{leb-true, le-leb, and_parts, and_from, ne_eqb}
use Rattle.std.proofs.lemmas.List.Splits.{slice_split_at, slice_split_none}
use Rattle.qfs_base.specs.EachLaws.{each_append, each_weaker, each_all}
use Rattle.qfs_base.specs.Table.{Each}
use Rattle.qfs_model_text.specs.Line.{Words, more_words}
use Rattle.qfs_model_grammar.specs.Lines.{is_line_end, is_blank, is_text_byte, is_text, is_word, line_words, text_lines, without_empty_end}

-- ---- words

-- a byte that is visible in ASCII
abbrev pub IsVisible : ℕ → Type 0
IsVisible byte = (33 ≤ byte) × (byte ≤ 126)

abbrev is_visible : ℕ → Bool
is_visible byte = nat_le 33 byte && nat_le byte 126

-- a word has at least one byte, and each is visible
pub record IsPlain (word : List ℕ) : Type 0 where
  pub some : 1 ≤ length word
  pub visible : Each IsVisible word

each_visible : (bytes : List ℕ) → list_all is_visible bytes ≡ true → Each IsVisible bytes
each_visible [] all = tt
each_visible (byte ∷ bytes) all =
    let parts = and_parts _ _ all in
    let range = and_parts _ _ parts.0 in
    ((leb-true _ _ range.0, leb-true _ _ range.1), each_visible bytes parts.1)

-- a literal word is tested by computing
pub plain : (word : List ℕ) → (nat_le 1 (length word) && list_all is_visible word) ≡ true
    → IsPlain word
plain word tested =
    let parts = and_parts _ _ tested in
    record { some = leb-true _ _ parts.0; visible = each_visible word parts.1 }

-- ---- the words of a line

no_blank : (word : List ℕ) → Each IsVisible word → All (λ byte. is_blank byte ≡ false) word
no_blank word each =
    each_all (λ byte. is_blank byte ≡ false) word
    (each_weaker IsVisible (λ byte. is_blank byte ≡ false)
    (λ byte is. ne_eqb byte 32 (λ same. omega (arith, same, is.0))) word each)

split_words : (word : List ℕ) (words : Words) → IsPlain word → Each IsPlain words
    → slice_split is_blank (word ++ more_words words) ≡ word ∷ words
split_words word [] is are = ap (slice_split is_blank) (append-nil word)
    ∙ slice_split_none is_blank word (no_blank word is.visible)
split_words word (next ∷ words) is are =
    slice_split_at is_blank word 32 (next ++ more_words words) (no_blank word is.visible) refl
    ∙ ap (λ more. word ∷ more) (split_words next words are.0 are.1)

keeps_word : (word : List ℕ) (words : Words) → 1 ≤ length word
    → filter is_word (word ∷ words) ≡ word ∷ filter is_word words
keeps_word [] words some = absurd (omega arith)
keeps_word (byte ∷ word) words some = kept (length (byte ∷ word) == 0)
    (ne_eqb _ _ (λ none. omega (arith, none)))
  where
    kept : (empty : Bool) → empty ≡ false → cond (not empty) ((byte ∷ word) ∷ filter is_word words)
        (filter is_word words) ≡ (byte ∷ word) ∷ filter is_word words
    kept true is = cc
    kept false is = refl

keeps_words : (words : Words) → Each IsPlain words → filter is_word words ≡ words
keeps_words [] are = refl
keeps_words (word ∷ words) are = keeps_word word words are.0.some
    ∙ ap (λ more. word ∷ more) (keeps_words words are.1)

pub words_are : (word : List ℕ) (words : Words) → IsPlain word → Each IsPlain words
    → line_words (word ++ more_words words) ≡ word ∷ words
unfolding line_words
words_are word words is are = ap (filter is_word) (split_words word words is are)
    ∙ keeps_words (word ∷ words) (is, are)

-- ---- the bytes of a line

abbrev IsLineByte : ℕ → Type 0
IsLineByte byte = (32 ≤ byte) × (byte ≤ 126)

of_word : (word : List ℕ) → IsPlain word → Each IsLineByte word
of_word word is = each_weaker IsVisible IsLineByte
    (λ byte visible. (omega (arith, visible.0), visible.1)) word is.visible

of_words : (words : Words) → Each IsPlain words → Each IsLineByte (more_words words)
of_words [] are = tt
of_words (word ∷ words) are = (
  (omega arith, omega arith),
  each_append IsLineByte word (more_words words) (of_word word are.0)
      (of_words words are.1),
)

line_bytes : (word : List ℕ) (words : Words) → IsPlain word → Each IsPlain words
    → Each IsLineByte (word ++ more_words words)
line_bytes word words is are = each_append IsLineByte word (more_words words) (of_word word is)
    (of_words words are)

all_text : (bytes : List ℕ) → Each IsLineByte bytes → list_all is_text_byte bytes ≡ true
all_text [] each = refl
all_text (byte ∷ bytes) each =
    and_from _ _ (and_from _ _ (le-leb _ _ each.0.0) (le-leb _ _ each.0.1)) (all_text bytes each.1)

pub line_is_text : (word : List ℕ) (words : Words) → IsPlain word → Each IsPlain words
    → is_text (word ++ more_words words) ≡ true
unfolding is_text
line_is_text word words is are = all_text (word ++ more_words words) (line_bytes word words is are)

-- ---- the lines of a text

-- no byte of a line ends it
abbrev pub HasNoEnd : List ℕ → Type 0
HasNoEnd body = All (λ byte. is_line_end byte ≡ false) body

pub line_has_no_end : (word : List ℕ) (words : Words) → IsPlain word → Each IsPlain words
    → HasNoEnd (word ++ more_words words)
line_has_no_end word words is are =
    each_all (λ byte. is_line_end byte ≡ false) (word ++ more_words words)
    (each_weaker IsLineByte (λ byte. is_line_end byte ≡ false)
    (λ byte in_line. ne_eqb byte 10 (λ same. omega (arith, same, in_line.0)))
    (word ++ more_words words) (line_bytes word words is are))

-- each of these lines with its end
abbrev pub ended : List (List ℕ) → List ℕ
ended bodies = flat_map (λ body. body ++ 10 ∷ []) bodies

pieces_are : (bodies : List (List ℕ)) → Each HasNoEnd bodies
    → slice_split is_line_end (ended bodies) ≡ bodies ++ [] ∷ []
pieces_are [] clear = refl
pieces_are (body ∷ bodies) clear =
    ap (slice_split is_line_end) (append_assoc body (10 ∷ []) (ended bodies))
    ∙ slice_split_at is_line_end body 10 (ended bodies) clear.0 refl
    ∙ ap (λ more. body ∷ more) (pieces_are bodies clear.1)

without_end : (bodies : List (List ℕ)) → without_empty_end (bodies ++ [] ∷ []) ≡ bodies
unfolding without_empty_end
without_end [] = refl
without_end (body ∷ []) = refl
without_end (body ∷ next ∷ bodies) = ap (λ more. body ∷ more) (without_end (next ∷ bodies))

pub lines_are : (bodies : List (List ℕ)) → Each HasNoEnd bodies → text_lines (ended bodies) ≡ bodies
unfolding text_lines
lines_are bodies clear = ap without_empty_end (pieces_are bodies clear) ∙ without_end bodies
