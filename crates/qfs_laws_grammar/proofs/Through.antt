-- From one state of reading to another through printed lines. For the law
-- `printed_scripts_are_read_back`.
use Rattle.std.proofs.Common.{◌≡◌, ◌∙◌, sym, ap, refl, subst, arith, ℕ, ◌+◌, ◌≤◌, Bool, true, List, [], ◌∷◌, ◌++◌, length, Option, Ok}
use Rattle.std.specs.Prelude.{ok_or, nat_le, flat_map, if◌then◌else◌}
use Rattle.std.proofs.lemmas.Bool.{le-leb}
use Rattle.qfs_base.specs.Table.{Each}
use Rattle.qfs_base.specs.declared.script.ScriptCause.TheVariants as Cause
use Rattle.qfs_model_script.specs.Limits.{MOST_LINES}
use Rattle.qfs_model_script.specs.ScriptText.{Lines}
use Rattle.qfs_model_text.specs.Line.{Words, more_words, line}
use Rattle.qfs_model_grammar.specs.FirstWord.{FirstWord}
use Rattle.qfs_model_grammar.specs.FirstWords.{first_word, may_stand}
use Rattle.qfs_model_grammar.specs.Lines.{is_text, line_words, text_lines}
use Rattle.qfs_model_grammar.specs.ReadScript.{at_line, first_in, first_and_more, read_words, read_line, read_lines}
use Rattle.qfs_model_grammar.specs.Said.{Said, ◌>>=◌, if_kept}
use Rattle.qfs_model_grammar.specs.SoFar.{SoFar, take_line}
use Rattle.qfs_laws_grammar.proofs.PlainWords.{IsPlain, HasNoEnd, ended, words_are, line_is_text, line_has_no_end, lines_are}
use Rattle.qfs_laws_grammar.proofs.PrintedCommands.{on, Spells}

-- ---- one line

-- this line, printed with its end, is read from one state to the next
pub record Reads (so : SoFar) (text : List ℕ) (next : SoFar) : Type 0 where
  pub body : List ℕ
  pub is : text ≡ body ++ 10 ∷ []
  pub clear : HasNoEnd body
  pub reads : (number : ℕ) → number ≤ MOST_LINES → read_line so number body ≡ Ok next

stands_in : (so : SoFar) (word : List ℕ) (first : FirstWord) → Spells word first
    → may_stand so.place first ≡ true → first_in so.place word ≡ Ok first
unfolding first_in if_kept
stands_in so word first spelled stands =
    on (ok_or (first_word word) Cause.Word) first
    (λ first. if_kept (may_stand so.place first) Cause.Word first)
    (ap (λ (found : Option FirstWord). ok_or found Cause.Word) spelled.first)
    ∙ ap (λ b. if_kept b Cause.Word first) stands

words_read : (so next : SoFar) (word : List ℕ) (words : Words) (first : FirstWord)
    → Spells word first → may_stand so.place first ≡ true
    → take_line so first words ≡ Ok next → read_words so (word ∷ words) ≡ Ok next
unfolding read_words first_and_more
words_read so next word words first spelled stands says =
    ap (λ (remark : Bool). if remark then Ok so else first_and_more so word words) spelled.no_remark
    ∙ on (first_in so.place word) first (λ first. take_line so first words)
    (stands_in so word first spelled stands)
    ∙ says

body_read : (so next : SoFar) (word : List ℕ) (words : Words) (first : FirstWord)
    → Spells word first → Each IsPlain words
    → may_stand so.place first ≡ true → take_line so first words ≡ Ok next
    → (number : ℕ) → number ≤ MOST_LINES → read_line so number (word ++ more_words words) ≡ Ok next
unfolding read_line if_kept
body_read so next word words first spelled are stands says number few =
    let behind = λ (next : SoFar). if_kept (nat_le number MOST_LINES) Cause.Limit next in
    let text = word ++ more_words words in
    on (if_kept (is_text text) Cause.NotText text) text
    (λ text. read_words so (line_words text) >>= behind)
    (ap (λ b. if_kept b Cause.NotText text) (line_is_text word words spelled.plain are))
    ∙ ap (λ words. read_words so words >>= behind) (words_are word words spelled.plain are)
    ∙ on (read_words so (word ∷ words)) next behind
    (words_read so next word words first spelled stands says)
    ∙ ap (λ b. if_kept b Cause.Limit next) (le-leb _ _ few)

pub line_read : (so next : SoFar) (word : List ℕ) (words : Words) (first : FirstWord)
    → Spells word first → Each IsPlain words
    → may_stand so.place first ≡ true → take_line so first words ≡ Ok next
    → Reads so (line word words) next
line_read so next word words first spelled are stands says = record {
  body = word ++ more_words words;
  is = refl;
  clear = line_has_no_end word words spelled.plain are;
  reads = body_read so next word words first spelled are stands says;
}

-- ---- one line after another

abbrev pub Through : SoFar → Lines → SoFar → Type 0
Through so [] last = so ≡ last
Through so (text ∷ lines) last = (next : SoFar) × (Reads so text next × Through next lines last)

pub through_append : (so next last : SoFar) (front behind : Lines) → Through so front next
    → Through next behind last → Through so (front ++ behind) last
through_append so next last [] behind first second =
    subst (λ (state : SoFar). Through state behind last) (sym first) second
through_append so next last (text ∷ front) behind first second =
    (first.0, (first.1.0, through_append first.0 next last front behind first.1.1 second))

pub one_line : (so next : SoFar) (text : List ℕ) → Reads so text next → Through so (text ∷ []) next
one_line so next text reads = (next, (reads, refl))

-- the lines without their ends, and that they are read
pub record AllRead (so : SoFar) (lines : Lines) (last : SoFar) : Type 0 where
  pub bodies : List (List ℕ)
  pub is : flat_map (λ line. line) lines ≡ ended bodies
  pub clear : Each HasNoEnd bodies
  pub many : length bodies ≡ length lines
  pub reads : (number : ℕ) → number + length lines ≤ MOST_LINES + 1
      → read_lines so number bodies ≡ Ok last

one_more : (so next last : SoFar) (text : List ℕ) (lines : Lines) → Reads so text next
    → AllRead next lines last → AllRead so (text ∷ lines) last
unfolding read_lines
one_more so next last text lines first more = record {
  bodies = first.body ∷ more.bodies;
  is = ap (λ front. front ++ flat_map (λ line. line) lines) first.is
      ∙ ap (λ rest. (first.body ++ 10 ∷ []) ++ rest) more.is;
  clear = (first.clear, more.clear);
  many = omega (arith, more.many);
  reads = λ number few.
      ap (λ (said : Said SoFar). at_line number said >>=
      (λ next. read_lines next (number + 1) more.bodies))
      (first.reads number (omega (arith, few)))
      ∙ more.reads (number + 1) (omega (arith, few));
}

pub all_read : (so last : SoFar) (lines : Lines) → Through so lines last → AllRead so lines last
unfolding read_lines
all_read so last [] through = record {
  bodies = [];
  is = refl;
  clear = tt;
  many = refl;
  reads =
      λ number few. ap (λ (state : SoFar). Ok state) through;
}
all_read so last (text ∷ lines) through = one_more so through.0 last text lines through.1.0
    (all_read through.0 last lines through.1.1)

-- the lines of the whole text
pub text_lines_are : (so last : SoFar) (lines : Lines) (read : AllRead so lines last)
    → text_lines (flat_map (λ line. line) lines) ≡ read.bodies
text_lines_are so last lines read = ap text_lines read.is ∙ lines_are read.bodies read.clear
