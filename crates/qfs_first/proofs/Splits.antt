-- A text is its first piece and the pieces of what stands behind it.
use Rattle.std.proofs.Common.{◌≡◌, ◌∙◌, ap, refl, arith, ℕ, ◌+◌, ◌-◌, ◌<◌, ◌≤◌, Bool, true, false, List, [], ◌∷◌, length, take, drop, Option, Some, None}
use borrow.Author.Tests.{ltb-true, ltb-false}
use Rattle.std.specs.Prelude.{All, position, is_some, not, IsTrue, ◌↔◌}
use Rattle.std.specs.List.{position_or_len, slice_split}
use Rattle.std.specs.Borrow.{Bor}
use Rattle.std.proofs.lemmas.Grind.{common_steps}
use Rattle.std.proofs.lemmas.List.Splits.{slice_split_first, slice_split_none, length-slice_split}
use Rattle.std.proofs.lemmas.List.Sums.{fails_before_first}
use Rattle.std.proofs.lemmas.Option.{cond_some}
use Rattle.qfs_base.specs.ListLaws.{cond_stopped}
use Rattle.qfs_first.specs.Lines.{is_line_end, is_blank, text_lines, words_of, words_left, without_empty_end}

split_at : (p : ℕ → Bool) (text : List ℕ) (at : ℕ) → position p text ≡ Some at → slice_split p text ≡ take at text ∷ slice_split p (take (length text - (at + 1)) (drop (at + 1) text))
split_at p text at found =
    let place = cond_some _ _ _ found in
    let inside : position_or_len p text < length text = ltb-true _ _ place.0 in
    let at_is : position_or_len p text ≡ at = place.1 in
    let cut : slice_split p text ≡ take at text ∷ slice_split p (drop (at + 1) text) = rw (← at_is) (slice_split_first p text 0 inside) in
    let rest : take (length text - (at + 1)) (drop (at + 1) text) ≡ drop (at + 1) text = grind (arith, common_steps) in
    rw rest cut

split_nowhere : (p : ℕ → Bool) (text : List ℕ) → position p text ≡ None → slice_split p text ≡ text ∷ []
split_nowhere p text absent =
    let past : length text ≤ position_or_len p text = ltb-false _ _ (cond_stopped _ _ absent) in
    let clear : All (λ byte. p byte ≡ false) text = λ k d inside. fails_before_first p text k d (omega arith) in
    slice_split_none p text clear

pub words_at : (line : List ℕ) (at : ℕ) → position is_blank line ≡ Some at → words_of line ≡ take at line ∷ words_of (take (length line - (at + 1)) (drop (at + 1) line))
unfolding words_of
words_at line at found = split_at is_blank line at found

pub words_nowhere : (line : List ℕ) → position is_blank line ≡ None → words_of line ≡ line ∷ []
unfolding words_of
words_nowhere line absent = split_nowhere is_blank line absent

-- a line has a word, if only an empty one
pub some_word : (line : List ℕ) → words_of line ≡ [] → ⊥
unfolding words_of
some_word line none = absurd (omega (arith, length-slice_split is_blank line, ap length none))

-- words are left exactly where something of the line is left
pub none_left : (left : Option (Bor (List ℕ))) (done : Bool) → is_some left ≡ not done → IsTrue done ↔ (words_left left ≡ [])
none_left None true is = (λ _. refl, λ _. refl)
none_left None false is = cc
none_left (Some line) true is = cc
none_left (Some line) false is = (λ never. cc never, λ none. absurd (some_word line.now none))

-- the empty text has no line
pub no_lines : (text : List ℕ) → length text ≡ 0 → text_lines text ≡ []
unfolding text_lines
no_lines [] none = refl
no_lines (byte ∷ text) none = absurd (omega arith)

-- a piece before others is a line
without_empty_end-cons : (piece : List ℕ) (pieces : List (List ℕ)) → 0 < length pieces → without_empty_end (piece ∷ pieces) ≡ piece ∷ without_empty_end pieces
without_empty_end-cons piece [] some = absurd (omega arith)
without_empty_end-cons piece (next ∷ pieces) some = refl

pub lines_at : (text : List ℕ) (at : ℕ) → position is_line_end text ≡ Some at → text_lines text ≡ take at text ∷ text_lines (take (length text - (at + 1)) (drop (at + 1) text))
unfolding text_lines
lines_at text at found =
    let rest = take (length text - (at + 1)) (drop (at + 1) text) in
    ap without_empty_end (split_at is_line_end text at found)
    ∙ without_empty_end-cons (take at text) (slice_split is_line_end rest) (omega (arith, length-slice_split is_line_end rest))

-- the last line lacks its end
lone_line : (text : List ℕ) → 0 < length text → without_empty_end (text ∷ []) ≡ text ∷ []
lone_line [] some = absurd (omega arith)
lone_line (byte ∷ text) some = grind (arith, common_steps)

pub lines_nowhere : (text rest : List ℕ) → 0 < length text → length rest ≡ 0 → position is_line_end text ≡ None → text_lines text ≡ text ∷ text_lines rest
unfolding text_lines
lines_nowhere text [] some none absent = ap without_empty_end (split_nowhere is_line_end text absent) ∙ lone_line text some
lines_nowhere text (byte ∷ rest) some none absent = absurd (omega arith)
