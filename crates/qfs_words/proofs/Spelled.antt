-- The words by which lines begin, found group by group.
use Rattle.std.proofs.Common.{◌≡◌, ◌∙◌, sym, ap, refl, ℕ, Bool, true, false, cond, List, [], ◌∷◌, ◌++◌, Option, Some, None}
use Rattle.std.specs.Prelude.{find}
use Rattle.std.specs.Option.{option_map}
use Rattle.std.specs.Str.{bytes_eq}
use Rattle.std.proofs.lemmas.Bool.{both_ways, false_from_ne_true}
use Rattle.std.proofs.lemmas.Slice.Eq.{bytes_eq-Decides}
use Rattle.qfs_model_grammar.specs.FirstWord.{FirstWord}
use Rattle.qfs_model_grammar.specs.FirstWords.{Spelling, spelled, first_word}
use Rattle.qfs_words.specs.declared.words.CommandWord as C
use Rattle.qfs_words.specs.declared.words.FirstWord as F
use Rattle.qfs_words.specs.declared.words.FirstWord.TheVariants as Begins
use Rattle.qfs_words.specs.Meant.{first_meant, of_command}
use Rattle.qfs_words.specs.Spelled.{word_among, head_spellings, path_spellings, other_spellings, command_spellings}

-- ---- two groups, one after the other

found_at : (text : List ℕ) (b : Bool) (spelling : Spelling) (first more : List Spelling) (word : FirstWord)
    → (word_among first text ≡ Some word → word_among (first ++ more) text ≡ Some word)
    → option_map (λ (s : Spelling). s.word) (cond b (Some spelling) (find (λ (s : Spelling). bytes_eq s.text text) first)) ≡ Some word
    → option_map (λ (s : Spelling). s.word) (cond b (Some spelling) (find (λ (s : Spelling). bytes_eq s.text text) (first ++ more))) ≡ Some word
unfolding word_among
found_at text true spelling first more word further is = is
found_at text false spelling first more word further is = further is

found_first : (text : List ℕ) (first more : List Spelling) (word : FirstWord) → word_among first text ≡ Some word → word_among (first ++ more) text ≡ Some word
unfolding word_among
found_first text [] more word is = cc is
found_first text (spelling ∷ first) more word is =
    found_at text (bytes_eq spelling.text text) spelling first more word (found_first text first more word) is

passed_at : (text : List ℕ) (b : Bool) (spelling : Spelling) (first more : List Spelling)
    → (word_among first text ≡ None → word_among (first ++ more) text ≡ word_among more text)
    → option_map (λ (s : Spelling). s.word) (cond b (Some spelling) (find (λ (s : Spelling). bytes_eq s.text text) first)) ≡ None
    → option_map (λ (s : Spelling). s.word) (cond b (Some spelling) (find (λ (s : Spelling). bytes_eq s.text text) (first ++ more))) ≡ word_among more text
unfolding word_among
passed_at text true spelling first more further is = cc is
passed_at text false spelling first more further is = further is

passed_first : (text : List ℕ) (first more : List Spelling) → word_among first text ≡ None → word_among (first ++ more) text ≡ word_among more text
unfolding word_among
passed_first text [] more is = refl
passed_first text (spelling ∷ first) more is =
    passed_at text (bytes_eq spelling.text text) spelling first more (passed_first text first more) is

mapped_none : {A B : Type 0} (f : A → B) (found : Option A) → None ≡ found → None ≡ option_map f found
mapped_none f found is = ap (option_map f) is

all_spelled : (text : List ℕ) → word_among (head_spellings ++ command_spellings) text ≡ first_word text
unfolding word_among first_word
all_spelled text = refl

-- ---- commands

pub among_first : (text : List ℕ) (command : C.CommandWord) → Some (of_command command) ≡ word_among path_spellings text → Some (of_command command) ≡ word_among command_spellings text
among_first text command is = sym (found_first text path_spellings other_spellings (of_command command) (sym is))

pub among_others : (text : List ℕ) (found : Option C.CommandWord) → None ≡ word_among path_spellings text → option_map of_command found ≡ word_among other_spellings text → option_map of_command found ≡ word_among command_spellings text
among_others text found none is = is ∙ sym (passed_first text path_spellings other_spellings (sym none))

-- ---- all words

pub first_of_heads : (text : List ℕ) (first : F.FirstWord) → Some (first_meant first) ≡ word_among head_spellings text → Some (first_meant first) ≡ first_word text
first_of_heads text first is = sym (found_first text head_spellings command_spellings (first_meant first) (sym is)) ∙ all_spelled text

behind_heads : (text : List ℕ) (found : Option FirstWord) → None ≡ word_among head_spellings text → found ≡ word_among command_spellings text → found ≡ first_word text
behind_heads text found none is = is ∙ sym (passed_first text head_spellings command_spellings (sym none)) ∙ all_spelled text

pub first_of_commands : (text : List ℕ) (command : C.CommandWord) → None ≡ word_among head_spellings text → Some (of_command command) ≡ word_among command_spellings text → Some (first_meant (Begins.Command command)) ≡ first_word text
unfolding first_meant
first_of_commands text command none is = behind_heads text (Some (of_command command)) none is

pub first_of_none : (text : List ℕ) → None ≡ word_among head_spellings text → None ≡ word_among command_spellings text → None ≡ first_word text
first_of_none text none is = behind_heads text None none is

-- ---- one group

pub turned : (text word : List ℕ) (b : Bool) → bytes_eq text word ≡ b → bytes_eq word text ≡ b
turned text word true is = (bytes_eq-Decides word text).1 (sym ((bytes_eq-Decides text word).0 is))
turned text word false is = false_from_ne_true _ (λ same. both_ways _ is ((bytes_eq-Decides text word).1 (sym ((bytes_eq-Decides word text).0 same))))

pub found_here : (text word : List ℕ) (first : FirstWord) (more : List Spelling) → bytes_eq text word ≡ true
    → Some first ≡ word_among (spelled word first ∷ more) text
unfolding word_among
found_here text word first more is =
    sym (ap (λ b. option_map (λ (s : Spelling). s.word) (cond b (Some (spelled word first)) (find (λ (s : Spelling). bytes_eq s.text text) more))) (turned text word true is))

pub passed_here : (text word : List ℕ) (first : FirstWord) (more : List Spelling) (found : Option FirstWord) → bytes_eq text word ≡ false
    → found ≡ word_among more text → found ≡ word_among (spelled word first ∷ more) text
unfolding word_among
passed_here text word first more found other is =
    is ∙ sym (ap (λ b. option_map (λ (s : Spelling). s.word) (cond b (Some (spelled word first)) (find (λ (s : Spelling). bytes_eq s.text text) more))) (turned text word false other))

pub none_here : (text : List ℕ) → None ≡ word_among [] text
unfolding word_among
none_here text = refl
