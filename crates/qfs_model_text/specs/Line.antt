-- The words of a line and the lines of a text.
use Rattle.std.specs.Prelude.{ℕ, List, [], ◌∷◌, ◌++◌, flat_map}

-- a text of words, each of which is a list of bytes
abbrev pub Words : Type 0
Words = List (List ℕ)

-- a blank, and the word behind it
abbrev pub spaced : List ℕ → List ℕ
spaced word = 32 ∷ word

-- the words behind a first one, each after a blank
abbrev pub more_words : Words → List ℕ
more_words words = flat_map spaced words

-- a line: a first word and more with one blank between any two, and the end of the line
abbrev pub line : List ℕ → Words → List ℕ
line word words = word ++ more_words words ++ 10 ∷ []

-- a colon, and the bytes behind it
abbrev pub after_colon : List ℕ → List ℕ
after_colon bytes = 58 ∷ bytes
