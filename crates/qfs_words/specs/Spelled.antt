-- The words by which lines begin, in groups.
use Rattle.std.specs.Prelude.{ℕ, List, [], ◌∷◌, ◌++◌, find, codes, Option, option_map}
use Rattle.std.specs.Str.{bytes_eq}
use Rattle.qfs_model_grammar.specs.CommandWord as Does
use Rattle.qfs_model_grammar.specs.FirstWord.{FirstWord}
use Rattle.qfs_model_grammar.specs.FirstWord as First
use Rattle.qfs_model_grammar.specs.FirstWords.{Spelling, spelled}

-- the word among these that is written so
unfoldable pub word_among : List Spelling → List ℕ → Option FirstWord
word_among spellings text =
    option_map (λ (spelling : Spelling). spelling.word)
    (find (λ (spelling : Spelling). bytes_eq spelling.text text) spellings)

abbrev pub head_spellings : List Spelling
head_spellings =
    spelled (codes "qfs") First.Qfs
    ∷ spelled (codes "layout") First.Layout
    ∷ spelled (codes "servers") First.Servers
    ∷ spelled (codes "term") First.Term
    ∷ spelled (codes "audit") First.Audit
    ∷ spelled (codes "phase") First.Phase
    ∷ spelled (codes "actor") First.Actor
    ∷ spelled (codes "order") First.Order
    ∷ []

abbrev pub path_spellings : List Spelling
path_spellings =
    spelled (codes "mkdir") (First.Command Does.Mkdir)
    ∷ spelled (codes "rmdir") (First.Command Does.Rmdir)
    ∷ spelled (codes "remove") (First.Command Does.Remove)
    ∷ spelled (codes "rename") (First.Command Does.Rename)
    ∷ spelled (codes "list") (First.Command Does.List)
    ∷ spelled (codes "put") (First.Command Does.Put)
    ∷ spelled (codes "get") (First.Command Does.Get)
    ∷ spelled (codes "recover") (First.Command Does.Recover)
    ∷ spelled (codes "move") (First.Command Does.Move)
    ∷ []

abbrev pub other_spellings : List Spelling
other_spellings =
    spelled (codes "heal") (First.Command Does.Heal)
    ∷ spelled (codes "rebalance") (First.Command Does.Rebalance)
    ∷ spelled (codes "evacuate") (First.Command Does.Evacuate)
    ∷ spelled (codes "sweep") (First.Command Does.Sweep)
    ∷ spelled (codes "stop") (First.Command Does.Stop)
    ∷ spelled (codes "start") (First.Command Does.Start)
    ∷ spelled (codes "wipe") (First.Command Does.Wipe)
    ∷ spelled (codes "hibernate") (First.Command Does.Hibernate)
    ∷ spelled (codes "upgrade") (First.Command Does.Upgrade)
    ∷ spelled (codes "tick") (First.Command Does.Tick)
    ∷ spelled (codes "drop") (First.Command Does.Drop)
    ∷ spelled (codes "checkpoint") (First.Command Does.Checkpoint)
    ∷ spelled (codes "restart") (First.Command Does.Restart)
    ∷ []

abbrev pub command_spellings : List Spelling
command_spellings = path_spellings ++ other_spellings
