-- The first words of lines, how they are written and where they may stand.
use Rattle.std.specs.Prelude.{ℕ, Bool, true, false, List, [], ◌∷◌, find, codes, Option, option_map}
use Rattle.std.specs.Str.{bytes_eq}
use Rattle.qfs_model_grammar.specs.CommandWord as Does
use Rattle.qfs_model_grammar.specs.FirstWord.{FirstWord}
use Rattle.qfs_model_grammar.specs.FirstWord as First
use Rattle.qfs_model_grammar.specs.LinePlace.{LinePlace}
use Rattle.qfs_model_grammar.specs.LinePlace as Behind

-- a first word and how it is written
pub record Spelling : Type 0 where
  pub text : List ℕ
  pub word : FirstWord

abbrev pub spelled : List ℕ → FirstWord → Spelling
spelled text word = record { text = text; word = word }

abbrev pub spellings : List Spelling
spellings =
    spelled (codes "qfs") First.Qfs
    ∷ spelled (codes "layout") First.Layout
    ∷ spelled (codes "servers") First.Servers
    ∷ spelled (codes "term") First.Term
    ∷ spelled (codes "audit") First.Audit
    ∷ spelled (codes "phase") First.Phase
    ∷ spelled (codes "actor") First.Actor
    ∷ spelled (codes "order") First.Order
    ∷ spelled (codes "mkdir") (First.Command Does.Mkdir)
    ∷ spelled (codes "rmdir") (First.Command Does.Rmdir)
    ∷ spelled (codes "remove") (First.Command Does.Remove)
    ∷ spelled (codes "rename") (First.Command Does.Rename)
    ∷ spelled (codes "list") (First.Command Does.List)
    ∷ spelled (codes "put") (First.Command Does.Put)
    ∷ spelled (codes "get") (First.Command Does.Get)
    ∷ spelled (codes "recover") (First.Command Does.Recover)
    ∷ spelled (codes "move") (First.Command Does.Move)
    ∷ spelled (codes "heal") (First.Command Does.Heal)
    ∷ spelled (codes "rebalance") (First.Command Does.Rebalance)
    ∷ spelled (codes "evacuate") (First.Command Does.Evacuate)
    ∷ spelled (codes "sweep") (First.Command Does.Sweep)
    ∷ spelled (codes "stop") (First.Command Does.Stop)
    ∷ spelled (codes "start") (First.Command Does.Start)
    ∷ spelled (codes "wipe") (First.Command Does.Wipe)
    ∷ spelled (codes "hibernate") (First.Command Does.Hibernate)
    ∷ spelled (codes "upgrade") (First.Command Does.Upgrade)
    ∷ spelled (codes "tick") (First.Command Does.Tick)
    ∷ spelled (codes "drop") (First.Command Does.Drop)
    ∷ spelled (codes "checkpoint") (First.Command Does.Checkpoint)
    ∷ spelled (codes "restart") (First.Command Does.Restart)
    ∷ []

-- the first word that is written so
unfoldable pub first_word : List ℕ → Option FirstWord
first_word text = option_map (λ (spelling : Spelling). spelling.word) (find (λ spelling. bytes_eq spelling.text text) spellings)

-- whether a line that begins so may stand behind that one. The lines `term` and `audit` may be absent; a phase
-- may have no actors and an actor no commands; nothing stands behind the order
unfoldable pub may_stand : LinePlace → FirstWord → Bool
may_stand Behind.Start First.Qfs = true
may_stand Behind.Qfs First.Layout = true
may_stand Behind.Layout First.Servers = true
may_stand Behind.Servers First.Term = true
may_stand Behind.Servers First.Audit = true
may_stand Behind.Servers First.Phase = true
may_stand Behind.Term First.Audit = true
may_stand Behind.Term First.Phase = true
may_stand Behind.Audit First.Phase = true
may_stand Behind.Phase First.Phase = true
may_stand Behind.Phase First.Actor = true
may_stand Behind.Phase First.Order = true
may_stand Behind.Actor First.Phase = true
may_stand Behind.Actor First.Actor = true
may_stand Behind.Actor First.Order = true
may_stand Behind.Actor (First.Command word) = true
may_stand place word = false

-- whether the text may end behind such a line
unfoldable pub may_be_last : LinePlace → Bool
may_be_last Behind.Phase = true
may_be_last Behind.Actor = true
may_be_last Behind.Order = true
may_be_last place = false
