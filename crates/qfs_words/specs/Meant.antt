-- What the words by which lines begin stand for in the grammar.
use Rattle.qfs_model_grammar.specs.CommandWord as Does
use Rattle.qfs_model_grammar.specs.CommandWord.{CommandWord}
use Rattle.qfs_model_grammar.specs.FirstWord as First
use Rattle.qfs_model_grammar.specs.FirstWord.{FirstWord}
use Rattle.qfs_words.specs.declared.words.CommandWord as C
use Rattle.qfs_words.specs.declared.words.CommandWord.TheVariants as Word
use Rattle.qfs_words.specs.declared.words.FirstWord as F
use Rattle.qfs_words.specs.declared.words.FirstWord.TheVariants as Begins

unfoldable pub command_meant : C.CommandWord → CommandWord
command_meant Word.Mkdir = Does.Mkdir
command_meant Word.Rmdir = Does.Rmdir
command_meant Word.Remove = Does.Remove
command_meant Word.Rename = Does.Rename
command_meant Word.List = Does.List
command_meant Word.Put = Does.Put
command_meant Word.Get = Does.Get
command_meant Word.Recover = Does.Recover
command_meant Word.Move = Does.Move
command_meant Word.Heal = Does.Heal
command_meant Word.Rebalance = Does.Rebalance
command_meant Word.Evacuate = Does.Evacuate
command_meant Word.Sweep = Does.Sweep
command_meant Word.Stop = Does.Stop
command_meant Word.Start = Does.Start
command_meant Word.Wipe = Does.Wipe
command_meant Word.Hibernate = Does.Hibernate
command_meant Word.Upgrade = Does.Upgrade
command_meant Word.Tick = Does.Tick
command_meant Word.Drop = Does.Drop
command_meant Word.Checkpoint = Does.Checkpoint
command_meant Word.Restart = Does.Restart

unfoldable pub first_meant : F.FirstWord → FirstWord
first_meant Begins.Qfs = First.Qfs
first_meant Begins.Layout = First.Layout
first_meant Begins.Servers = First.Servers
first_meant Begins.Term = First.Term
first_meant Begins.Audit = First.Audit
first_meant Begins.Phase = First.Phase
first_meant Begins.Actor = First.Actor
first_meant Begins.Order = First.Order
first_meant (Begins.Command command) = First.Command (command_meant command)

abbrev pub of_command : C.CommandWord → FirstWord
of_command command = First.Command (command_meant command)
