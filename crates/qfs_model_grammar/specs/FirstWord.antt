-- The words by which lines begin.
use Rattle.qfs_model_grammar.specs.CommandWord.{CommandWord}

pub data FirstWord : Type 0 where
  Qfs : FirstWord
  Layout : FirstWord
  Servers : FirstWord
  Term : FirstWord
  Audit : FirstWord
  Phase : FirstWord
  Actor : FirstWord
  Order : FirstWord
  Command : CommandWord → FirstWord
