-- The only word of a line, read as a path, a budget or a server.
use Rattle.std.specs.Prelude.{ℕ}
use Rattle.qfs_base.specs.NameTree.{PathNames}
use Rattle.qfs_model_text.specs.Line.{Words}
use Rattle.qfs_model_grammar.specs.CommandLines.{budget_in, server_in}
use Rattle.qfs_model_grammar.specs.Counts.{one_word}
use Rattle.qfs_model_grammar.specs.Kinds.{path_in}
use Rattle.qfs_model_grammar.specs.Said.{Said, ◌>>=◌}

abbrev pub only_path : Words → Said PathNames
only_path words = one_word words >>= path_in

abbrev pub only_budget : Words → Said ℕ
only_budget words = one_word words >>= budget_in

abbrev pub only_server : ℕ → Words → Said ℕ
only_server servers words = one_word words >>= server_in servers
