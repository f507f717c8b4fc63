-- What an answer unfolds to compute what a literal script says.
use Rattle.std.specs.Prelude.{⊤}
use Rattle.std.specs.Fmt.{digits}
use Rattle.std.specs.Int.RustNames.{count_ones}
use Rattle.hex.proofs.OnLiterals.{hex_on_literals}
use Rattle.qfs_first.specs.Commands.{one_name_path, hex_bytes, command_form}
use Rattle.qfs_first.specs.Head.{layout_form, servers_form}
use Rattle.qfs_first.specs.Lines.{text_lines, words_of}
use Rattle.qfs_first.specs.Numbers.{number_below}
use Rattle.qfs_first.specs.Script.{read_head, read_commands, read_lines}

unfoldable pub script_on_literals : ⊤
unfolding digits count_ones hex_on_literals one_name_path hex_bytes command_form layout_form servers_form text_lines words_of number_below read_head read_commands read_lines
script_on_literals = tt
