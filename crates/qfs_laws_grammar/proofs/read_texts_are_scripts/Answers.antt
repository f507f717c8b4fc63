use Rattle.qfs_laws_grammar.proofs.GivesScripts.{gives_scripts}
use Rattle.qfs_laws_grammar.proofs.read_texts_are_scripts.Goals as goal

pub returns : goal.returns
returns c = gives_scripts
