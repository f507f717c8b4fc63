use Rattle.qfs_laws_code.proofs.Blocks.{block_words}
use Rattle.qfs_laws_code.proofs.slots_of_blocks_are_code_words.Goals as goal

pub returns : goal.returns
returns c = block_words
