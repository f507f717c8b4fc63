-- How much a script may ask for, each limit named once.
use Rattle.std.specs.Prelude.{ℕ}

-- the most bytes and lines of a script's text
abbrev pub MOST_TEXT_BYTES : ℕ
MOST_TEXT_BYTES = 16777216

abbrev pub MOST_LINES : ℕ
MOST_LINES = 100000

-- the most phases, actors in all of them, and commands of an actor
abbrev pub MOST_PHASES : ℕ
MOST_PHASES = 16

abbrev pub MOST_ACTORS : ℕ
MOST_ACTORS = 64

abbrev pub MOST_COMMANDS : ℕ
MOST_COMMANDS = 4096

-- the most blocks of one put and of all puts together
abbrev pub MOST_BLOCKS_OF_PUT : ℕ
MOST_BLOCKS_OF_PUT = 65536

abbrev pub MOST_BLOCKS : ℕ
MOST_BLOCKS = 262144

-- the most bytes of the chunks of all puts together, with the parity slots and the zeros that fill last rows
abbrev pub MOST_BYTES_OF_CHUNKS : ℕ
MOST_BYTES_OF_CHUNKS = 3221225472

-- the last index of a block, the most budget of a heal, rebalance, evacuation or sweep, and the most ticks of a term or
-- of a hibernation
abbrev pub LAST_INDEX : ℕ
LAST_INDEX = 65535

abbrev pub MOST_BUDGET : ℕ
MOST_BUDGET = 100000

abbrev pub MOST_TICKS : ℕ
MOST_TICKS = 1000
