-- The sizes and limits of the file system, each named once.
use Rattle.std.specs.Prelude.{ℕ}

-- how many slots a block has, and how many of them hold the file's own bytes
abbrev pub SLOTS : ℕ
SLOTS = 9

abbrev pub DATA_SLOTS : ℕ
DATA_SLOTS = 6

-- the rows of an aligned group, which are read together; and the most rows of a chunk
abbrev pub WINDOW_ROWS : ℕ
WINDOW_ROWS = 16

abbrev pub MOST_ROWS : ℕ
MOST_ROWS = 1024

-- the most bytes of a file, and of a chunk
abbrev pub MOST_FILE_BYTES : ℕ
MOST_FILE_BYTES = 268435456

abbrev pub MOST_CHUNK_BYTES : ℕ
MOST_CHUNK_BYTES = 67108864

-- the bytes of a chunk record before those of its chunk, in its two versions
abbrev pub FIRST_HEAD_BYTES : ℕ
FIRST_HEAD_BYTES = 21

abbrev pub SECOND_HEAD_BYTES : ℕ
SECOND_HEAD_BYTES = 25

-- the most servers of a script, and the most steps of one run of an order line
abbrev pub MOST_SERVERS : ℕ
MOST_SERVERS = 64

abbrev pub LONGEST_RUN : ℕ
LONGEST_RUN = 4294967295

-- the last value of a number of 16 bits, of one of 32 and of one of 64
abbrev pub LAST_U16 : ℕ
LAST_U16 = 65535

abbrev pub LAST_U32 : ℕ
LAST_U32 = 4294967295

abbrev pub LAST_U64 : ℕ
LAST_U64 = 18446744073709551615
