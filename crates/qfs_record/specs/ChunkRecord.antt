-- What a chunk server keeps of a chunk: a head, and the chunk's bytes. The head is a mark, the chunk's key and the count
-- of its bytes, and in the second version the stripe of the layout too, so that a chunk explains itself.
use Rattle.std.specs.Prelude.{ℕ, ◌≡◌, ◌==◌, ◌≤◌, ◌++◌, ◌⊎◌, ◌&&◌, Bool, List, nat_eq, nat_le, nat_lt, length, codes, if◌then◌else◌, Option}
use Rattle.std.specs.List.{starts_with}
use Rattle.std.specs.Option.{option_map}
use Rattle.std.specs.Int.{w8, w32, is_power_of_two}
use Rattle.qfs_base.specs.Shape.{IsStripe}
use Rattle.qfs_base.specs.Sizes.{SLOTS, MOST_CHUNK_BYTES}
use Rattle.qfs_base.specs.declared.chunk.BlockId.{BlockId}
use Rattle.qfs_base.specs.declared.chunk.ChunkKey.{ChunkKey}
use Rattle.qfs_model_server.specs.Chunk.{Chunk}
use Rattle.qfs_record.specs.Part.{Part, number, pair, such, shaped, marked, AreBytes}
use Rattle.qfs_record.specs.declared.head.Head.{Head}

-- ---- a chunk's key

-- a file's number and the index of a block
abbrev pub block : Part BlockId
block = shaped (λ v. record { file = v.0; index = v.1 }) (λ b. (b.file, b.index)) (pair (number w32) (number w32))

-- a slot below 9
abbrev pub slot : Part ℕ
slot = such (λ s. nat_lt s SLOTS) (number w8)

-- block, slot and version
abbrev pub chunk_key : Part ChunkKey
chunk_key = shaped (λ v. record { block = v.0; slot = v.1.0; version = v.1.1 }) (λ k. (k.block, (k.slot, k.version))) (pair block (pair slot (number w32)))

-- up to 64 MiB
abbrev pub chunk_len : Part ℕ
chunk_len = such (λ n. nat_le n MOST_CHUNK_BYTES) (number w32)

-- a key and how many bytes its chunk has
abbrev pub fields : Part (ChunkKey × ℕ)
fields = pair chunk_key chunk_len

-- ---- heads

-- whether a number is the stripe of a layout
abbrev pub is_stripe : ℕ → Bool
is_stripe n = nat_le 16 n && nat_le n 65536 && is_power_of_two n

-- the stripe of a layout
abbrev pub stripe_part : Part ℕ
stripe_part = such is_stripe (number w32)

-- the heads of the first version and of the second
abbrev pub first_head : Part (ChunkKey × ℕ)
first_head = marked (codes "QFC1") fields

abbrev pub second_head : Part ((ChunkKey × ℕ) × ℕ)
second_head = marked (codes "QFC2") (pair fields stripe_part)

-- a form that is there, and the stripe that a head of that form names: the first names none
abbrev pub IsNamed : ℕ → ℕ → Type 0
IsNamed form stripe = ((form ≡ 1) × (stripe ≡ 0)) ⊎ ((form ≡ 2) × IsStripe stripe)

-- what has a spelling as a head
pub record IsHead (head : Head) : Type 0 where
  pub key : chunk_key.Fits head.key
  pub len : head.len ≤ MOST_CHUNK_BYTES
  pub named : IsNamed head.form head.stripe

-- the spelling of a head: 21 bytes in the first version, and 25 in the second
abbrev pub head_text : Head → List ℕ
head_text head =
    if head.form == 1 then first_head.text (head.key, head.len)
    else second_head.text ((head.key, head.len), head.stripe)

-- the head at the front of bytes, with what follows it
abbrev pub first_read : (ChunkKey × ℕ) × List ℕ → Head × List ℕ
first_read front = (record { key = front.0.0; form = 1; stripe = 0; len = front.0.1 }, front.1)

abbrev pub second_read : ((ChunkKey × ℕ) × ℕ) × List ℕ → Head × List ℕ
second_read front = (record { key = front.0.0.0; form = 2; stripe = front.0.1; len = front.0.0.1 }, front.1)

abbrev pub head_at : List ℕ → Option (Head × List ℕ)
head_at bytes =
    if starts_with nat_eq bytes (codes "QFC1") then option_map first_read (first_head.read bytes)
    else option_map second_read (second_head.read bytes)

-- the head at the front of bytes, if there is one
abbrev pub head_in : List ℕ → Option Head
head_in bytes = option_map (λ front. front.0) (head_at bytes)

-- whether bytes begin with the mark of the second version, whose head is longer
abbrev pub begins_second : List ℕ → Bool
begins_second bytes = starts_with nat_eq bytes (codes "QFC2")

-- a head in either version
abbrev pub head_part : Part Head
head_part = record { Fits = IsHead; text = head_text; read = head_at }

-- ---- records

-- the stripe that a record of this form names
abbrev pub named_stripe : ℕ → ℕ → ℕ
named_stripe form stripe = if form == 1 then 0 else stripe

-- the head of the record of a chunk, in the chunk's form and under a layout of this stripe
abbrev pub head_of : ℕ → ChunkKey → Chunk → Head
head_of stripe key chunk =
    record { key = key; form = chunk.form; stripe = named_stripe chunk.form stripe; len = length chunk.bytes }

-- what has a chunk record under a layout of this stripe
pub record IsChunk (stripe : ℕ) (key : ChunkKey) (chunk : Chunk) : Type 0 where
  pub head : IsHead (head_of stripe key chunk)
  pub bytes : AreBytes chunk.bytes

-- the one spelling of a chunk in its form, under a layout of this stripe
abbrev pub chunk_record : ℕ → ChunkKey → Chunk → List ℕ
chunk_record stripe key chunk = head_text (head_of stripe key chunk) ++ chunk.bytes
