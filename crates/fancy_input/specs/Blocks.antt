-- The bytes of a source in blocks.
use Rattle.std.specs.Prelude.{◌≡◌, ◌-◌, ◌<◌, ◌++◌, ℕ, List, Option, drop, length, option_map, slice_index, take}
use Rattle.fancy_input.specs.declared.blocks.Blocks.{Blocks}

-- the bytes of the block
abbrev pub block_of : {R : Type 0} → Blocks R → List ℕ
block_of b = take b.block b.read.items

-- the bytes of the source that follow the block, where they are known
abbrev pub following : {R : Type 0} → (R → Option (List ℕ)) → Blocks R → Option (List ℕ)
following remaining b = option_map (λ rest. drop b.block b.read.items ++ rest) (remaining b.reader)

-- the last byte is "\n"
abbrev pub EndsLine : List ℕ → Type 0
EndsLine bytes = (0 < length bytes) × (slice_index bytes (length bytes - 1) ≡ 10)
