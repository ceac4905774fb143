-- The memory that files take up, and the free space.
use Rattle.std.specs.Prelude.{ℕ, ◌+◌, ◌-◌, ◌*◌, ◌/◌, length}
use Rattle.std.specs.List.{sum_by}
use Rattle.std.specs.FinMap.{entries}
use Rattle.card_model.specs.declared.limits.TheConstants.{ENTRIES}
use Rattle.card_model.specs.declared.space.FreeSpace.{FreeSpace}
use Rattle.card_model.specs.FileTrees.{transparent, linear, cyclic, dedicated, elementary, Body, Kind, File, Tree}

-- The bytes reserved for the content of an EF. For records it is the capacity, whatever number exists.
abbrev pub reserved : Body → ℕ
reserved (transparent bytes) = length bytes
reserved (linear record_length capacity records) = capacity * record_length
reserved (cyclic record_length capacity records) = capacity * record_length

-- The number of 60-byte blocks for a size in bytes.
abbrev pub blocks_for : ℕ → ℕ
blocks_for size = (size + 59) / 60

-- The number of blocks of a file, 0 for a DF.
abbrev pub cost_of : Kind → ℕ
cost_of (dedicated name) = 0
cost_of (elementary short body) = blocks_for (reserved body)

abbrev pub cost : File → ℕ
cost file = cost_of file.kind

-- The free space of a card with `n` blocks for contents and 64 file entries. Each file takes one entry.
abbrev pub free_space : ℕ → Tree → FreeSpace
free_space n tree = record {
  blocks = n - sum_by (λ node. cost node.1) (entries tree);
  entries = ENTRIES - length (entries tree);
}
