-- The keys of the index and their order.
use Rattle.std.specs.Prelude.{◌≡◌, ◌⊎◌, ◌<◌, ℕ}
use Rattle.file_tree.specs.declared.steps.Key.{Key}

-- The key of a file with this parent and identifier.
abbrev pub key_for : ℕ → ℕ → Key
key_for parent identifier = record { parent = parent; identifier = identifier }

-- The order of keys: by parent, then by identifier.
abbrev pub IsBefore : Key → Key → Type 0
IsBefore one other = (one.parent < other.parent) ⊎ ((one.parent ≡ other.parent) × (one.identifier < other.identifier))
