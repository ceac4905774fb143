-- Words in sectors, each of which may lie in a spare one. The layout says which sector a word is in, and where that
-- sector begins.
use Rattle.std.specs.Prelude.{◌≡◌, ◌<◌, ◌≤◌, ◌+◌, ◌-◌, ◌*◌, ℕ, List, slice_index}
use Rattle.flash_device.specs.FlashLogs.{image}
use Rattle.spare_sectors.specs.SparePlaces.{lies_in}

-- the place of a word on the device, whose sectors have so many words
abbrev pub moved_cell : (ℕ → ℕ) → (ℕ → ℕ) → ℕ → ℕ → ℕ → List ℕ → ℕ → ℕ
moved_cell sector start size sectors spares map a =
    size * lies_in sectors spares map (sector a) + (a - start (sector a))

-- all words
unfoldable pub moved_words : (ℕ → ℕ) → (ℕ → ℕ) → ℕ → ℕ → ℕ → ℕ → List ℕ → List ℕ → List ℕ
moved_words sector start total size sectors spares m map =
    image (λ a. slice_index m (moved_cell sector start size sectors spares map a)) 0 total

-- The sectors lie one behind the other, each of them in one of the device.
pub record IsLayout (sector start : ℕ → ℕ) (total size sectors : ℕ) : Type 0 where
  pub most : (a : ℕ) → a < total → sector a ≤ 2 * sectors
  pub low : (a : ℕ) → a < total → start (sector a) ≤ a
  pub high : (a : ℕ) → a < total → a < start (sector a + 1)
  pub rise : (s : ℕ) → start s ≤ start (s + 1)
  pub small : (s : ℕ) → start (s + 1) ≤ start s + size
  pub last : start (2 * sectors + 1) ≡ total
