-- Words after a torn write: each word of its run is old or new, independently of the others.
use Rattle.std.specs.Prelude.{◌≡◌, ◌⊎◌, ◌<◌, ◌≤◌, ◌+◌, ℕ, List, [], ◌∷◌, length, slice_index, slice_set}
use Rattle.std.specs.Int.{IsBitSet}

-- Each word of the run is old or new, independently of the others. All other words are old.
abbrev pub Torn : List ℕ → ℕ → List ℕ → List ℕ → Type 0
Torn m at [] after = after ≡ m
Torn m at (w ∷ run) after = Torn m (at + 1) run after ⊎ Torn (slice_set m at w) (at + 1) run after

-- The same by index: outside the run a word is old, inside it old or new.
pub record IsMixture (m : List ℕ) (at : ℕ) (run after : List ℕ) : Type 0 where
  pub size : length after ≡ length m
  pub elsewhere : (k : ℕ) → (k < at) ⊎ (at + length run ≤ k) → slice_index after k ≡ slice_index m k
  pub each : (k : ℕ) → k < length run → (slice_index after (at + k) ≡ slice_index m (at + k))
      ⊎ (slice_index after (at + k) ≡ slice_index run k)

-- Word k of the run is new if bit k of the mask is set, else old.
pub record IsTornBy (mask : ℕ) (m : List ℕ) (at : ℕ) (run after : List ℕ) : Type 0 where
  pub size : length after ≡ length m
  pub elsewhere : (k : ℕ) → (k < at) ⊎ (at + length run ≤ k) → slice_index after k ≡ slice_index m k
  pub chosen : (k : ℕ) → k < length run → IsBitSet mask k → slice_index after (at + k) ≡ slice_index run k
  pub others : (k : ℕ) → k < length run → ¬ IsBitSet mask k → slice_index after (at + k) ≡ slice_index m (at + k)
