-- Steps inside a search and a change of an index. No public clause uses these definitions.
use Rattle.std.specs.Prelude.{◌≡◌, ◌≢◌, ◌==◌, ◌<◌, ◌≤◌, ◌/◌, ◌++◌, ℕ, zero, suc, Bool, true, false, not}
use Rattle.std.specs.Prelude.{if◌then◌else◌, List, [], ◌∷◌}
use Rattle.std.specs.Prelude.{All, Contains, length, slice_index_or, Result, Ok, Err}
use Rattle.file_tree.specs.declared.entry.Entry.{Entry}
use Rattle.file_tree.specs.declared.steps.Key.{Key}
use Rattle.file_tree.specs.declared.steps.Place.{Place}
use Rattle.file_tree.specs.Keys.{IsBefore}
use Rattle.file_tree.specs.Table.{IsUsed}
use Rattle.file_tree.specs.Subtrees.{leads}
use Rattle.file_tree.specs.Indexes.{AreSorted, IsPlace, place_of}

-- The key of place `k`.
abbrev pub key_at : List Place → ℕ → Place → Key
key_at places k d = (slice_index_or places k d).key

-- All places before an index have smaller keys. `AreBehind`: all places from an index on have greater keys.
abbrev pub AreBefore : List Place → Key → ℕ → Type 0
AreBefore places key low = (k : ℕ) (d : Place) → k < low → IsBefore (key_at places k d) key

abbrev pub AreBehind : List Place → Key → ℕ → Type 0
AreBehind places key high = (k : ℕ) (d : Place) → high ≤ k → k < length places → IsBefore key (key_at places k d)

-- The result of a search: the index of the key, or else the one where it belongs.
abbrev pub TellsSearch : List Place → Key → Result ℕ ℕ → Type 0
TellsSearch places key (Ok at) = (d : Place) → key_at places at d ≡ key
TellsSearch places key (Err at) = AreBefore places key at × AreBehind places key at

-- The number of 63 places that are left after n halvings.
unfoldable pub halved : ℕ → ℕ
halved zero = 63
halved (suc n) = halved n / 2

-- A place is inserted after those with smaller keys and before those with greater keys.
pub record Puts (old : List Place) (place : Place) (new : List Place) : Type 0 where
  pub front : List Place
  pub back : List Place
  pub old_is : old ≡ front ++ back
  pub new_is : new ≡ front ++ place ∷ back
  pub before : All (λ p. IsBefore p.key place.key) front
  pub behind : All (λ p. IsBefore place.key p.key) back

-- The place was inserted, or its key is in use.
abbrev pub TellsPut : List Place → Place → List Place → Bool → Type 0
TellsPut old place new true = Puts old place new
TellsPut old place new false = All (λ p. p.key ≢ place.key) old → ⊥

-- The places of the files of entries 1 to `end` - 1, by ascending keys.
pub record ArePlacesTo (t : List Entry) (end : ℕ) (places : List Place) : Type 0 where
  pub each : All (IsPlace t) places
  pub below : All (λ p. p.entry < end) places
  pub all : (e : ℕ) → 0 < e → e < end → IsUsed t e → Contains places (place_of t e)
  pub sorted : AreSorted places

-- The parent of an entry, from the places. Only the MF has no place.
unfoldable pub parent_by : List Place → ℕ → ℕ
parent_by [] e = 0
parent_by (p ∷ ps) e = if p.entry == e then p.key.parent else parent_by ps e

-- True if entry `e` is `top`, or at most n steps to these parents lead there.
abbrev pub leads_by : List Place → ℕ → ℕ → ℕ → Bool
leads_by places n top e = leads (parent_by places) n top e

-- True if the place is outside the subtree of an entry.
abbrev pub is_outside : List Place → ℕ → Place → Bool
is_outside places top p = not (leads_by places 7 top p.entry)
