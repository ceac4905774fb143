-- The index of a tree: the entry of each file by its parent's entry and its identifier.
use Rattle.std.specs.Prelude.{◌≡◌, ◌≢◌, ◌<◌, ℕ, if◌then◌else◌, List, [], ◌∷◌, ◌++◌, All, Contains, length, Option}
use Rattle.std.specs.Prelude.{None, Some, Bool, true, false}
use Rattle.card_model.specs.declared.limits.TheConstants.{ENTRIES}
use Rattle.file_tree.specs.declared.entry.Entry.{Entry}
use Rattle.file_tree.specs.declared.steps.Place.{Place}
use Rattle.file_tree.specs.declared.index.Index.{Index}
use Rattle.card_model.specs.FileTrees.{Path, Tree, exists}
use Rattle.file_tree.specs.Keys.{key_for, IsBefore}
use Rattle.file_tree.specs.Table.{entry_in, HaveIdentifiers, IsUsed, IsChild}
use Rattle.file_tree.specs.Kinds.{kind_byte}
use Rattle.file_tree.specs.declared.kinds.EntryKind.TheVariants.{Free}

-- The place of an entry's file.
abbrev pub place_of : List Entry → ℕ → Place
place_of t e = record { key = key_for (entry_in t e).parent (entry_in t e).identifier; entry = e }

-- The place of a file other than the MF.
pub record IsPlace (t : List Entry) (place : Place) : Type 0 where
  pub below : 0 < place.entry
  pub used : IsUsed t place.entry
  pub key_is : place.key ≡ key_for (entry_in t place.entry).parent (entry_in t place.entry).identifier

-- Each key is smaller than those of all places that follow.
abbrev pub AreSorted : List Place → Type 0
AreSorted [] = Unit {0}
AreSorted (place ∷ places) = All (λ p. IsBefore place.key p.key) places × AreSorted places

-- The index has the place of each file but the MF, once, by ascending keys.
pub record IsIndex (t : List Entry) (index : Index) : Type 0 where
  pub each : All (IsPlace t) index.places.items
  pub all : (e : ℕ) → 0 < e → IsUsed t e → Contains index.places.items (place_of t e)
  pub sorted : AreSorted index.places.items

-- The index has no file.
abbrev pub IsBlankIndex : Index → Type 0
IsBlankIndex index = index.places.items ≡ []

-- The index of a table of entries was made, or two children of one DF have the same identifier.
abbrev pub TellsIndex : List Entry → Bool → Index → Type 0
TellsIndex t true index = HaveIdentifiers t × IsIndex t index
TellsIndex t false index = HaveIdentifiers t → ⊥

-- The index of a table in which the entry is free.
pub record IsFreeIn (index : Index) (e : ℕ) : Type 0 where
  pub entries : List Entry
  pub size : length entries ≡ ENTRIES
  pub indexed : IsIndex entries index
  pub below : 0 < e
  pub within : e < ENTRIES
  pub free : (entry_in entries e).kind ≡ kind_byte Free

-- The entry was free, and now has a file with this parent and identifier. No other entry changes.
pub record AddsEntry (t : List Entry) (parent identifier e : ℕ) (after : List Entry) : Type 0 where
  pub below : 0 < e
  pub free : (entry_in t e).kind ≡ kind_byte Free
  pub used : IsUsed after e
  pub parent_is : (entry_in after e).parent ≡ parent
  pub identifier_is : (entry_in after e).identifier ≡ identifier
  pub others : (f : ℕ) → f ≢ e → entry_in after f ≡ entry_in t f

-- Each entry has the same kind, parent and identifier as before.
pub record KeepsPlaces (t after : List Entry) : Type 0 where
  pub kinds : (e : ℕ) → (entry_in after e).kind ≡ (entry_in t e).kind
  pub parents : (e : ℕ) → (entry_in after e).parent ≡ (entry_in t e).parent
  pub identifiers : (e : ℕ) → (entry_in after e).identifier ≡ (entry_in t e).identifier

-- The child of a DF with this identifier, None if there is none.
abbrev pub TellsChild : List Entry → ℕ → ℕ → Option ℕ → Type 0
TellsChild t df id None = (e : ℕ) → IsChild t df e → (entry_in t e).identifier ≡ id → ⊥
TellsChild t df id (Some e) = IsChild t df e × ((entry_in t e).identifier ≡ id)

-- The same by path: the first candidate for an identifier.
abbrev pub child_by_identifier : Tree → Path → ℕ → Option Path
child_by_identifier tree df id = if exists tree (df ++ id ∷ []) then Some (df ++ id ∷ []) else None
