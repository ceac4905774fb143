-- Steps inside the checks, the lookups and the life cycle changes. The only public clause that uses these definitions
-- is that of `is_below_barred`, which only `file_changes` calls.
use Rattle.std.specs.Prelude.{◌≡◌, ◌≢◌, ◌==◌, ◌⊎◌, ◌<◌, ◌&&◌, ℕ, not, if◌then◌else◌, List, length, Option, None, Some}
use Rattle.file_tree.specs.declared.entry.Entry.{Entry}
use Rattle.card_model.specs.FileTrees.{master_file}
use Rattle.file_tree.specs.Entries.{byte_of, low, name_of}
use Rattle.file_tree.specs.Table.{entry_in, IsUsed, IsBelowMaster, IsChild}
use Rattle.file_tree.specs.Kinds.{kind_byte}
use Rattle.file_tree.specs.declared.kinds.EntryKind.TheVariants.{Free, Dedicated}

-- Two entries have the same name, not an empty one.
abbrev pub BearOneName : Entry → Entry → Type 0
BearOneName one other = (0 < length (name_of one)) × (name_of one ≡ name_of other)

-- Two entries are children of one DF with the same short identifier. `e` is the number of the first; the MF is no
-- child.
abbrev pub ShareShort : ℕ → Entry → Entry → Type 0
ShareShort e one other = (0 < e) × (one.parent ≡ other.parent) × (one.short ≢ 0) × (one.short ≡ other.short)

-- Two entries conflict by short identifier or name.
abbrev pub Alike : ℕ → Entry → Entry → Type 0
Alike e one other = ShareShort e one other ⊎ BearOneName one other

-- No later used entry has the same short identifier. `HasOwnName`: the same name. `IsAlone`: neither.
abbrev pub HasOwnShort : List Entry → ℕ → Type 0
HasOwnShort t e = (f : ℕ) → e < f → IsUsed t f → ShareShort e (entry_in t e) (entry_in t f) → ⊥

abbrev pub HasOwnName : List Entry → ℕ → Type 0
HasOwnName t e = (f : ℕ) → e < f → IsUsed t f → BearOneName (entry_in t e) (entry_in t f) → ⊥

abbrev pub IsAlone : List Entry → ℕ → Type 0
IsAlone t e = (f : ℕ) → e < f → IsUsed t f → Alike e (entry_in t e) (entry_in t f) → ⊥

-- No two used entries conflict.
abbrev pub AreUnlike : List Entry → Type 0
AreUnlike t = (e : ℕ) → IsUsed t e → IsAlone t e

-- Each file but the MF is below it.
abbrev pub AreBelow : List Entry → Type 0
AreBelow t = (e : ℕ) → 0 < e → IsUsed t e → IsBelowMaster t e

-- The entry is that of a DF's child with this short identifier.
pub record IsShortChild (x : Entry) (df n : ℕ) : Type 0 where
  pub used : x.kind ≢ kind_byte Free
  pub parent : x.parent ≡ df
  pub short : x.short ≡ n

-- The child with this short identifier, None if there is none.
abbrev pub TellsShort : List Entry → ℕ → ℕ → Option ℕ → Type 0
TellsShort t df n None = (e : ℕ) → IsChild t df e → (entry_in t e).short ≡ n → ⊥
TellsShort t df n (Some e) = IsChild t df e × ((entry_in t e).short ≡ n)

-- The DF beside this one with the identifier, None if there is none.
abbrev pub TellsBeside : List Entry → ℕ → ℕ → Option ℕ → Type 0
TellsBeside t df id None = df ≢ 0 → (e : ℕ) → IsChild t (entry_in t df).parent e
    → (entry_in t e).kind ≡ kind_byte Dedicated
    → (entry_in t e).identifier ≡ id → ⊥
TellsBeside t df id (Some e) =
    (df ≢ 0) × IsChild t (entry_in t df).parent e × ((entry_in t e).kind ≡ kind_byte Dedicated)
    × ((entry_in t e).identifier ≡ id)

-- The first of the parent, the DF itself and the MF that has the identifier, None if none has. The MF has no parent.
abbrev pub TellsAbove : List Entry → ℕ → ℕ → Option ℕ → Type 0
TellsAbove t df id found =
    let above = (entry_in t df).parent in
    found ≡ (if not (df == 0) && ((entry_in t above).identifier == id) then Some above else
    if (entry_in t df).identifier == id then Some df else
    if master_file == id then Some 0 else None)

-- The word has the kind and the identifier of an entry, and another life cycle state.
pub record TellsLife (x : Entry) (state w : ℕ) : Type 0 where
  pub kind : byte_of w 0 ≡ x.kind
  pub life : byte_of w 1 ≡ state
  pub identifier : low w ≡ x.identifier
