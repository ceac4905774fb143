-- The table of file entries, and the rules that make it a tree.
use Rattle.std.specs.Prelude.{◌≡◌, ◌≢◌, ◌⊎◌, ◌<◌, ◌≤◌, ◌*◌, ◌==◌, ℕ, zero, suc, if◌then◌else◌, List, [], ◌∷◌, ◌++◌}
use Rattle.std.specs.Prelude.{map, length, slice_index_or, IsTrue, IsSome, All}
use Rattle.std.specs.List.{range_with_len, filter_map, count_by}
use Rattle.card_model.specs.LifeCycle.{life_cycle_at}
use Rattle.card_model.specs.Rule.{is_rule}
use Rattle.block_chain.specs.BlockWords.{page_words}
use Rattle.block_chain.specs.declared.chain.Extent.{Extent}
use Rattle.file_tree.specs.declared.entry.Entry.{Entry}
use Rattle.card_model.specs.FileTrees.{Path, master_file}
use Rattle.file_tree.specs.Entries.{free_entry, entry_of, name_of, rule_of, entry_capacity, extent_of}
use Rattle.file_tree.specs.Kinds.{kind_byte}
use Rattle.file_tree.specs.declared.kinds.EntryKind.TheVariants.{Free, Dedicated, Transparent, Linear, Cyclic}

-- The 64 entries by number. Entry 0 is on page 1.
unfoldable pub table : List ℕ → List Entry
table m = map (λ page. entry_of (page_words m page)) (range_with_len 1 64)

-- An entry by its number; a free one past the table.
abbrev pub entry_in : List Entry → ℕ → Entry
entry_in t e = slice_index_or t e free_entry

abbrev pub IsUsed : List Entry → ℕ → Type 0
IsUsed t e = (entry_in t e).kind ≢ kind_byte Free

-- The entry after n steps to parents. The MF is its own parent.
unfoldable pub ancestor : List Entry → ℕ → ℕ → ℕ
ancestor t zero e = e
ancestor t (suc n) e = ancestor t n (entry_in t e).parent

-- The identifiers from below the MF down to an entry, over at most n steps.
unfoldable pub path_in : List Entry → ℕ → ℕ → Path
path_in t zero e = []
path_in t (suc n) e = if e == 0 then [] else path_in t n (entry_in t e).parent ++ (entry_in t e).identifier ∷ []

-- The path of an entry. No file is more than seven steps below the MF.
abbrev pub path_of : List Entry → ℕ → Path
path_of t e = path_in t 7 e

-- The extents of the EFs, in the order of their entries.
abbrev pub extents : List Entry → List Extent
extents t = filter_map extent_of t

-- A transparent EF has 1 to 32,767 bytes, and 0 in the fields of records. A record EF has a capacity of 1 to 254
-- records of 1 to 255 bytes, at most 32,767 bytes in all. No more records exist than that. Record 1 of a cyclic EF is
-- in any slot, that of a linear EF in the first.
pub record IsTransparentBody (entry : Entry) : Type 0 where
  pub some : 1 ≤ entry.size
  pub size : entry.size ≤ 32767
  pub record_length : entry.record_length ≡ 0
  pub records : entry.records ≡ 0
  pub start : entry.start ≡ 0

pub record IsRecordBody (entry : Entry) : Type 0 where
  pub some : 1 ≤ entry.record_length
  pub record_length : entry.record_length ≤ 255
  pub multiple : entry.size ≡ entry_capacity entry * entry.record_length
  pub size : entry.size ≤ 32767
  pub room : 1 ≤ entry_capacity entry
  pub capacity : entry_capacity entry ≤ 254
  pub records : entry.records ≤ entry_capacity entry
  pub start : entry.start < entry_capacity entry
  pub linear : entry.kind ≡ kind_byte Linear → entry.start ≡ 0

-- A short identifier is 1 to 30, or 0 for none. A DF has none.
pub record HasShort (entry : Entry) : Type 0 where
  pub most : entry.short ≤ 30
  pub of_ef : entry.kind ≡ kind_byte Dedicated → entry.short ≡ 0

-- A name has 1 to 16 bytes, or length 0 for none. An EF has none.
pub record HasName (entry : Entry) : Type 0 where
  pub most : entry.name_length ≤ 16
  pub of_df : entry.kind ≢ kind_byte Dedicated → entry.name_length ≡ 0

-- The access rule is at most 8 bytes, and is valid.
pub record HasRule (entry : Entry) : Type 0 where
  pub most : entry.rule_length ≤ 8
  pub rule : IsTrue (is_rule (rule_of entry))

-- The content of an EF fits its kind.
pub record HasBody (entry : Entry) : Type 0 where
  pub transparent : entry.kind ≡ kind_byte Transparent → IsTransparentBody entry
  pub records : (entry.kind ≡ kind_byte Linear) ⊎ (entry.kind ≡ kind_byte Cyclic) → IsRecordBody entry

-- A used entry: valid kind, life cycle status, short identifier, name, access rule and content, and an identifier
-- that isn't reserved.
pub record IsFileEntry (entry : Entry) : Type 0 where
  pub kind : entry.kind ≤ kind_byte Cyclic
  pub life : IsSome (life_cycle_at entry.life)
  pub identifier : (entry.identifier ≢ 0x3FFF) × (entry.identifier ≢ 0xFFFF)
  pub short : HasShort entry
  pub name : HasName entry
  pub rule : HasRule entry
  pub body : HasBody entry

-- An entry is free, with its word 0 being 0, or it is that of a file.
pub record IsEntry (entry : Entry) : Type 0 where
  pub free : entry.kind ≡ kind_byte Free → (entry.life ≡ 0) × (entry.identifier ≡ 0)
  pub used : entry.kind ≢ kind_byte Free → IsFileEntry entry

-- Entry 0 is the MF: a DF with identifier 3F00, and its own parent.
pub record IsMasterFile (entry : Entry) : Type 0 where
  pub kind : entry.kind ≡ kind_byte Dedicated
  pub identifier : entry.identifier ≡ master_file
  pub parent : entry.parent ≡ 0

-- Each other file has a DF as its parent. Seven steps to parents lead to the MF, since the MF is its own parent. The
-- identifier isn't that of the MF.
pub record IsBelowMaster (t : List Entry) (e : ℕ) : Type 0 where
  pub parent : (entry_in t (entry_in t e).parent).kind ≡ kind_byte Dedicated
  pub level : ancestor t 7 e ≡ 0
  pub identifier : (entry_in t e).identifier ≢ master_file

-- The file of an entry is a child of the DF.
pub record IsChild (t : List Entry) (df e : ℕ) : Type 0 where
  pub below : 0 < e
  pub used : IsUsed t e
  pub parent : (entry_in t e).parent ≡ df

-- Children of one DF have different identifiers and, if they have any, different short identifiers.
abbrev pub HaveIdentifiers : List Entry → Type 0
HaveIdentifiers t = (df e f : ℕ) → IsChild t df e → IsChild t df f
    → (entry_in t e).identifier ≡ (entry_in t f).identifier → e ≡ f

abbrev pub HaveShortIdentifiers : List Entry → Type 0
HaveShortIdentifiers t = (df e f : ℕ) → IsChild t df e → IsChild t df f → (entry_in t e).short ≢ 0
    → (entry_in t e).short ≡ (entry_in t f).short → e ≡ f

-- No two DFs of the card have the same name.
abbrev pub HaveNames : List Entry → Type 0
HaveNames t = (e f : ℕ) → IsUsed t e → IsUsed t f → 0 < length (name_of (entry_in t e))
    → name_of (entry_in t e) ≡ name_of (entry_in t f) → e ≡ f

-- The number of free entries.
abbrev pub free_entries : List Entry → ℕ
free_entries t = count_by (λ entry. entry.kind == kind_byte Free) t

-- The rules on the table of entries alone.
pub record IsTable (t : List Entry) : Type 0 where
  pub each : All IsEntry t
  pub master : IsMasterFile (entry_in t 0)
  pub below : (e : ℕ) → 0 < e → IsUsed t e → IsBelowMaster t e
  pub identifiers : HaveIdentifiers t
  pub short_identifiers : HaveShortIdentifiers t
  pub names : HaveNames t
