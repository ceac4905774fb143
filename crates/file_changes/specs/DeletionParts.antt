-- Steps inside a deletion. No public clause uses these definitions.
use Rattle.std.specs.Prelude.{◌≡◌, ◌≢◌, ◌↔◌, ◌==◌, ◌⊎◌, ◌<◌, ◌+◌, ◌&&◌, ℕ, Bool, false, not, if◌then◌else◌, List, []}
use Rattle.std.specs.Prelude.{map, length, replicate, slice_index_or, IsTrue, Option, None, Some, ◌≤◌}
use Rattle.std.specs.List.{range_with_len, sum_by, cons_option}
use Rattle.nvm_board.specs.declared.board.TheConstants.{PAGE_WORDS}
use Rattle.block_chain.specs.declared.chain.Chain.{Chain}
use Rattle.block_chain.specs.declared.chain.Extent.{Extent}
use Rattle.block_chain.specs.BlockWords.{word}
use Rattle.block_chain.specs.Chains.{HasFree, AreApart}
use Rattle.block_chain.specs.ChainChanges.{GivesBack}
use Rattle.block_chain.specs.Layout.{chains_of}
use Rattle.file_tree.specs.declared.layout.TheConstants.{FIRST_ENTRY_PAGE}
use Rattle.card_model.specs.declared.limits.TheConstants.{ENTRIES}
use Rattle.file_tree.specs.declared.entry.Entry.{Entry}
use Rattle.file_changes.specs.declared.deleting.Part.{Part}
use Rattle.file_changes.specs.declared.deleting.Removal.{Removal}
use Rattle.file_tree.specs.Entries.{extent_of, free_entry}
use Rattle.file_tree.specs.Table.{table, entry_in, extents, free_entries}
use Rattle.file_tree.specs.Subtrees.{leads_up}
use Rattle.file_tree.specs.Kinds.{kind_byte}
use Rattle.file_tree.specs.declared.kinds.EntryKind.TheVariants.{Free}
use Rattle.undo_journal.specs.Memory.{Memory, committed, IsReady}

-- True if entry `f` is used and in the subtree of `top`.
abbrev pub is_gone : List Entry → ℕ → ℕ → Bool
is_gone t top f = not ((entry_in t f).kind == kind_byte Free) && leads_up t 7 top f

-- The entry if it is in the subtree of `top`, else a free one.
abbrev pub going : List Entry → ℕ → ℕ → Entry
going t top f = if is_gone t top f then entry_in t f else free_entry

-- The part of the table that is the subtree.
unfoldable pub part_below : List Entry → ℕ → List Entry
part_below t top = map (going t top) (range_with_len 0 64)

-- an entry, if it goes with another one
abbrev pub entry_if_gone : List Entry → ℕ → ℕ → Option Entry
entry_if_gone t top f = if is_gone t top f then Some (entry_in t f) else None

-- A part of no entry.
pub record IsNoPart (part : Part) : Type 0 where
  pub goes : part.goes ≡ replicate 64 false
  pub count : part.count ≡ 0
  pub extents : part.extents.items ≡ []

-- The number of an entry, for which a part has room.
pub record HasPlaceFor (part : Part) (e : ℕ) : Type 0 where
  pub within : e < 64
  pub count : part.count < 64
  pub room : length part.extents.items < 64

-- the extent of an entry, if one is given that has one
abbrev pub extents_in : Option Entry → List Extent
extents_in None = []
extents_in (Some x) = cons_option (extent_of x) []

-- The marks say of each entry of a part whether it is used.
abbrev pub GoesWith : List Bool → List Entry → Type 0
GoesWith goes part = (f : ℕ) → f < 64 → IsTrue (slice_index_or goes f false) ↔ ((entry_in part f).kind ≢ kind_byte Free)

-- Which entries go, how many, and the extents of their files.
pub record IsPart (t : List Entry) (top : ℕ) (part : Part) : Type 0 where
  pub goes : GoesWith part.goes (part_below t top)
  pub count : part.count + free_entries (part_below t top) ≡ 64
  pub extents : part.extents.items ≡ extents (part_below t top)

-- Which entries go, the chains of their extents, and how many blocks and entries they are.
pub record IsRemoval (m : List ℕ) (e : ℕ) (removal : Removal) : Type 0 where
  pub goes : GoesWith removal.goes (part_below (table m) e)
  pub chains : removal.chains.items ≡ chains_of (extents (part_below (table m) e))
  pub blocks : removal.space.blocks ≡ sum_by (λ x. x.blocks) (extents (part_below (table m) e))
  pub entries : removal.space.entries + free_entries (part_below (table m) e) ≡ 64

-- The first k entries of a part are freed by setting their word 0 to 0. No other word changes.
pub record FreesUpTo (m : List ℕ) (part : List Entry) (k : ℕ) (after : List ℕ) : Type 0 where
  pub size : length after ≡ length m
  pub freed : (f : ℕ) → f < k → (entry_in part f).kind ≢ kind_byte Free → word after (FIRST_ENTRY_PAGE + f) 0 ≡ 0
  pub others : (page place : ℕ) → place < PAGE_WORDS
      → (place ≢ 0) ⊎ ((f : ℕ) → f < k → page ≡ FIRST_ENTRY_PAGE + f → (entry_in part f).kind ≡ kind_byte Free)
      → word after page place ≡ word m page place

-- All entries of the part are freed.
abbrev pub FreesEntries : List ℕ → List Entry → List ℕ → Type 0
FreesEntries m part after = FreesUpTo m part ENTRIES after

-- The entries are freed, then the chains are given back.
pub record Removes (m : List ℕ) (part : List Entry) (chains : List Chain) (after : List ℕ) : Type 0 where
  pub between : List ℕ
  pub freed : FreesEntries m part between
  pub given : GivesBack between chains after

-- Once the entries are freed, the chains can be given back.
abbrev pub CanGive : List ℕ → List Entry → List Chain → Type 0
CanGive m part chains = (between : List ℕ) → FreesEntries m part between → HasFree between × AreApart between chains

-- The store is ready, and the chains are at most 64 and those of a part that goes.
pub record CanRemove (m : Memory) (marks : List Bool) (chains : List Chain) : Type 0 where
  pub ready : IsReady m
  pub apart : (part : List Entry) × GoesWith marks part × CanGive (committed m) part chains
  pub few : length chains ≤ 64
