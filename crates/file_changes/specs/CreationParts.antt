-- Steps inside a creation. No public clause uses these definitions.
use Rattle.std.specs.Prelude.{◌≡◌, ◌≢◌, ◌==◌, ◌⊎◌, ◌<◌, ◌≤◌, ◌+◌, ◌-◌, ◌*◌, ℕ, if◌then◌else◌, List, ◌++◌, length}
use Rattle.std.specs.Prelude.{take, replicate, Option, None, Some}
use Rattle.nvm_board.specs.declared.board.TheConstants.{PAGE_WORDS}
use Rattle.card_model.specs.LifeCycle.{life_cycle_byte}
use Rattle.card_model.specs.declared.fcp.Fcp.{Fcp}
use Rattle.card_model.specs.declared.fcp.FileKind.{FileKind}
use Rattle.card_model.specs.declared.fcp.FileKind.TheVariants as kinds
use Rattle.card_model.specs.FileControl.{size_of_kind, name_bytes}
use Rattle.block_chain.specs.declared.layout.TheConstants.{BLOCK_BYTES}
use Rattle.block_chain.specs.declared.chain.Chain.{Chain}
use Rattle.block_chain.specs.BlockWords.{word, page_words}
use Rattle.block_chain.specs.Chains.{free_chain, bytes_of}
use Rattle.block_chain.specs.ChainChanges.{OnlyContent, Takes}
use Rattle.file_tree.specs.Formats.{block_count}
use Rattle.file_tree.specs.declared.layout.TheConstants.{FIRST_ENTRY_PAGE}
use Rattle.file_tree.specs.declared.entry.Entry.{Entry}
use Rattle.file_changes.specs.declared.placing.NewPlace.{NewPlace}
use Rattle.file_changes.specs.declared.placing.NewPlace.TheVariants.{At, Refused}
use Rattle.card_model.specs.Spaces.{blocks_for}
use Rattle.file_tree.specs.Entries.{entry_of}
use Rattle.file_tree.specs.Table.{table, entry_in, ancestor, path_of}
use Rattle.file_tree.specs.Trees.{tree_of}
use Rattle.card_model.specs.NewFiles.{blank}
use Rattle.file_changes.specs.Creations.{kind_number}
use Rattle.file_changes.specs.CreationRefusals.{taken_refusal, place_refusal, creation_refusal}
use Rattle.file_tree.specs.Kinds.{kind_byte}
use Rattle.file_tree.specs.declared.kinds.EntryKind.TheVariants as entry_kinds

-- The entry is free, or None if all are in use.
abbrev pub TellsFreeEntry : List Entry → Option ℕ → Type 0
TellsFreeEntry t None = (f : ℕ) → f < 64 → (entry_in t f).kind ≢ kind_byte entry_kinds.Free
TellsFreeEntry t (Some e) = (e < 64) × ((entry_in t e).kind ≡ kind_byte entry_kinds.Free)

-- The entry is free, the DF isn't on the last level, and there are enough free blocks.
pub record IsPlaceFor (m : List ℕ) (df : ℕ) (kind : FileKind) (e : ℕ) : Type 0 where
  pub small : e < 64
  pub free : (entry_in (table m) e).kind ≡ kind_byte entry_kinds.Free
  pub level : ancestor (table m) 6 df ≡ 0
  pub enough : blocks_for (size_of_kind kind) ≤ length (free_chain m)

-- The place of a new file, or the refusal.
abbrev pub TellsPlace : List ℕ → ℕ → FileKind → NewPlace → Type 0
TellsPlace m df kind (Refused status) =
    place_refusal (block_count m) (tree_of m) (path_of (table m) df) kind ≡ Some status
TellsPlace m df kind (At e) =
    (place_refusal (block_count m) (tree_of m) (path_of (table m) df) kind ≡ None) × IsPlaceFor m df kind e

-- The place of a new file, or the first of all refusals.
abbrev pub FindsPlace : List ℕ → ℕ → Fcp → NewPlace → Type 0
FindsPlace m df fcp (Refused status) =
    creation_refusal (block_count m) (tree_of m) (path_of (table m) df) fcp ≡ Some status
FindsPlace m df fcp (At e) = (taken_refusal (tree_of m) (path_of (table m) df) fcp ≡ None)
    × (place_refusal (block_count m) (tree_of m) (path_of (table m) df) fcp.kind ≡ None) × IsPlaceFor m df fcp.kind e

-- The bytes, padded with zeros to length n.
abbrev pub padded : ℕ → List ℕ → List ℕ
padded n bytes = bytes ++ replicate (n - length bytes) 0

-- The record length, 0 for a kind without records.
abbrev pub record_length_of_kind : FileKind → ℕ
record_length_of_kind (kinds.Df name) = 0
record_length_of_kind (kinds.Transparent short size) = 0
record_length_of_kind (kinds.Linear short records) = records.record_length
record_length_of_kind (kinds.Cyclic short records) = records.record_length

-- The number of existing records, 0 for a kind without records.
abbrev pub existing_of_kind : FileKind → ℕ
existing_of_kind (kinds.Df name) = 0
existing_of_kind (kinds.Transparent short size) = 0
existing_of_kind (kinds.Linear short records) = records.existing
existing_of_kind (kinds.Cyclic short records) = records.existing

-- The chain of a file without blocks.
abbrev pub no_chain : Chain
no_chain = record { first = 0; last = 0 }

-- The entry of a new file.
abbrev pub entry_for : Fcp → ℕ → ℕ → Chain → Entry
entry_for fcp parent short chain = record {
  kind = kind_number fcp.kind;
  life = life_cycle_byte fcp.life_cycle;
  identifier = fcp.identifier;
  parent = parent;
  short = short;
  name_length = length (name_bytes fcp.kind);
  rule_length = length fcp.rule;
  rule = padded 8 fcp.rule;
  name = padded 16 (name_bytes fcp.kind);
  size = size_of_kind fcp.kind;
  record_length = record_length_of_kind fcp.kind;
  first = chain.first;
  last = chain.last;
  records = existing_of_kind fcp.kind;
  start = 0;
}

-- The short identifier as an option: 0 is none.
abbrev pub short_option : ℕ → Option ℕ
short_option short = if short == 0 then None else Some short

-- The words of an entry are written on its page. No other page changes.
pub record WritesEntry (m : List ℕ) (e : ℕ) (x : Entry) (after : List ℕ) : Type 0 where
  pub size : length after ≡ length m
  pub entry : entry_of (page_words after (FIRST_ENTRY_PAGE + e)) ≡ x
  pub others : (page place : ℕ) → place < PAGE_WORDS → page ≢ FIRST_ENTRY_PAGE + e
      → word after page place ≡ word m page place

-- The entry with the blocks of a chain.
abbrev pub with_chain : Entry → Chain → Entry
with_chain x c = record x { first = c.first; last = c.last }

-- The first n free blocks are taken, and an entry that names them is written.
pub record TakesAndWrites (m : List ℕ) (e : ℕ) (x : Entry) (n : ℕ) (after : List ℕ) : Type 0 where
  pub between : List ℕ
  pub chain : Chain
  pub some : 1 ≤ n
  pub takes : Takes m n chain between
  pub writes : WritesEntry between e (with_chain x chain) after

-- The entry of a new file is written, and blocks are taken if it has any.
abbrev pub AddsFile : List ℕ → ℕ → Entry → ℕ → List ℕ → Type 0
AddsFile m e x n after = ((n ≡ 0) × WritesEntry m e x after) ⊎ TakesAndWrites m e x n after

-- The blocks are filled before that.
pub record FillsAndAdds (m : List ℕ) (e : ℕ) (x : Entry) (n : ℕ) (after : List ℕ) : Type 0 where
  pub between : List ℕ
  pub only : OnlyContent m (take n (free_chain m)) between
  pub filled : bytes_of between (take n (free_chain m)) ≡ replicate (BLOCK_BYTES * n) blank
  pub adds : AddsFile between e x n after

-- At most free blocks have changed, or everything is done.
abbrev pub FillsOrAdds : List ℕ → ℕ → Entry → ℕ → List ℕ → Type 0
FillsOrAdds m e x n after = OnlyContent m (take n (free_chain m)) after ⊎ FillsAndAdds m e x n after
