-- File entries: the encoding of an entry in the words of a page, and the file that it describes.
use Rattle.std.specs.Prelude.{Bool, ℕ, ◌+◌, ◌*◌, ◌/◌, ◌%◌, ◌==◌, nat_le, if◌then◌else◌, List, [], ◌∷◌, map, take}
use Rattle.std.specs.Prelude.{replicate}
use Rattle.std.specs.Prelude.{slice_index, slice_range, Option, None, Some, unwrap_or}
use Rattle.std.specs.List.{flat_map, range_with_len}
use Rattle.card_model.specs.LifeCycle.{life_cycle_at}
use Rattle.card_model.specs.declared.life_cycle.LifeCycle.{LifeCycle}
use Rattle.card_model.specs.declared.life_cycle.LifeCycle.TheVariants.{Activated}
use Rattle.card_model.specs.declared.access_mode.AccessBit.{AccessBit}
use Rattle.card_model.specs.Rule.{allows}
use Rattle.block_chain.specs.declared.chain.Extent.{Extent}
use Rattle.block_chain.specs.BlockWords.{word_bytes}
use Rattle.file_tree.specs.declared.entry.Entry.{Entry}
use Rattle.file_tree.specs.declared.entry.EntryHead.{EntryHead}
use Rattle.card_model.specs.FileTrees.{transparent, linear, cyclic, dedicated, elementary, Body, Kind, File}
use Rattle.card_model.specs.Spaces.{blocks_for}
use Rattle.file_tree.specs.Kinds.{kind_byte}
use Rattle.file_tree.specs.declared.kinds.EntryKind.TheVariants.{Dedicated, Transparent, Linear}

-- The first and the last two bytes of a word.
abbrev pub high : ℕ → ℕ
high word = word / 0x10000

abbrev pub low : ℕ → ℕ
low word = word % 0x10000

-- A byte of a word, the most significant one first.
abbrev pub byte_of : ℕ → ℕ → ℕ
byte_of word place = slice_index (word_bytes word) place

-- A free entry.
abbrev pub free_entry : Entry
free_entry = record {
  kind = 0;
  life = 0;
  identifier = 0;
  parent = 0;
  short = 0;
  name_length = 0;
  rule_length = 0;
  rule = replicate 8 0;
  name = replicate 16 0;
  size = 0;
  record_length = 0;
  first = 0;
  last = 0;
  records = 0;
  start = 0;
}

-- The entry that these eleven words encode, the most significant byte first.
abbrev pub entry_by : (w0 w1 w2 w3 w4 w5 w6 w7 w8 w9 w10 : ℕ) → Entry
entry_by w0 w1 w2 w3 w4 w5 w6 w7 w8 w9 w10 = record {
  kind = byte_of w0 0;
  life = byte_of w0 1;
  identifier = low w0;
  parent = byte_of w1 0;
  short = byte_of w1 1;
  name_length = byte_of w1 2;
  rule_length = byte_of w1 3;
  rule = flat_map word_bytes (w2 ∷ w3 ∷ []);
  name = flat_map word_bytes (w4 ∷ w5 ∷ w6 ∷ w7 ∷ []);
  size = high w8;
  record_length = low w8;
  first = high w9;
  last = low w9;
  records = high w10;
  start = low w10;
}

-- The entry that the words of a page encode.
abbrev pub entry_told : List ℕ → Entry
entry_told words =
    let word = slice_index words in
    entry_by (word 0) (word 1) (word 2) (word 3) (word 4) (word 5) (word 6) (word 7) (word 8) (word 9) (word 10)

-- An entry is free if word 0 is 0, whatever the other words are.
unfoldable pub entry_of : List ℕ → Entry
entry_of words = if slice_index words 0 == 0 then free_entry else entry_told words

-- The head of an entry is what its first two words tell of the file.
abbrev pub head_of : Entry → EntryHead
head_of entry = record {
  kind = entry.kind;
  life = entry.life;
  parent = entry.parent;
  short = entry.short;
  name_length = entry.name_length;
}

abbrev pub head_told : ℕ → ℕ → EntryHead
head_told first second =
    if first == 0 then head_of free_entry else
    record {
      kind = byte_of first 0;
      life = byte_of first 1;
      parent = byte_of second 0;
      short = byte_of second 1;
      name_length = byte_of second 2;
    }

-- The life cycle state that a byte encodes, and that of an entry's file. By the rules on entries the byte is valid.
abbrev pub state_told : ℕ → LifeCycle
state_told byte = unwrap_or (life_cycle_at byte) Activated

abbrev pub life_told : Entry → LifeCycle
life_told entry = state_told entry.life

-- The name and the access rule: the first bytes of their fields, as many as their lengths say.
abbrev pub name_of : Entry → List ℕ
name_of entry = take entry.name_length entry.name

abbrev pub rule_of : Entry → List ℕ
rule_of entry = take entry.rule_length entry.rule

-- True if the rule allows an operation in the file's state, with these verified and disabled PINs.
abbrev pub is_allowed_by : Entry → AccessBit → List Bool → List Bool → Bool
is_allowed_by entry bit verified disabled = allows (rule_of entry) bit (life_told entry) verified disabled

-- The number of records that fit.
abbrev pub entry_capacity : Entry → ℕ
entry_capacity entry = entry.size / entry.record_length

-- The record in slot `i`. Slots are adjacent, each as long as a record.
abbrev pub slot : Entry → List ℕ → ℕ → List ℕ
slot entry bytes i = slice_range bytes (i * entry.record_length) (i * entry.record_length + entry.record_length)

-- Record k of a linear EF is in slot k - 1.
abbrev pub linear_records : Entry → List ℕ → List (List ℕ)
linear_records entry bytes = map (slot entry bytes) (range_with_len 0 entry.records)

-- Record k of a cyclic EF is k - 1 slots after the start. The first slot follows the last one.
abbrev pub cyclic_records : Entry → List ℕ → List (List ℕ)
cyclic_records entry bytes =
    map (λ i. slot entry bytes ((entry.start + i) % entry_capacity entry)) (range_with_len 0 entry.records)

-- The content of an EF whose blocks have these bytes.
abbrev pub body_of : Entry → List ℕ → Body
body_of entry bytes =
    if entry.kind == kind_byte Transparent then transparent (take entry.size bytes) else
    if entry.kind == kind_byte Linear
    then linear entry.record_length (entry_capacity entry) (linear_records entry bytes) else
    cyclic entry.record_length (entry_capacity entry) (cyclic_records entry bytes)

-- A DF has a name unless the length is 0. An EF has a short identifier unless it is 0.
abbrev pub kind_of : Entry → List ℕ → Kind
kind_of entry bytes =
    if entry.kind == kind_byte Dedicated then dedicated (if entry.name_length == 0 then None else Some (name_of entry))
    else elementary (if entry.short == 0 then None else Some entry.short) (body_of entry bytes)

-- The file of a used entry whose blocks have these bytes.
unfoldable pub file_of : Entry → List ℕ → File
file_of entry bytes = record {
  life = life_told entry;
  rule = rule_of entry;
  kind = kind_of entry bytes;
}

-- The blocks of an EF: the chain that its entry names, with the number of blocks that its size needs.
abbrev pub extent_told : Entry → Extent
extent_told entry = record {
  chain = record { first = entry.first; last = entry.last };
  blocks =
      blocks_for entry.size;
}

-- Only the entry of an EF has blocks.
unfoldable pub extent_of : Entry → Option Extent
extent_of entry = if nat_le (kind_byte Transparent) entry.kind then Some (extent_told entry) else None
