-- The card that is found is proper.
use Rattle.std.specs.Prelude.{◌≡◌, ◌≢◌, ◌<◌, ◌≤◌, ◌+◌, ◌*◌, ◌-◌, ◌%◌, ◌==◌, ℕ, zero, suc, Bool, true, false}
use Rattle.std.specs.Prelude.{if◌then◌else◌, List, [], ◌∷◌, length, map, take, drop}
use Rattle.std.specs.Prelude.{get_or, slice_index, All, Option, Some, None}
use Rattle.std.proofs.Common.{arith, ap, subst, sym, ◌∙◌, refl, length-take, inl, inr, true≢false}
use Rattle.std.proofs.Math.Nat.{mod-lt}
use Rattle.std.proofs.lemmas.List.{length-append}
use Rattle.std.proofs.lemmas.List.Elements.{All-nil, All-append, All-take, All-drop, All-map}
use Rattle.std.proofs.lemmas.Bool.Decides.{eqb_tells}
use Rattle.std.proofs.lemmas.List.FromFn.{get_or-range_with_len, length-map-range_with_len, length-range_with_len}
use Rattle.std.specs.List.{flat_map, range_with_len}
use Rattle.std.specs.Option.{option_map_or}
use Rattle.std.specs.FinMap.{get}
use Rattle.card_model.specs.Requests.{AreBytes}
use Rattle.nvm_board.specs.Facts.{address}
use Rattle.nvm_board.specs.declared.board.TheConstants.{PAGE_WORDS}
use Rattle.block_chain.specs.declared.chain.Extent.{Extent}
use Rattle.block_chain.specs.declared.layout.TheConstants.{BLOCK_BYTES}
use Rattle.block_chain.specs.Chains.{bytes_of}
use Rattle.block_chain.specs.Layout.{blocks_of, IsExtent}
use Rattle.block_chain.specs.BlockWords.{word_bytes, page_words, block_bytes}
use Rattle.block_chain.specs.laws.Bytes.{leads_blocks, AreBlocks}
use Rattle.block_chain.specs.laws.Words.{length-block_bytes, word_bytes-bytes}
use Rattle.ef_contents.specs.laws.Slots.{length-slot, slot-within}
use Rattle.file_tree.specs.declared.entry.Entry.{Entry}
use Rattle.card_model.specs.FileTrees.{File, Path, dedicated, elementary, transparent, linear, cyclic, identifier}
use Rattle.file_tree.specs.Entries.{free_entry, body_of, entry_capacity, cyclic_records, entry_of, entry_told}
use Rattle.file_tree.specs.Entries.{extent_of}
use Rattle.file_tree.specs.Entries.{extent_told, file_of, kind_of, linear_records, name_of, slot}
use Rattle.file_tree.specs.Table.{table, entry_in, path_of, IsFileEntry, IsRecordBody, IsTransparentBody, IsUsed}
use Rattle.file_tree.specs.Trees.{content, tree_of, TreeStands}
use Rattle.file_tree.specs.laws.Costs.{all_extents, extent_of-some}
use Rattle.file_tree.specs.laws.Nodes.{entry_found, used_small}
use Rattle.file_tree.specs.laws.Paths.{identifier_path}
use Rattle.file_tree.specs.laws.Tables.{entry_in-table, entry_of-free, entry_of-used, length-table}
use Rattle.card_model.specs.declared.pins.TheConstants.{PINS}
use Rattle.pin_store.specs.Pages.{pin_at, pins_of, unmarked_pins_of, ArePinPages}
use Rattle.card_model.specs.Secrets.{Pin, HasFewTries, enabled_pin}
use Rattle.file_tree.specs.Formats.{is_format_2}
use Rattle.pin_store.specs.laws.PinPages.{few_tries}
use Rattle.command_base.specs.Finding.{HasCard, found, words_found}
use Rattle.card_model.specs.Cards.{AreRecords, IsProper, IsProperBody, IsProperFile, IsProperKind, IsProperName}
use Rattle.card_model.specs.Cards.{IsProperShort, IsRecord}
use Rattle.command_base.specs.Standing.{card_of, card_pins, IsAnyCard}
use Rattle.command_base.specs.laws.CardLaws.{any_pins, any_tree}

abbrev byte : ℕ → Type 0
byte number = number < 256

no_bytes : AreBytes []
no_bytes = All-nil byte

-- the bytes of words
word-bytes : (w : ℕ) → AreBytes (word_bytes w)
word-bytes w zero d lt = omega arith
word-bytes w (suc zero) d lt = omega arith
word-bytes w (suc (suc zero)) d lt = omega arith
word-bytes w (suc (suc (suc zero))) d lt = omega arith
word-bytes w (suc (suc (suc (suc k)))) d lt = absurd (omega (arith, lt))

bytes-at : (words ks : List ℕ) → AreBytes (flat_map (λ k. word_bytes (slice_index words k)) ks)
bytes-at words [] = no_bytes
bytes-at words (k ∷ ks) = All-append byte (word_bytes (slice_index words k)) _ (word-bytes (slice_index words k))
    (bytes-at words ks)

bytes-blocks : (m ps : List ℕ) → AreBytes (flat_map (block_bytes m) ps)
bytes-blocks m [] = no_bytes
bytes-blocks m (p ∷ ps) = All-append byte (block_bytes m p) _ (word_bytes-bytes (drop 1 (page_words m p)))
    (bytes-blocks m ps)

-- the bytes of a file's blocks
bytes-content : (m : List ℕ) (entry : Entry) → AreBytes (content m entry)
unfolding content bytes_of
bytes-content m entry = by_extent (extent_of entry)
  where
    by_extent : (o : Option Extent) → AreBytes (option_map_or (λ (extent : Extent). flat_map (block_bytes m)
        (blocks_of m extent)) o [])
    by_extent None = no_bytes
    by_extent (Some extent) = bytes-blocks m (blocks_of m extent)

-- the bytes that an entry has for its rule and its name, 16 for the name, and its identifier
record EntryHasBytes (entry : Entry) : Type 0 where
  rule : AreBytes entry.rule
  name : AreBytes entry.name
  name_room : length entry.name ≡ 16
  identifier : entry.identifier < 65536

bytes-told : (words : List ℕ) → EntryHasBytes (entry_told words)
bytes-told words = record {
  rule = bytes-at words (range_with_len 2 2);
  name = bytes-at words (range_with_len 4 4);
  name_room = refl;
  identifier = omega arith;
}

bytes-entry : (words : List ℕ) → (entry_of words).kind ≢ 0 → EntryHasBytes (entry_of words)
bytes-entry words used = elim (eqb_tells (slice_index words 0) 0) [
  | inl none ↦ absurd (used (ap (λ (x : Entry). x.kind) (entry_of-free words none.1)))
  | inr some ↦ subst EntryHasBytes (sym (entry_of-used words some.1)) (bytes-told words)
]

-- Blocks have all their bytes, in a memory of any length: each of them is one of its pages.
length-blocks : (m ps : List ℕ) → AreBlocks m ps → length (bytes_of m ps) ≡ BLOCK_BYTES * length ps
unfolding bytes_of
length-blocks m [] blocks = refl
length-blocks m (p ∷ ps) blocks =
    let both = length-append (block_bytes m p) (bytes_of m ps) in
    let page = blocks.0.1 in
    let within : address p PAGE_WORDS ≤ length m = omega (arith, page) in
    let one = length-block_bytes m p within in
    let more = length-blocks m ps blocks.1 in omega (arith, both, one, more)

-- and so the bytes of its blocks are at least as many as its entry says
room-content : (m : List ℕ) → TreeStands m → (e : ℕ) → e < 64 → 2 ≤ (entry_in (table m) e).kind
    → (entry_in (table m) e).size ≤ length (content m (entry_in (table m) e))
unfolding content
room-content m stands e below high =
    let entry = entry_in (table m) e in
    let told = extent_told entry in
    let some = extent_of-some entry high in
    let extent : IsExtent m told = all_extents (λ x. IsExtent m x) (table m) stands.blocks.each e
    (let l = length-table m in omega (arith, l, below)) told some in
    let blocks = extent.blocks in
    let long = length-blocks m (blocks_of m told) (leads_blocks m told.chain.first 0 (blocks_of m told) extent.leads) in
    let is : length (content m entry) ≡ length (bytes_of m (blocks_of m told)) =
    ap (λ (o : Option Extent). length (option_map_or (λ x. bytes_of m (blocks_of m x)) o [])) some in
    omega (arith, long, blocks, is)

-- a slot of a file with room for some
proper-slot : (entry : Entry) (bytes : List ℕ) (i : ℕ) → i < entry_capacity entry
    → entry_capacity entry * entry.record_length ≤ length bytes → AreBytes bytes
    → IsRecord entry.record_length (slot entry bytes i)
proper-slot entry bytes i below room all =
    let long = entry.record_length in
    let from = i * long in
    let within = slot-within long i (entry_capacity entry) below in
    record {
      bytes = All-take byte (from + long - from) (drop from bytes) (All-drop byte from bytes all);
      size = length-slot long bytes i (omega (arith, within, room));
    }

-- the records of a file, each in a slot
are-records : (entry : Entry) (bytes : List ℕ) (place : ℕ → ℕ) → IsRecordBody entry → entry.size ≤ length bytes
    → AreBytes bytes → ((k : ℕ) → k < entry.records → place k < entry_capacity entry)
    → AreRecords entry.record_length (entry_capacity entry)
    (map (λ i. slot entry bytes (place i)) (range_with_len 0 entry.records))
are-records entry bytes place body enough all inside =
    let long = length-map-range_with_len (λ i. slot entry bytes (place i)) 0 entry.records in
    let numbers = length-range_with_len 0 entry.records in
    let room = body.multiple in
    let size = body.size in
    let few = body.records in
    record {
      each = All-map (IsRecord entry.record_length) (λ i. slot entry bytes (place i)) (range_with_len 0 entry.records)
          (λ k d lt.
          let below : k < entry.records = omega (arith, lt, numbers) in
          let at = get_or-range_with_len 0 entry.records k d below in
          let small : get_or (range_with_len 0 entry.records) k d < entry.records = omega (arith, at, below) in
          proper-slot entry bytes (place (get_or (range_with_len 0 entry.records) k d))
          (inside (get_or (range_with_len 0 entry.records) k d) small) (omega (arith, room, enough)) all);
      some = body.some;
      record_length = body.record_length;
      room = omega (arith, room, size);
      least = body.room;
      capacity = body.capacity;
      number = omega (arith, long, few);
    }

proper-body : (entry : Entry) (bytes : List ℕ) (two three : Bool) → (two ≡ true → IsTransparentBody entry)
    → (two ≡ false → IsRecordBody entry) → entry.size ≤ length bytes
    → AreBytes bytes → IsProperBody (if two then transparent (take entry.size bytes) else
    if three then linear entry.record_length (entry_capacity entry) (linear_records entry bytes) else
    cyclic entry.record_length (entry_capacity entry) (cyclic_records entry bytes))
proper-body entry bytes true three of_bytes of_records enough all =
    let long = length-take entry.size bytes in
    let least = (of_bytes refl).some in
    let most = (of_bytes refl).size in
    record {
      bytes = All-take byte entry.size bytes all;
      some = omega (arith, long, least, enough);
      size = omega (arith, long, most);
    }
proper-body entry bytes false true of_bytes of_records enough all =
    let few = (of_records refl).records in
    are-records entry bytes (λ i. i) (of_records refl) enough all (λ k lt. omega (arith, lt, few))
proper-body entry bytes false false of_bytes of_records enough all =
    are-records entry bytes (λ i. (entry.start + i) % entry_capacity entry) (of_records refl) enough all
    (λ k lt. mod-lt (entry.start + k) (of_records refl).room)

proper-name : (none : Bool) (name : List ℕ) → AreBytes name → (none ≡ false → 1 ≤ length name) → length name ≤ 16
    → IsProperName (if none then None else Some name)
proper-name true name all least most = tt
proper-name false name all least most = record { bytes = all; some = least refl; size = most }

proper-short : (none : Bool) (n : ℕ) → (none ≡ false → 1 ≤ n) → n ≤ 30 → IsProperShort (if none then None else Some n)
proper-short true n least most = tt
proper-short false n least most = (least refl, most)

-- what a test of two numbers tells
pub same-of : (a b : ℕ) → (a == b) ≡ true → a ≡ b
same-of a b is = elim (eqb_tells a b) [ inl same ↦ same.1 | inr other ↦ absurd (true≢false (sym is ∙ other.0)) ]

pub other-of : (a b : ℕ) → (a == b) ≡ false → a ≢ b
other-of a b is = elim (eqb_tells a b) [ inl same ↦ absurd (true≢false (sym same.0 ∙ is)) | inr other ↦ other.1 ]

proper-kind : (entry : Entry) (bytes : List ℕ) → IsFileEntry entry → entry.kind ≢ 0 → EntryHasBytes entry
    → (2 ≤ entry.kind → entry.size ≤ length bytes) → AreBytes bytes → IsProperKind (kind_of entry bytes)
proper-kind entry bytes file used has enough all = by_kind (entry.kind == 1) refl
  where
    by_kind : (one : Bool) → (entry.kind == 1) ≡ one → IsProperKind (if one then dedicated (if entry.name_length == 0
        then None else Some (name_of entry))
        else elementary (if entry.short == 0 then None else Some entry.short) (body_of entry bytes))
    by_kind true is =
        let long = length-take entry.name_length entry.name in
        let room = has.name_room in
        let most = file.name.most in
        proper-name (entry.name_length == 0) (name_of entry) (All-take byte entry.name_length entry.name has.name)
        (λ named. let some = other-of entry.name_length 0 named in omega (arith, long, room, some))
        (omega (arith, long, most))
    by_kind false is = (
      proper-short (entry.short == 0) entry.short
          (λ given. let some = other-of entry.short 0 given in omega (arith, some)) file.short.most,
      proper-body entry bytes (entry.kind == 2) (entry.kind == 3)
          (λ two. file.body.transparent (same-of entry.kind 2 two)) (λ two. of_records (other-of entry.kind 1 is)
          (other-of entry.kind 2 two)) (enough (let one = other-of entry.kind 1 is in omega (arith, one, used))) all,
    )
      where
        of_records : entry.kind ≢ 1 → entry.kind ≢ 2 → IsRecordBody entry
        of_records one two = elim (eqb_tells entry.kind 3) [
          | inl three ↦ file.body.records (inl three.1)
          | inr other ↦ (
              let most = file.kind in
              let third = other.1 in
              let four : entry.kind ≡ 4 = omega (arith, most, used, one, two, third) in file.body.records (inr four))
        ]

proper-entry : (entry : Entry) (bytes : List ℕ) → IsFileEntry entry → entry.kind ≢ 0 → EntryHasBytes entry
    → (2 ≤ entry.kind → entry.size ≤ length bytes) → AreBytes bytes → IsProperFile (file_of entry bytes)
unfolding file_of
proper-entry entry bytes file used has enough all =
    let some = length-take entry.rule_length entry.rule in let most = file.rule.most in
    record {
      rule = All-take byte entry.rule_length entry.rule has.rule;
      rule_size = omega (arith, some, most);
      kind = proper-kind entry bytes file used has enough all;
    }

-- an entry's bytes, by its page
entry-bytes : (m : List ℕ) (e : ℕ) → IsUsed (table m) e → EntryHasBytes (entry_in (table m) e)
entry-bytes m e used =
    let page = entry_in-table m e (used_small m e used) in
    subst EntryHasBytes (sym page) (bytes-entry (page_words m (1 + e)) (λ none. used (ap (λ (x : Entry). x.kind) page
    ∙ none)))

-- the files of a memory that stands for a tree
proper-file : (m : List ℕ) → TreeStands m → (path : Path) (file : File) → get (tree_of m) path ≡ Some file
    → IsProperFile file
proper-file m stands path file is =
    let at = entry_found m path file is in
    let e = at.0 in
    let used = at.1 in
    let below = used_small m e used in
    let entry = entry_in (table m) e in
    let rules = (stands.entries.each e free_entry (let l = length-table m in omega (arith, l, below))).used used in
    subst IsProperFile (sym at.3) (proper-entry entry (content m entry) rules used (entry-bytes m e used)
    (room-content m stands e below) (bytes-content m entry))

small-identifier : (m : List ℕ) → TreeStands m → (path : Path) (file : File) → get (tree_of m) path ≡ Some file
    → identifier path < 65536
small-identifier m stands path file is =
    let at = entry_found m path file is in
    let id = identifier_path (table m) stands.entries at.0 at.1 in
    let small = (entry-bytes m at.0 at.1).identifier in
    subst (λ (p : Path). identifier p < 65536) at.2 (let z : identifier (path_of (table m) at.0) < 65536 = omega (
      arith,
      id,
      small,
    ) in z)

-- the PINs of a memory, whose marks are told or not
proper-each : (m : List ℕ) (told : ℕ → Pin) → ((k : ℕ) → HasFewTries (pin_at m k) → HasFewTries (told k))
    → ArePinPages m → All HasFewTries (map told (range_with_len 0 PINS))
proper-each m told few pages =
    let long = length-range_with_len 0 PINS in
    All-map HasFewTries told (range_with_len 0 PINS) (λ k d lt.
    let below : k < PINS = omega (arith, lt, long) in
    let place = get_or-range_with_len 0 PINS k d below in
    let small : get_or (range_with_len 0 PINS) k d < PINS = omega (arith, place, below) in
    few (get_or (range_with_len 0 PINS) k d) (few_tries m (get_or (range_with_len 0 PINS) k d) (pages.each (get_or
    (range_with_len 0 PINS) k d) small)))

proper-pins : (m : List ℕ) → ArePinPages m → All HasFewTries (card_pins m)
unfolding card_pins pins_of unmarked_pins_of
proper-pins m pages = by (is_format_2 m)
  where
    enabled_few : (pin : Pin) → HasFewTries pin → HasFewTries (enabled_pin pin)
    enabled_few pin few = record { tries = few.tries; unblocking_tries = few.unblocking_tries }

    by : (new : Bool) → All HasFewTries (if new then map (pin_at m) (range_with_len 0 PINS) else
        map (λ pin. enabled_pin (pin_at m pin)) (range_with_len 0 PINS))
    by true = proper-each m (pin_at m) (λ k few. few) pages
    by false = proper-each m (λ pin. enabled_pin (pin_at m pin)) (λ k few. enabled_few (pin_at m k) few) pages

pub proper-card : (m : List ℕ) → IsAnyCard m → IsProper (card_of m)
unfolding card_of
proper-card m words = record {
  files = proper-file m (any_tree m words);
  identifiers = small-identifier m (any_tree m words);
  pins = proper-pins m (any_pins m words);
}

pub found_is_proper : (m : List ℕ) → HasCard m → IsProper (found m)
found_is_proper m there = proper-card (words_found m) there.words
