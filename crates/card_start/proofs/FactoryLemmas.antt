-- The factory's memory stands for the factory's card.
use Rattle.std.proofs.Common.{◌≡◌, ◌≢◌, ◌<◌, ◌≤◌, ◌+◌, ◌-◌, ◌==◌, ℕ, true, List, [], ◌∷◌, ◌++◌, zero, suc, length}
use Rattle.std.proofs.Common.{drop, map, slice_index}
use Rattle.std.proofs.Common.{refl, sym, ◌∙◌, ap, ap₂, subst, arith, inl, inr, lit≤, lit<, replicate, Option}
use Rattle.std.proofs.Common.{Some}
use Rattle.std.specs.List.{flat_map, range_with_len, filter_map, cons_option}
use Rattle.std.specs.FinMap.{from_entries}
use Rattle.std.specs.Ordering.{nat_cmp}
use Rattle.std.specs.Cmp.Lexicographic.{slice_cmp}
use Rattle.nvm_board.specs.Facts.{IsMemory, pages_of}
use Rattle.nvm_board.specs.laws.Sizes.{pages_same}
use Rattle.nvm_board.specs.declared.board.TheConstants.{LEAST_PAGES, MOST_PAGES}
use Rattle.undo_journal.specs.Undo.{gate}
use Rattle.block_chain.specs.declared.chain.Extent.{Extent}
use Rattle.block_chain.specs.BlockWords.{word, link, word_bytes, page_words}
use Rattle.block_chain.specs.Chains.{free_chain, bytes_of}
use Rattle.block_chain.specs.Layout.{AreLaid}
use Rattle.block_chain.specs.laws.Words.{index-page_words}
use Rattle.file_tree.specs.declared.entry.Entry.{Entry}
use Rattle.card_model.specs.declared.space.FreeSpace.{FreeSpace}
use Rattle.file_tree.specs.Formats.{block_count}
use Rattle.card_model.specs.Spaces.{free_space}
use Rattle.file_tree.specs.declared.layout.TheConstants.{MARK, MARK_WORD, OLD_MARK, PAGES_WORD, STATE_WORD}
use Rattle.file_tree.specs.laws.Formats.{count_is, end_new, end_old}
use Rattle.block_chain.specs.declared.layout.TheConstants.{FREE_HEAD_WORD, HEADER_PAGE}
use Rattle.file_tree.specs.Entries.{entry_of, file_of}
use Rattle.file_tree.specs.Table.{table, entry_in, path_of, extents, free_entries, IsTable}
use Rattle.file_tree.specs.Trees.{content, node, tree_of, TreeStands, file_in}
use Rattle.file_tree.specs.laws.Tables.{entry_of-free}
use Rattle.file_tree.specs.laws.Paths.{path-zero}
use Rattle.file_tree.specs.laws.Nodes.{Node, node-used, node-free}
use Rattle.file_tree.specs.laws.Costs.{space_counted}
use Rattle.file_tree.specs.laws.Contents.{content-some}
use Rattle.card_model.specs.declared.pins.TheConstants.{PINS}
use Rattle.pin_store.specs.Pages.{bytes_of_words, pin_at, pin_page, pin_word, unmarked_pins_of, ArePinPages, AreEnabled}
use Rattle.card_model.specs.Secrets.{enabled_pin}
use Rattle.pin_store.specs.laws.AllPins.{enabled_marks, enabled_unmarked}
use Rattle.pin_store.specs.declared.layout.TheConstants.{PIN_MARK_WORD}
use Rattle.card_start.specs.declared.memory_format.MemoryFormat.{MemoryFormat}
use Rattle.card_start.specs.declared.memory_format.MemoryFormat.TheVariants.{One, Two}
use Rattle.card_model.specs.Cards.{card_space, Pin}
use Rattle.command_base.specs.Standing.{IsAnyCard, IsCard, IsOldCard, board_blocks, card_blocks, card_of, card_pins}
use Rattle.command_base.specs.Standing.{StandsFor}
use Rattle.command_base.specs.laws.CardLaws.{blocks_new, blocks_old, marked_new, marked_old, pins_new, pins_old}
use Rattle.card_start.specs.Factory.{factory_page, factory_block, factory_end, factory_header}
use Rattle.card_start.specs.Factory.{factory_pin_page, factory_pin, factory_pin_mark, IsWritten}
use Rattle.card_start.specs.Factory.{factory_card, factory_tree, factory_space, master_of_factory, file_of_factory}
use Rattle.card_start.specs.Factory.{IsFactory}
use Rattle.card_start.proofs.FactoryPages.{blank_page, pin_page_is, free_block_is}
use Rattle.card_start.proofs.FactoryBlocks.{next_page, blocks_laid, free_long, one_is}
use Rattle.card_start.proofs.FactoryTable.{master_entry, file_entry, entries_with, table_is, rules_hold, extents_are}
use Rattle.card_start.proofs.FactoryTable.{file_path, none_used}
use Rattle.card_start.proofs.FactoryTable.{master_kind, file_kind, free_ones}

-- the file of the master file's entry has no content, and that of the other has as many bytes as its size says
master_file_is : (bytes : List ℕ) → file_of master_entry bytes ≡ master_of_factory
unfolding file_of entry_of
master_file_is bytes = refl

file_is : (rest : List ℕ) → file_of file_entry (flat_map word_bytes (drop 1 factory_block) ++ rest) ≡ file_of_factory
unfolding file_of entry_of
file_is rest = refl

-- the words of the header of either format
abbrev header-mark : MemoryFormat → ℕ
header-mark One = OLD_MARK
header-mark Two = MARK

header-first : (format : MemoryFormat) (end : ℕ) → slice_index (factory_header format end) 0 ≡ header-mark format
header-first One end = refl
header-first Two end = refl

header-head : (format : MemoryFormat) (end : ℕ) → slice_index (factory_header format end) 1 ≡ 129
header-head One end = refl
header-head Two end = refl

header-state : (format : MemoryFormat) (end : ℕ) → slice_index (factory_header format end) 2 ≡ 0
header-state One end = refl
header-state Two end = refl

-- where the blocks end
pub end_inside : (format : MemoryFormat) (m : List ℕ) → IsMemory m → factory_end format m ≤ pages_of m
end_inside One m sized = let least = sized.least in omega (arith, least)
end_inside Two m sized = omega arith

pub end_least : (format : MemoryFormat) (m : List ℕ) → IsMemory m → LEAST_PAGES ≤ factory_end format m
end_least One m sized = omega arith
end_least Two m sized = sized.least

end_same : (format : MemoryFormat) (m after : List ℕ) → length after ≡ length m
    → factory_end format after ≡ factory_end format m
end_same One m after size = refl
end_same Two m after size = pages_same m after size

-- what was written is the factory's
pub factory-written : (format : MemoryFormat) (end : ℕ) (m after : List ℕ) → end ≡ factory_end format m
    → IsWritten format end m after → IsFactory format after
factory-written format end m after is written =
    let same : end ≡ factory_end format after = is ∙ sym (end_same format m after written.size) in
    subst (λ (e : ℕ). (page : ℕ) → page < e → page_words after page ≡ factory_page format e page) same written.pages

module _ (format : MemoryFormat) (m : List ℕ) (sized : IsMemory m) (factory : IsFactory format m) where
  abbrev end : ℕ
  end = factory_end format m

  inside : end ≤ pages_of m
  inside = end_inside format m sized

  least : LEAST_PAGES ≤ end
  least = end_least format m sized

  most : end ≤ MOST_PAGES
  most = let within = inside in let all = sized.most in omega (arith, within, all)

  -- the first pages are the factory's in any case
  page-is : (page : ℕ) → page < 1024 → page_words m page ≡ factory_page format end page
  page-is page low = factory page (let many = least in omega (arith, low, many))

  -- a word of the memory is a word of the factory's page
  place : (page k : ℕ) → page < 1024 → k < 16 → word m page k ≡ slice_index (factory_page format end page) k
  place page k low small = sym (index-page_words m page k small)
      ∙ ap (λ (words : List ℕ). slice_index words k) (page-is page low)

  head : word m HEADER_PAGE FREE_HEAD_WORD ≡ 129
  head = place HEADER_PAGE FREE_HEAD_WORD (lit< tt) (lit< tt) ∙ header-head format end

  state-is : word m HEADER_PAGE STATE_WORD ≡ 0
  state-is = place HEADER_PAGE STATE_WORD (lit< tt) (lit< tt) ∙ header-state format end

  mark-is : word m HEADER_PAGE MARK_WORD ≡ header-mark format
  mark-is = place HEADER_PAGE MARK_WORD (lit< tt) (lit< tt) ∙ header-first format end

  first-link : link m 128 ≡ 0
  first-link = place 128 0 (lit< tt) (lit< tt)

  links : (page : ℕ) → 128 < page → page < end → link m page ≡ next_page end (page + 1)
  links page low high = sym (index-page_words m page 0 (lit< tt))
      ∙ ap (λ (words : List ℕ). slice_index words 0) (factory page high ∙ free_block_is format end page low)

  -- as many blocks are free
  abbrev free : ℕ
  free = end - 129

  as-many : 128 + (free + 1) ≡ end
  as-many = let many = least in omega (arith, many)

  entries : table m ≡ entries_with 62
  entries = table_is m (page-is 1 (lit< tt)) (page-is 2 (lit< tt)) (λ page low high.
      let within : page < 1024 = omega (arith, high) in
      entry_of-free (page_words m page)
      (ap (λ (words : List ℕ). slice_index words 0) (page-is page within
      ∙ blank_page format end page low (omega (arith, high)) (inl high))))

  -- the header tells where the blocks end
  abbrev pub Counted : Type 0
  Counted = block_count m ≡ free + 1

  laid : Counted → AreLaid (block_count m) m (extents (table m))
  laid counted =
      let are_laid : ℕ → List Extent → Type 0 = λ n es. AreLaid n m es in
      let here : AreLaid (free + 1) m (extents (table m)) =
      subst (are_laid (free + 1)) (sym (ap extents entries ∙ extents_are 62))
      (blocks_laid m end inside least most links head first-link free as-many) in
      subst (λ (n : ℕ). AreLaid n m (extents (table m))) (sym counted) here

  pub tree-stands : Counted → TreeStands m
  tree-stands counted = let is_table : List Entry → Type 0 = λ t. IsTable t in
      record { entries = subst is_table (sym entries) (rules_hold 62); blocks = laid counted }

  in_table : (e : ℕ) → entry_in (table m) e ≡ entry_in (entries_with 62) e
  in_table e = ap (λ (t : List Entry). entry_in t e) entries

  bytes_are : content m file_entry ≡ flat_map word_bytes (drop 1 factory_block) ++ []
  unfolding entry_of bytes_of
  bytes_are = content-some m file_entry (lit≤ tt)
      ∙ ap (bytes_of m) (one_is m end inside least most links head first-link free as-many)
      ∙ ap (λ (words : List ℕ). flat_map word_bytes (drop 1 words) ++ []) (page-is 128 (lit< tt))

  master_node : node m 0 ≡ Some ([], master_of_factory)
  master_node = node-used m 0 (λ none. let is = ap (λ (x : Entry). x.kind) (in_table 0) ∙ master_kind 62 in
      let z : ⊥ = omega (arith, is, none) in z)
      ∙ (λ i. Some (path-zero (table m) 7 0 refl i, master_file i))
    where
      master_file : file_in m 0 ≡ master_of_factory
      master_file = ap (λ (x : Entry). file_of x (content m x)) (in_table 0) ∙ master_file_is (content m master_entry)

  file_node : node m 1 ≡ Some (0x2FE2 ∷ [], file_of_factory)
  file_node = node-used m 1 (λ none. let is = ap (λ (x : Entry). x.kind) (in_table 1) ∙ file_kind 62 in
      let z : ⊥ = omega (arith, is, none) in z)
      ∙ (λ i. Some (path i, file i))
    where
      path : path_of (table m) 1 ≡ 0x2FE2 ∷ []
      path = ap (λ (t : List Entry). path_of t 1) entries ∙ file_path 62

      file : file_in m 1 ≡ file_of_factory
      file = ap (λ (x : Entry). file_of x (content m x)) (in_table 1) ∙ ap (file_of file_entry) bytes_are ∙ file_is []

  no_nodes : (a n : ℕ) → 2 ≤ a → filter_map (node m) (range_with_len a n) ≡ []
  no_nodes a zero low = refl
  no_nodes a (suc n) low =
      ap₂ (λ (o : Option Node) (ns : List Node). cons_option o ns)
      (node-free m a (ap (λ (x : Entry). x.kind) (in_table a) ∙ none_used 62 a low))
      (no_nodes (a + 1) n (omega (arith, low)))

  pub tree-factory : tree_of m ≡ factory_tree
  unfolding tree_of
  tree-factory = ap (from_entries {R = slice_cmp nat_cmp})
      (ap₂ (λ (o : Option Node) (ns : List Node). cons_option o ns) master_node
      (ap₂ (λ (o : Option Node) (ns : List Node). cons_option o ns) file_node (no_nodes 2 62 (lit≤ tt))))

  -- what is free on the factory's card, by what is free in this memory
  pub space-factory : Counted → card_space (factory_card (board_blocks m)) ≡ factory_space (board_blocks m)
  space-factory counted =
      let tree = tree-factory in
      let blocks_free : length (free_chain m) ≡ free =
      free_long m end inside least most links head first-link free as-many in
      let entries_free : free_entries (table m) ≡ 62 = ap free_entries entries ∙ free_ones 62 in
      let space : free_space (block_count m) factory_tree
      ≡ record { blocks = length (free_chain m); entries = free_entries (table m) } =
      sym (ap (free_space (block_count m)) tree) ∙ space_counted m sized (tree-stands counted) in
      let some = ap (λ (s : FreeSpace). s.blocks) space ∙ blocks_free in
      let entries_are = ap (λ (s : FreeSpace). s.entries) space ∙ entries_free in
      let many = least in
      let all = inside in
      let blocks : (card_space (factory_card (board_blocks m))).blocks ≡ (factory_space (board_blocks m)).blocks =
      omega (arith, some, counted, many, all) in
      λ i. record { blocks = blocks i; entries = entries_are i }

  pin_words : (pin : ℕ) → pin < PINS → page_words m (pin_page pin) ≡ factory_pin_page format
  pin_words pin lt = page-is (pin_page pin) (omega (arith, lt))
      ∙ pin_page_is format end (pin_page pin) (omega arith) (omega (arith, lt))

  pin_word_is : (pin k : ℕ) → pin < PINS → k < 16 → pin_word m pin k ≡ slice_index (factory_pin_page format) k
  pin_word_is pin k lt small =
      sym (index-page_words m (pin_page pin) k small)
      ∙ ap (λ (words : List ℕ). slice_index words k) (pin_words pin lt)

  pins : ArePinPages m
  pins = record {
    each = λ pin lt. record {
      tries = let is = pin_word_is pin 0 lt (lit< tt) in omega (arith, is);
      unblocking_tries = let is = pin_word_is pin 1 lt (lit< tt) in omega (arith, is);
    };
  }

  mark-of : (pin : ℕ) → pin < PINS → pin_word m pin PIN_MARK_WORD ≡ factory_pin_mark format
  mark-of pin lt = pin_word_is pin PIN_MARK_WORD lt (lit< tt)

  pub gate-factory : gate m ≡ 0
  gate-factory = place 73 0 (lit< tt) (lit< tt)

  pin-is : (pin : ℕ) → pin < PINS → enabled_pin (pin_at m pin) ≡ factory_pin
  unfolding pin_at
  pin-is pin lt =
      let tries = pin_word_is pin 0 lt (lit< tt) in
      let unblocking_tries = pin_word_is pin 1 lt (lit< tt) in
      let first = pin_word_is pin 2 lt (lit< tt) in
      let second = pin_word_is pin 3 lt (lit< tt) in
      let third = pin_word_is pin 4 lt (lit< tt) in
      let fourth = pin_word_is pin 5 lt (lit< tt) in
      λ i. record {
        value = bytes_of_words (first i) (second i);
        tries = tries i;
        unblocking = bytes_of_words (third i) (fourth i);
        unblocking_tries = unblocking_tries i;
        enabled = true;
      }

  pins_from : (a n : ℕ) → a + n ≤ PINS
      → map (λ pin. enabled_pin (pin_at m pin)) (range_with_len a n) ≡ replicate n factory_pin
  pins_from a zero le = refl
  pins_from a (suc n) le = ap₂ (λ (pin : Pin) (rest : List Pin). pin ∷ rest) (pin-is a (omega (arith, le)))
      (pins_from (a + 1) n (omega (arith, le)))

  card-by-blocks : card_blocks m ≡ board_blocks m → card_pins m ≡ unmarked_pins_of m
      → card_of m ≡ factory_card (board_blocks m)
  unfolding card_of unmarked_pins_of
  card-by-blocks blocks unmarked =
      let state : (word m HEADER_PAGE STATE_WORD == 0) ≡ true = ap (λ (w : ℕ). w == 0) state-is in
      let all = unmarked ∙ pins_from 0 8 (lit≤ tt) in
      let tree = tree-factory in
      λ i. record { tree = tree i; pins = all i; in_use = state i; blocks = blocks i }

-- of format 1 the blocks end at page 1,024
module _ (m : List ℕ) (sized : IsMemory m) (factory : IsFactory One m) where
  differs : word m HEADER_PAGE MARK_WORD ≢ MARK
  differs = λ is. let old = mark-is One m sized factory in let z : ⊥ = omega (arith, is, old) in z

  counted-one : Counted One m sized factory
  counted-one =
      let count = count_is m in
      let end = end_old m differs in
      omega (arith, count, end)

  words-one : IsOldCard m
  words-one = record {
    header = record {
      mark = mark-is One m sized factory;
      state = let is = state-is One m sized factory in omega (arith, is);
    };
    tree = tree-stands One m sized factory counted-one;
    pins = pins One m sized factory;
  }

  blocks-one : card_blocks m ≡ board_blocks m
  blocks-one = blocks_old m (marked_old m differs)

  pins-one : card_pins m ≡ unmarked_pins_of m
  pins-one = pins_old m (marked_old m differs)

-- and of format 2 where the header says
module _ (m : List ℕ) (sized : IsMemory m) (factory : IsFactory Two m) where
  is-new : word m HEADER_PAGE MARK_WORD ≡ MARK
  is-new = mark-is Two m sized factory

  told-end : word m HEADER_PAGE PAGES_WORD ≡ pages_of m
  told-end = place Two m sized factory HEADER_PAGE PAGES_WORD (lit< tt) (lit< tt)

  counted-two : Counted Two m sized factory
  counted-two =
      let count = count_is m in
      let end = end_new m is-new in
      let told = told-end in
      let least = sized.least in
      omega (arith, count, end, told, least)

  enabled-two : AreEnabled m
  enabled-two = record { each = λ pin lt. mark-of Two m sized factory pin lt }

  words-two : IsCard m
  words-two = record {
    header = record {
      mark = is-new;
      end = let told = told-end in let least = sized.least in omega (arith, told, least);
      state = let is = state-is Two m sized factory in omega (arith, is);
    };
    tree = tree-stands Two m sized factory counted-two;
    pins = pins Two m sized factory;
    marks = enabled_marks m enabled-two;
  }

  blocks-two : card_blocks m ≡ board_blocks m
  blocks-two =
      let was = blocks_new m (marked_new m is-new) in
      let count = count_is m in
      let end = end_new m is-new in
      let told = told-end in
      omega (arith, was, count, end, told)

  pins-two : card_pins m ≡ unmarked_pins_of m
  pins-two = pins_new m (marked_new m is-new) ∙ enabled_unmarked m enabled-two

pub words-factory : (format : MemoryFormat) (m : List ℕ) → IsMemory m → IsFactory format m → IsAnyCard m
words-factory One m sized factory = inr (words-one m sized factory)
words-factory Two m sized factory = inl (words-two m sized factory)

counted : (format : MemoryFormat) (m : List ℕ) (sized : IsMemory m) (factory : IsFactory format m)
    → Counted format m sized factory
counted One m sized factory = counted-one m sized factory
counted Two m sized factory = counted-two m sized factory

pub space-of-factory : (format : MemoryFormat) (m : List ℕ) → IsMemory m → IsFactory format m
    → card_space (factory_card (board_blocks m)) ≡ factory_space (board_blocks m)
space-of-factory format m sized factory = space-factory format m sized factory (counted format m sized factory)

blocks-are : (format : MemoryFormat) (m : List ℕ) → IsMemory m → IsFactory format m → card_blocks m ≡ board_blocks m
blocks-are One m sized factory = blocks-one m sized factory
blocks-are Two m sized factory = blocks-two m sized factory

pins-are : (format : MemoryFormat) (m : List ℕ) → IsMemory m → IsFactory format m → card_pins m ≡ unmarked_pins_of m
pins-are One m sized factory = pins-one m sized factory
pins-are Two m sized factory = pins-two m sized factory

-- The factory's memory stands for the factory's card.
pub stands-factory : (format : MemoryFormat) (m : List ℕ) → IsMemory m → IsFactory format m
    → StandsFor m (factory_card (board_blocks m))
stands-factory format m sized factory = record {
  shut = gate-factory format m sized factory;
  words = words-factory format m sized factory;
  card = card-by-blocks format m sized factory (blocks-are format m sized factory) (pins-are format m sized factory);
}
