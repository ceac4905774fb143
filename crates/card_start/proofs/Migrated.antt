-- A card of format 1 that becomes one of format 2, at whatever exit, and what a start finds then.
use Rattle.std.specs.Prelude.{◌↔◌, ◌≤◌}
use Rattle.std.proofs.Common.{◌≡◌, ◌⊎◌, ◌+◌, ◌-◌, ◌==◌, ℕ, Bool, true≢false, List, length, if◌then◌else◌}
use Rattle.std.proofs.Common.{true, Option, Some, sym, ◌∙◌, ap, subst, arith, inl, inr, ⊎_elim}
use Rattle.nvm_board.specs.Facts.{Facts, IsMemory, pages_of}
use Rattle.nvm_board.specs.laws.Sizes.{pages_same}
use Rattle.undo_journal.specs.Memory.{committed, Memory}
use Rattle.undo_journal.specs.Spending.{WritesAtMost, start_writes}
use Rattle.undo_journal.specs.Undo.{undo, IsSound}
use Rattle.undo_journal.specs.UndoLaws.{length-undo, length-data_words}
use Rattle.undo_journal.specs.laws.Memory.{writes_then}
use Rattle.block_chain.specs.BlockWords.{word}
use Rattle.block_chain.specs.declared.layout.TheConstants.{HEADER_PAGE}
use Rattle.file_tree.specs.Formats.{block_count, is_format_2}
use Rattle.file_tree.specs.declared.layout.TheConstants.{MARK_WORD, OLD_END_PAGE}
use Rattle.card_model.specs.Spaces.{free_space}
use Rattle.file_tree.specs.Trees.{tree_of}
use Rattle.file_tree.specs.Table.{table}
use Rattle.file_tree.specs.declared.index.Index.{Index}
use Rattle.file_tree.specs.Indexes.{IsIndex}
use Rattle.file_tree.specs.declared.entry.Entry.{Entry}
use Rattle.card_model.specs.declared.space.FreeSpace.{FreeSpace}
use Rattle.file_tree.specs.laws.Costs.{costs_fit}
use Rattle.file_tree.specs.laws.Formats.{count_is, end_new}
use Rattle.file_tree.specs.laws.Migrating.{old_count}
use Rattle.pin_store.specs.laws.AllPins.{enabled_marks, enabled_unmarked, secrets_kept, secrets_pages}
use Rattle.migration.specs.Migrating.{IsNew, Migrates, migration_writes}
use Rattle.card_model.specs.Cards.{card_space}
use Rattle.command_base.specs.Finding.{words_found, FindsAgain}
use Rattle.command_base.specs.Standing.{card_blocks, card_of, card_pins, IsAnyCard, IsCard, IsOldCard}
use Rattle.card_start.specs.StartParts.{IsCardIn, TellsCard}
use Rattle.card_start.specs.declared.check.Checked.{Checked}
use Rattle.card_start.specs.declared.memory_format.MemoryFormat.{MemoryFormat}
use Rattle.card_start.specs.declared.memory_format.MemoryFormat.TheVariants.{One, Two}
use Rattle.card_start.specs.Starting.{KeepsFormat, RenamesLast, TakesAllPages, power_on_writes}
use Rattle.command_base.specs.laws.CardLaws.{blocks_new, blocks_old, card_format, card_space_is, marked_new, old_format}
use Rattle.command_base.specs.laws.CardLaws.{old_mark}
use Rattle.command_base.specs.laws.CardLaws.{pins_new, pins_old}

-- the memory is as it was, or that of a card of format 1 which is still one, or is one of format 2
abbrev pub IsRenewed : List ℕ → List ℕ → Type 0
IsRenewed m after = (after ≡ m) ⊎ (IsOldCard m × Migrates m after)

module _ (m after : List ℕ) (sized : IsMemory m) (old : IsOldCard m) (migrates : Migrates m after) where
  abbrev Format : Type 0
  Format = (word after HEADER_PAGE MARK_WORD ≡ word m HEADER_PAGE MARK_WORD) ⊎ IsNew after

  pages-are : pages_of after ≡ pages_of m
  pages-are = pages_same m after migrates.keeps.size

  still-old : word after HEADER_PAGE MARK_WORD ≡ word m HEADER_PAGE MARK_WORD → IsOldCard after
  still-old same = record {
    header = record {
      mark = same ∙ old.header.mark;
      state = let was = old.header.state in let is = migrates.keeps.state in omega (arith, is, was);
    };
    tree = migrates.keeps.stands;
    pins = secrets_pages m after migrates.keeps.pins old.pins;
  }

  -- where it has become one of format 2
  pub renewed-card : IsNew after → IsCard after
  renewed-card new = record {
    header = record {
      mark = new.mark;
      end = let pages = new.pages in let same = pages-are in omega (arith, pages, same, sized.least);
      state = let was = old.header.state in let is = migrates.keeps.state in omega (arith, is, was);
    };
    tree = migrates.keeps.stands;
    pins = secrets_pages m after migrates.keeps.pins old.pins;
    marks = enabled_marks after (record { each = new.pins });
  }

  any-migrated : IsAnyCard after
  any-migrated = ⊎_elim (λ (same : word after HEADER_PAGE MARK_WORD ≡ word m HEADER_PAGE MARK_WORD).
      inr (still-old same)) (λ (new : IsNew after). inl (renewed-card new)) migrates.format

  -- it has as many blocks, once it is started
  blocks-are : card_blocks after ≡ card_blocks m
  blocks-are =
      let was = blocks_old m (old_format m old) in
      let same = pages-are in
      ⊎_elim
      (λ (kept : word after HEADER_PAGE MARK_WORD ≡ word m HEADER_PAGE MARK_WORD).
      let now = blocks_old after (old_format after (still-old kept)) in omega (arith, was, now, same))
      (λ (new : IsNew after).
      let now = blocks_new after (marked_new after new.mark) in
      let count = count_is after in
      let end = end_new after new.mark in
      let pages = new.pages in
      omega (arith, was, now, count, end, pages, same)) migrates.format

  -- and the same PINs: of format 1 all are enabled, and so their marks say in format 2
  pins-are : card_pins after ≡ card_pins m
  pins-are =
      let same = secrets_kept m after migrates.keeps.pins ∙ sym (pins_old m (old_format m old)) in
      ⊎_elim
      (λ (kept : word after HEADER_PAGE MARK_WORD ≡ word m HEADER_PAGE MARK_WORD).
      pins_old after (old_format after (still-old kept)) ∙ same)
      (λ (new : IsNew after).
      pins_new after (marked_new after new.mark) ∙ enabled_unmarked after (record { each = new.pins }) ∙ same)
      migrates.format

  card-migrated : card_of after ≡ card_of m
  unfolding card_of
  card-migrated =
      let tree = migrates.keeps.tree in
      let pins = pins-are in
      let state = migrates.keeps.state in
      let blocks = blocks-are in
      λ i. record { tree = tree i; pins = pins i; in_use = state i == 0; blocks = blocks i }

-- what is free grows by the blocks that the memory gains
pub grown-space : (m after : List ℕ) (free : FreeSpace) (n : ℕ) → n ≡ pages_of after → IsMemory m → IsOldCard m
    → Migrates m after → IsNew after
    → free ≡ free_space (block_count m) (tree_of m)
    → record { blocks = free.blocks + (n - OLD_END_PAGE); entries = free.entries } ≡ card_space (card_of after)
grown-space m after free n all sized old migrates new is =
    let card = renewed-card m after sized old migrates new in
    let tree = migrates.keeps.tree in
    let blocks_is = ap (λ (s : FreeSpace). s.blocks) is in
    let entries_is = ap (λ (s : FreeSpace). s.entries) is in
    let fit = costs_fit m sized old.tree in
    let before = old_count m (old_mark m old) in
    let count = count_is after in
    let end = end_new after new.mark in
    let pages = new.pages in
    let same = pages_same m after migrates.keeps.size in
    let least = sized.least in
    let blocks : free.blocks + (n - OLD_END_PAGE) ≡ (free_space (block_count after) (tree_of m)).blocks =
    omega (arith, all, blocks_is, fit, before, count, end, pages, same, least) in
    (λ i. record { blocks = blocks i; entries = entries_is i })
    ∙ ap (free_space (block_count after)) (sym tree) ∙ sym (card_space_is after card)

-- what a check told of a card, by its format
told-one : (m : List ℕ) (files : Index) (checked : Checked) → checked.format ≡ One
    → TellsCard m files (Some checked) → IsOldCard m
told-one m files checked is tells = subst (λ (format : MemoryFormat). IsCardIn format m) is tells.0

pub found-one : (m : List ℕ) (files : Index) (told : Option Checked) (checked : Checked) → told ≡ Some checked
    → checked.format ≡ One → TellsCard m files told → IsOldCard m
found-one m files told checked there is tells =
    told-one m files checked is (subst (λ (o : Option Checked). TellsCard m files o) there tells)

pub found-two : (m : List ℕ) (files : Index) (told : Option Checked) (checked : Checked) → told ≡ Some checked
    → checked.format ≡ Two → TellsCard m files told
    → IsCard m × (checked.free ≡ card_space (card_of m)) × IsIndex (table m) files
found-two m files told checked there is tells =
    let says = subst (λ (o : Option Checked). TellsCard m files o) there tells in
    let card = subst (λ (format : MemoryFormat). IsCardIn format m) is says.0 in
    (card, says.1 ∙ sym (card_space_is m card), says.2)

-- what was told to be free, of a memory that was only read since
pub found-free : (m mid : List ℕ) (files : Index) (told : Option Checked) (checked : Checked) → mid ≡ m
    → told ≡ Some checked → TellsCard m files told → checked.free ≡ free_space (block_count mid) (tree_of mid)
found-free m mid files told checked same there tells =
    let says = subst (λ (o : Option Checked). TellsCard m files o) there tells in
    says.1 ∙ sym (ap (λ (l : List ℕ). free_space (block_count l) (tree_of l)) same)

-- each file is where it was, once the memory was migrated
pub found-where : (m mid after : List ℕ) (files : Index) (told : Option Checked) (checked : Checked) → mid ≡ m
    → told ≡ Some checked → TellsCard m files told → Migrates mid after → IsIndex (table after) files
found-where m mid after files told checked same there tells migrates =
    let says = subst (λ (o : Option Checked). TellsCard m files o) there tells in
    subst (λ (t : List Entry). IsIndex t files) (sym (migrates.keeps.table ∙ ap table same)) says.2

-- the writes of a renewal, of a memory that was only read before
pub renewal-writes : (m mid : List ℕ) → mid ≡ m → IsOldCard m
    → migration_writes (pages_of mid) ≡ (if is_format_2 m then 0 else migration_writes (pages_of m))
renewal-writes m mid same old =
    ap (λ (l : List ℕ). migration_writes (pages_of l)) same
    ∙ sym (ap (λ (b : Bool). if b then 0 else migration_writes (pages_of m)) (old_format m old))

-- of format 2 there are none
pub renewal-none : (m : List ℕ) → is_format_2 m ≡ true
    → (if is_format_2 m then 0 else migration_writes (pages_of m)) ≡ 0
renewal-none m new = ap (λ (b : Bool). if b then 0 else migration_writes (pages_of m)) new

-- where the same words are found, the same card is
pub found-still : (old new : List ℕ) → words_found new ≡ words_found old
    → (IsSound new ↔ IsSound old) → FindsAgain old new
found-still old new same sound = record {
  card = ap card_of same;
  there = (
    λ there. record { journal = sound.0 there.journal; words = subst IsAnyCard same there.words },
    λ there. record { journal = sound.1 there.journal; words = subst IsAnyCard (sym same) there.words },
  );
  journal = sound;
}

-- What is found after an opening, and a renewal behind it:
-- `first` is the board before them, `opened` and `last` are the store.
module _ (first : List ℕ) (opened last : Memory) (sized : IsMemory (committed opened))
    (undone : committed opened ≡ words_found first) (exit : IsRenewed (committed opened) (committed last)) where
  pub found-again : IsSound first → IsSound last.facts.words → FindsAgain first last.facts.words
  found-again sound still = ⊎_elim
      (λ (kept : committed last ≡ committed opened). found-still first last.facts.words (kept ∙ undone)
      (λ there. sound, λ there. still))
      (λ (migrated : IsOldCard (committed opened) × Migrates (committed opened) (committed last)).
      record {
        card = card-migrated (committed opened) (committed last) sized migrated.0 migrated.1 ∙ ap card_of undone;
        there = (
          λ there. record { journal = sound; words = subst IsAnyCard undone (inr migrated.0) },
          λ there. record {
            journal = still;
            words = any-migrated (committed opened) (committed last) sized migrated.0 migrated.1;
          },
        );
        journal = (λ there. sound, λ there. still);
      }) exit

  pub found-format : KeepsFormat first last.facts.words
  found-format = ⊎_elim
      (λ (kept : committed last ≡ committed opened). inl (ap (λ (l : List ℕ). word l HEADER_PAGE MARK_WORD)
      (kept ∙ undone))) (λ (migrated : IsOldCard (committed opened) × Migrates (committed opened) (committed last)).
      ⊎_elim (λ (same : word (committed last) HEADER_PAGE MARK_WORD ≡ word (committed opened) HEADER_PAGE MARK_WORD).
      inl (same ∙ ap (λ (l : List ℕ). word l HEADER_PAGE MARK_WORD) undone))
      (λ (new : IsNew (committed last)). inr (marked_new (committed last) new.mark)) migrated.1.format) exit

  -- a card of format 2 that was of format 1 has all pages
  pub found-pages : IsCard (committed last) → TakesAllPages first last.facts.words
  found-pages card = λ was. ⊎_elim
      (λ (kept : committed last ≡ committed opened).
      absurd (true≢false (sym (card_format (committed last) card) ∙ ap is_format_2 (kept ∙ undone) ∙ was)))
      (λ (migrated : IsOldCard (committed opened) × Migrates (committed opened) (committed last)). ⊎_elim
      (λ (same : word (committed last) HEADER_PAGE MARK_WORD ≡ word (committed opened) HEADER_PAGE MARK_WORD).
      absurd (old_mark (committed opened) migrated.0 (sym same ∙ card.header.mark)))
      (λ (new : IsNew (committed last)). end_new (committed last) new.mark ∙ new.pages
      ∙ pages_same last.facts.words (committed last) (length-data_words (undo last.facts.words)
      ∙ length-undo last.facts.words)) migrated.1.format) exit

-- and the mark is new only behind all of it but the last write
pub renames-last : (first : Facts) (opened last : Memory) → committed opened ≡ words_found first.words
    → opened.facts.writes ≡ first.writes + start_writes first
    → (word (committed last) HEADER_PAGE MARK_WORD ≡ word (committed opened) HEADER_PAGE MARK_WORD)
    ⊎ (opened.facts.writes
    + (if is_format_2 (committed opened) then 0 else migration_writes (pages_of (committed opened)))
    ≤ last.facts.writes + 1) → RenamesLast first last.facts
renames-last first opened last undone before exit =
    let size : length (committed opened) ≡ length first.words =
    ap (λ (l : List ℕ). length l) undone ∙ length-data_words (undo first.words) ∙ length-undo first.words in
    let pages = pages_same first.words (committed opened) size in
    let more : ℕ = if is_format_2 (committed opened) then 0 else migration_writes (pages_of (committed opened)) in
    let most : ℕ = if is_format_2 (words_found first.words) then 0 else migration_writes (pages_of first.words) in
    let bound : more ≡ most = λ i. if is_format_2 (undone i) then 0 else migration_writes (pages i) in
    ⊎_elim
    (λ (kept : word (committed last) HEADER_PAGE MARK_WORD ≡ word (committed opened) HEADER_PAGE MARK_WORD).
    inl (kept ∙ ap (λ (l : List ℕ). word l HEADER_PAGE MARK_WORD) undone))
    (λ (all : opened.facts.writes + more ≤ last.facts.writes + 1). inr (omega (arith, before, all, bound)))
    exit

-- what an opening and a renewal spend exactly
pub spends-all : (first : Facts) (opened last : Memory) → committed opened ≡ words_found first.words
    → opened.facts.writes ≡ first.writes + start_writes first
    → last.facts.writes ≡ opened.facts.writes
    + (if is_format_2 (committed opened) then 0 else migration_writes (pages_of (committed opened)))
    → last.facts.writes ≡ first.writes + power_on_writes first
spends-all first opened last undone before after =
    let size : length (committed opened) ≡ length first.words =
    ap (λ (l : List ℕ). length l) undone ∙ length-data_words (undo first.words) ∙ length-undo first.words in
    let pages = pages_same first.words (committed opened) size in
    let more : ℕ = if is_format_2 (committed opened) then 0 else migration_writes (pages_of (committed opened)) in
    let most : ℕ = if is_format_2 (words_found first.words) then 0 else migration_writes (pages_of first.words) in
    let bound : more ≡ most = λ i. if is_format_2 (undone i) then 0 else migration_writes (pages i) in
    omega (arith, before, after, bound)

-- what an opening and a renewal spend together
pub spends-on : (first : Facts) (opened last : Memory) → committed opened ≡ words_found first.words
    → WritesAtMost (start_writes first) first opened.facts
    → WritesAtMost (if is_format_2 (committed opened) then 0 else migration_writes (pages_of (committed opened)))
    opened.facts last.facts → WritesAtMost (power_on_writes first) first last.facts
spends-on first opened last undone before after =
    let size : length (committed opened) ≡ length first.words =
    ap (λ (l : List ℕ). length l) undone ∙ length-data_words (undo first.words) ∙ length-undo first.words in
    let pages = pages_same first.words (committed opened) size in
    let bound : (if is_format_2 (committed opened) then 0 else migration_writes (pages_of (committed opened)))
    ≡ (if is_format_2 (words_found first.words) then 0 else migration_writes (pages_of first.words)) =
    λ i. if is_format_2 (undone i) then 0 else migration_writes (pages i) in
    subst (λ (n : ℕ). WritesAtMost (start_writes first + n) first last.facts) bound
    (writes_then (start_writes first) (if is_format_2 (committed opened) then 0
    else migration_writes (pages_of (committed opened))) first opened.facts last.facts before after)
