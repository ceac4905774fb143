-- The format of a memory after power-on, and the number of device writes of power-on.
use Rattle.std.specs.Prelude.{◌≡◌, ◌⊎◌, ◌+◌, ◌≤◌, ℕ, false, if◌then◌else◌, IsTrue, List}
use Rattle.nvm_board.specs.Facts.{Facts, pages_of}
use Rattle.undo_journal.specs.Spending.{start_writes, KeepsBoard}
use Rattle.undo_journal.specs.Undo.{gate}
use Rattle.block_chain.specs.BlockWords.{word}
use Rattle.block_chain.specs.declared.layout.TheConstants.{HEADER_PAGE}
use Rattle.file_tree.specs.Formats.{end_page, is_format_2}
use Rattle.file_tree.specs.declared.layout.TheConstants.{MARK_WORD}
use Rattle.migration.specs.Migrating.{migration_writes}
use Rattle.command_base.specs.Finding.{words_found}
use Rattle.command_base.specs.Standing.{IsOldCard}

-- the recovered words are of format 2
abbrev pub IsNewFound : List ℕ → Type 0
IsNewFound m = IsTrue (is_format_2 (words_found m))

-- the mark of the recovered words is unchanged, or that of format 2
abbrev pub KeepsFormat : List ℕ → List ℕ → Type 0
KeepsFormat old new =
    (word (words_found new) HEADER_PAGE MARK_WORD ≡ word (words_found old) HEADER_PAGE MARK_WORD) ⊎ IsNewFound new

-- a memory that wasn't of format 2 now has all pages of its board
abbrev pub TakesAllPages : List ℕ → List ℕ → Type 0
TakesAllPages old new = is_format_2 (words_found old) ≡ false → end_page (words_found new) ≡ pages_of new

-- With an empty journal, power-on changes no word and no counter of writes or comparisons, unless the card image is of
-- format 1.
abbrev pub KeepsUnlessOld : Facts → Facts → Type 0
KeepsUnlessOld old new = gate old.words ≡ 0 → ¬ IsOldCard (words_found old.words) → KeepsBoard old new

-- The recovered words are unchanged, unless they are a card of format 1.
abbrev pub KeepsFoundUnlessOld : List ℕ → List ℕ → Type 0
KeepsFoundUnlessOld old new = ¬ IsOldCard (words_found old) → words_found new ≡ words_found old

-- Power-on makes at most the device writes of the rollback, unless the card image is of format 1.
abbrev pub RollsBackUnlessOld : Facts → Facts → Type 0
RollsBackUnlessOld old new = ¬ IsOldCard (words_found old.words) → new.writes ≤ old.writes + start_writes old

-- the device writes of the migration, if the memory isn't of format 2
abbrev pub renewal_writes : List ℕ → ℕ
renewal_writes m = if is_format_2 (words_found m) then 0 else migration_writes (pages_of m)

-- the device writes of a power-on that succeeds: those of the rollback and of the migration; one that stops makes no
-- more
abbrev pub power_on_writes : Facts → ℕ
power_on_writes facts = start_writes facts + renewal_writes facts.words

-- The mark of the recovered words is unchanged, or power-on made all its device writes, or all but the last.
abbrev pub RenamesLast : Facts → Facts → Type 0
RenamesLast old new =
    (word (words_found new.words) HEADER_PAGE MARK_WORD ≡ word (words_found old.words) HEADER_PAGE MARK_WORD)
    ⊎ (old.writes + power_on_writes old ≤ new.writes + 1)
