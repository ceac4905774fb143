-- A formatted flash is a new board, and what is written to one.
use Rattle.std.specs.Prelude.{◌≡◌, ◌<◌, ◌-◌, ◌*◌, ℕ, false, List, length, replicate, slice_index}
use Rattle.std.proofs.Common.{arith, sym, ap, ◌∙◌}
use Rattle.std.proofs.lemmas.List.{ext_get_or, get_or-replicate, length-replicate}
use Rattle.nvm_board.specs.declared.board.TheConstants.{PAGE_WORDS}
use Rattle.nvm_board.specs.Facts.{Facts, Steady, new_board, pages_of}
use Rattle.nvm_board.specs.laws.Sizes.{pages_same}
use Rattle.command_base.specs.Standing.{board_blocks}
use Rattle.undo_journal.specs.Spending.{WritesAtMost}
use Rattle.bench_turns.specs.NewlyWritten.{IsNewlyWritten}
use Rattle.flash_device.specs.FlashCalls.{FlashState}
use Rattle.flash_board.specs.FlashFacts.{made_of}
use Rattle.flash_device.specs.FlashLogs.{words_of}
use Rattle.flash_moves.specs.Places.{state_of}
use Rattle.flash_area.specs.laws.Words.{length-words}

-- a new board whose cuts leave all words of a write or none
abbrev new_flash : ℕ → Facts
new_flash pages = record (new_board pages) { masks = false }

-- words that are all 0
zeros : (l : List ℕ) (n : ℕ) → length l ≡ n → ((i : ℕ) → i < n → slice_index l i ≡ 0) → l ≡ replicate n 0
zeros l n size blank =
    ext_get_or 0 l (replicate n 0) (size ∙ sym (length-replicate {A = ℕ} n 0))
    (λ i lt. let below : i < n = omega (arith, lt, size) in blank i below ∙ sym (get_or-replicate n i 0 0 below))

-- the board of a formatted flash, on which no power loss is set, is a new one
pub blank_is_new : (pages slots : ℕ) (flash : FlashState)
    → ((i : ℕ) → i < 16 * pages → slice_index (words_of pages slots flash.words) i ≡ 0)
    → flash.due ≡ 0 → made_of (state_of pages slots flash) ≡ new_flash pages
blank_is_new pages slots flash blank due =
    let words = zeros (words_of pages slots flash.words) (16 * pages) (length-words pages slots flash.words) blank in
    let of_words : List ℕ → Facts = λ l. record (new_flash pages) { words = l; due = flash.due } in
    let of_due : ℕ → Facts = λ n. record (new_flash pages) { due = n } in
    ap of_words words ∙ ap of_due due

-- a new board has room for as many blocks as it has pages from page 128 on
new_pages : (n : ℕ) (old : Facts) → old ≡ new_flash n → pages_of old.words ≡ n
new_pages n old is =
    let size : length old.words ≡ PAGE_WORDS * n =
    ap (λ (f : Facts). length f.words) is ∙ length-replicate {A = ℕ} (PAGE_WORDS * n) 0 in
    omega (arith, size)

pub new_blocks : (n : ℕ) (old new : Facts) → old ≡ new_flash n → length new.words ≡ length old.words
    → board_blocks new.words ≡ n - 128
new_blocks n old new is size =
    let pages = new_pages n old is in
    let same = pages_same old.words new.words size in
    omega (arith, pages, same)

-- a new board on which the factory's card was written
pub just_written : (n : ℕ) (old new : Facts) → old ≡ new_flash n → Steady old new
    → WritesAtMost (pages_of old.words) old new → IsNewlyWritten n new
just_written n old new is steady spent =
    let pages = new_pages n old is in
    let due : old.due ≡ 0 = ap (λ (f : Facts). f.due) is in
    let faults : old.faults ≡ 0 = ap (λ (f : Facts). f.faults) is in
    let cuts : old.cuts ≡ 0 = ap (λ (f : Facts). f.cuts) is in
    let writes : old.writes ≡ 0 = ap (λ (f : Facts). f.writes) is in
    let most = spent.writes in
    record {
      lit = steady.lit;
      due = steady.due ∙ due;
      faults = steady.faults ∙ faults;
      cuts = steady.cuts ∙ cuts;
      writes = omega (arith, most, writes, pages);
      compares = spent.compares ∙ ap (λ (f : Facts). f.compares) is;
      matches = spent.matches ∙ ap (λ (f : Facts). f.matches) is;
    }
