use Rattle.std.proofs.Common.{◌*◌, ◌⊎◌, ◌≡◌, ◌+◌, ℕ, List, length, sym, subst}
use Rattle.std.proofs.Common.{arith}
use Rattle.flash_device.specs.PageTables.{AreFree, IsPageTable}
use Rattle.flash_device.specs.FlashLogs.{base_in, slot_of, find, words_of}
use Rattle.flash_device.specs.PutRecords.{IsPut, PutsInSlot}
use Rattle.flash_moves.specs.laws.Writing.{run_marks, run_done, run_held, run_last, run_whole, run_index}
use Rattle.flash_moves.specs.laws.Writing.{free_behind}
use Rattle.flash_device.specs.FlashCalls.{SameElsewhere}
use Rattle.flash_moves.specs.Rings.{SameMarks}
use Rattle.nvm_board.specs.History.{written}
use Rattle.flash_moves.proofs.writing.write_run.Given.{Over}
use Rattle.flash_moves.proofs.writing.write_run.Goals.{After-program_record}
use Rattle.flash_moves.proofs.writing.write_run.Goals as goal

-- the words are old or new, whether the record is whole or torn
put_whole : (g : Over) (c : After-program_record g)
    → (words_of g.F.Flash.PAGES g.F.Flash.SLOTS (g.F.Flash.state c.program_record.new.flash).words ≡ words_of
    g.F.Flash.PAGES g.F.Flash.SLOTS (g.F.Flash.state c.args.flash.now).words)
    ⊎ (words_of g.F.Flash.PAGES g.F.Flash.SLOTS (g.F.Flash.state c.program_record.new.flash).words ≡ written (words_of
    g.F.Flash.PAGES g.F.Flash.SLOTS (g.F.Flash.state c.args.flash.now).words) (16 * c.args.page + c.args.first)
    c.args.words.now)
put_whole g c =
    let slots = g.F.Flash.SLOTS in
    let pages = g.F.Flash.PAGES in
    let a = c.args in
    let m = (g.F.Flash.state a.flash.now).words in
    let after = (g.F.Flash.state c.program_record.new.flash).words in
    let words = c.overlay.new.found in
    let at = slot_of (base_in slots a.area) a.next in
    let puts : PutsInSlot m at words after = subst (λ (k : ℕ). PutsInSlot m k words after) c.slot_at.ensures.is
    (subst (λ (l : List ℕ). PutsInSlot l c.slot_at.result words after) c.record_of.ensures.words
    c.program_record.ensures.puts) in
    let size : length words ≡ 18 = omega arith in
    run_whole pages slots m after a.area a.next a.page a.first a.words.now c.in_ok-found.found words c.requires.room
    c.requires.home
    c.requires.free size c.requires.page c.requires.run c.in_ok-found.ensures.each c.in_ok-found.ensures.names
    c.overlay.ensures.other c.overlay.ensures.run puts

pub returns-in_err-program_record-clause-whole : goal.returns-in_err-program_record-clause-whole
returns-in_err-program_record-clause-whole g c =
    put_whole g (goal.at.returns-in_err-program_record-clause-whole g c).After-program_record

-- the marks are the same
put_marks : (g : Over) (c : After-program_record g)
    → SameMarks g.F.Flash.SLOTS (g.F.Flash.state c.args.flash.now).words
    (g.F.Flash.state c.program_record.new.flash).words
put_marks g c =
    let slots = g.F.Flash.SLOTS in
    let pages = g.F.Flash.PAGES in
    let a = c.args in
    let m = (g.F.Flash.state a.flash.now).words in
    let after = (g.F.Flash.state c.program_record.new.flash).words in
    let words = c.overlay.new.found in
    let at = slot_of (base_in slots a.area) a.next in
    let puts : PutsInSlot m at words after = subst (λ (k : ℕ). PutsInSlot m k words after) c.slot_at.ensures.is
    (subst (λ (l : List ℕ). PutsInSlot l c.slot_at.result words after) c.record_of.ensures.words
    c.program_record.ensures.puts) in
    let size : length words ≡ 18 = omega arith in
    run_marks pages slots m after a.area a.next a.page a.first a.words.now c.in_ok-found.found words c.requires.room
    c.requires.home
    c.requires.free size c.requires.page c.requires.run c.in_ok-found.ensures.each c.in_ok-found.ensures.names
    c.overlay.ensures.other c.overlay.ensures.run puts

pub returns-in_err-program_record-clause-marks : goal.returns-in_err-program_record-clause-marks
returns-in_err-program_record-clause-marks g c =
    put_marks g (goal.at.returns-in_err-program_record-clause-marks g c).After-program_record

pub returns-clause-whole : goal.returns-clause-whole
returns-clause-whole g c = put_whole g (goal.at.returns-clause-whole g c).After-program_record

pub returns-clause-done : goal.returns-clause-done
returns-clause-done g c =
    let slots = g.F.Flash.SLOTS in
    let pages = g.F.Flash.PAGES in
    let a = c.args in
    let m = (g.F.Flash.state a.flash.now).words in
    let after = (g.F.Flash.state c.program_record.new.flash).words in
    let words = c.overlay.new.found in
    let at = slot_of (base_in slots a.area) a.next in
    let puts : PutsInSlot m at words after = subst (λ (k : ℕ). PutsInSlot m k words after) c.slot_at.ensures.is
    (subst (λ (l : List ℕ). PutsInSlot l c.slot_at.result words after) c.record_of.ensures.words
    c.program_record.ensures.puts) in
    let size : length words ≡ 18 = omega arith in
    let put : IsPut after at words =
    subst (λ (k : ℕ). IsPut after k words) c.slot_at.ensures.is c.in_ok-program_record.ensures.done in
    run_done pages slots m after a.area a.next a.page a.first a.words.now c.in_ok-found.found words c.requires.room
    c.requires.home
    c.requires.free size c.requires.page c.requires.run c.in_ok-found.ensures.each c.in_ok-found.ensures.names
    c.overlay.ensures.other c.overlay.ensures.run puts put

pub returns-clause-index : goal.returns-clause-index
returns-clause-index g c =
    let slots = g.F.Flash.SLOTS in
    let pages = g.F.Flash.PAGES in
    let a = c.args in
    let m = (g.F.Flash.state a.flash.now).words in
    let after = (g.F.Flash.state c.program_record.new.flash).words in
    let words = c.overlay.new.found in
    let at = slot_of (base_in slots a.area) a.next in
    let puts : PutsInSlot m at words after = subst (λ (k : ℕ). PutsInSlot m k words after) c.slot_at.ensures.is
    (subst (λ (l : List ℕ). PutsInSlot l c.slot_at.result words after) c.record_of.ensures.words
    c.program_record.ensures.puts) in
    let size : length words ≡ 18 = omega arith in
    let put : IsPut after at words =
    subst (λ (k : ℕ). IsPut after k words) c.slot_at.ensures.is c.in_ok-program_record.ensures.done in
    let table = g.F.Table.PageTable.entries a.table.now in
    let all : length table ≡ pages = g.met.F.Flash.table_fits a.table.now in
    subst (λ (l : List ℕ). IsPageTable pages after (base_in slots a.area) slots l) (sym c.set_entry.ensures)
    (run_index pages slots m after a.area a.next a.page a.first a.words.now c.in_ok-found.found words c.requires.room
    c.requires.home
    c.requires.free size c.requires.page c.requires.run c.in_ok-found.ensures.each c.in_ok-found.ensures.names
    c.overlay.ensures.other c.overlay.ensures.run table all c.requires.index puts put)

pub returns-clause-last : goal.returns-clause-last
returns-clause-last g c =
    let slots = g.F.Flash.SLOTS in
    let pages = g.F.Flash.PAGES in
    let a = c.args in
    let m = (g.F.Flash.state a.flash.now).words in
    let after = (g.F.Flash.state c.program_record.new.flash).words in
    let words = c.overlay.new.found in
    let at = slot_of (base_in slots a.area) a.next in
    let puts : PutsInSlot m at words after = subst (λ (k : ℕ). PutsInSlot m k words after) c.slot_at.ensures.is
    (subst (λ (l : List ℕ). PutsInSlot l c.slot_at.result words after) c.record_of.ensures.words
    c.program_record.ensures.puts) in
    let size : length words ≡ 18 = omega arith in
    let put : IsPut after at words =
    subst (λ (k : ℕ). IsPut after k words) c.slot_at.ensures.is c.in_ok-program_record.ensures.done in
    run_last pages slots m after a.area a.next a.page a.first a.words.now c.in_ok-found.found words c.requires.room
    c.requires.home
    c.requires.free size c.requires.page c.requires.run c.in_ok-found.ensures.each c.in_ok-found.ensures.names
    c.overlay.ensures.other c.overlay.ensures.run puts put

pub returns-in_err-found-clause-free : goal.returns-in_err-found-clause-free
returns-in_err-found-clause-free g c =
    let slots = g.F.Flash.SLOTS in
    let a = c.args in
    let room = c.requires.room in
    subst (λ (l : List ℕ). AreFree l (base_in slots a.area) (a.next + 1) slots) (sym c.record_of.ensures.words)
    (record {
      within = omega (arith, room);
      free = λ s from below. c.requires.free.free s (omega (arith, from)) below;
    })

-- the slots behind it are free
put_free : (g : Over) (c : After-program_record g)
    → AreFree (g.F.Flash.state c.program_record.new.flash).words (base_in g.F.Flash.SLOTS c.args.area) (c.args.next + 1)
    g.F.Flash.SLOTS
put_free g c =
    let slots = g.F.Flash.SLOTS in
    let pages = g.F.Flash.PAGES in
    let a = c.args in
    let m = (g.F.Flash.state a.flash.now).words in
    let after = (g.F.Flash.state c.program_record.new.flash).words in
    let words = c.overlay.new.found in
    let at = slot_of (base_in slots a.area) a.next in
    let puts : PutsInSlot m at words after = subst (λ (k : ℕ). PutsInSlot m k words after) c.slot_at.ensures.is
    (subst (λ (l : List ℕ). PutsInSlot l c.slot_at.result words after) c.record_of.ensures.words
    c.program_record.ensures.puts) in
    free_behind pages slots m after a.area a.next puts.elsewhere c.requires.room c.requires.home c.requires.free

pub returns-in_err-program_record-clause-free : goal.returns-in_err-program_record-clause-free
returns-in_err-program_record-clause-free g c =
    put_free g (goal.at.returns-in_err-program_record-clause-free g c).After-program_record

pub returns-clause-free : goal.returns-clause-free
returns-clause-free g c = put_free g (goal.at.returns-clause-free g c).After-program_record

pub returns-clause-marks : goal.returns-clause-marks
returns-clause-marks g c = put_marks g (goal.at.returns-clause-marks g c).After-program_record

-- no other slot changes
put_elsewhere : (g : Over) (c : After-program_record g)
    → SameElsewhere (g.F.Flash.state c.args.flash.now).words (slot_of (base_in g.F.Flash.SLOTS c.args.area) c.args.next)
    20 (g.F.Flash.state c.program_record.new.flash).words
put_elsewhere g c =
    let slots = g.F.Flash.SLOTS in
    let a = c.args in
    let m = (g.F.Flash.state a.flash.now).words in
    let after = (g.F.Flash.state c.program_record.new.flash).words in
    let words = c.overlay.new.found in
    let at = slot_of (base_in slots a.area) a.next in
    let puts : PutsInSlot m at words after = subst (λ (k : ℕ). PutsInSlot m k words after) c.slot_at.ensures.is
    (subst (λ (l : List ℕ). PutsInSlot l c.slot_at.result words after) c.record_of.ensures.words
    c.program_record.ensures.puts) in
    puts.elsewhere

pub returns-in_err-program_record-clause-elsewhere : goal.returns-in_err-program_record-clause-elsewhere
returns-in_err-program_record-clause-elsewhere g c =
    put_elsewhere g (goal.at.returns-in_err-program_record-clause-elsewhere g c).After-program_record

pub returns-clause-elsewhere : goal.returns-clause-elsewhere
returns-clause-elsewhere g c = put_elsewhere g (goal.at.returns-clause-elsewhere g c).After-program_record

-- no page is lost
put_held : (g : Over) (c : After-program_record g) → (p : ℕ)
    → find (g.F.Flash.state c.program_record.new.flash).words (base_in g.F.Flash.SLOTS c.args.area) g.F.Flash.SLOTS p
    ≡ 0 → find (g.F.Flash.state c.args.flash.now).words (base_in g.F.Flash.SLOTS c.args.area) g.F.Flash.SLOTS p ≡ 0
put_held g c =
    let slots = g.F.Flash.SLOTS in
    let pages = g.F.Flash.PAGES in
    let a = c.args in
    let m = (g.F.Flash.state a.flash.now).words in
    let after = (g.F.Flash.state c.program_record.new.flash).words in
    let words = c.overlay.new.found in
    let at = slot_of (base_in slots a.area) a.next in
    let puts : PutsInSlot m at words after = subst (λ (k : ℕ). PutsInSlot m k words after) c.slot_at.ensures.is
    (subst (λ (l : List ℕ). PutsInSlot l c.slot_at.result words after) c.record_of.ensures.words
    c.program_record.ensures.puts) in
    let size : length words ≡ 18 = omega arith in
    run_held pages slots m after a.area a.next a.page a.first a.words.now c.in_ok-found.found words c.requires.room
    c.requires.home
    c.requires.free size c.requires.page c.requires.run c.in_ok-found.ensures.each c.in_ok-found.ensures.names
    c.overlay.ensures.other c.overlay.ensures.run puts

pub returns-in_err-program_record-clause-held : goal.returns-in_err-program_record-clause-held
returns-in_err-program_record-clause-held g c =
    put_held g (goal.at.returns-in_err-program_record-clause-held g c).After-program_record

pub returns-clause-held : goal.returns-clause-held
returns-clause-held g c = put_held g (goal.at.returns-clause-held g c).After-program_record
