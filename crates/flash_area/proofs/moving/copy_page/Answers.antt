use Rattle.std.proofs.Common.{◌≡◌, ◌<◌, ◌+◌, ℕ, List, length, slice_index, refl, sym, ap, subst, ◌∙◌}
use Rattle.std.proofs.Common.{arith}
use Rattle.flash_area.specs.PageCopies.{CopiesPage, KeepsOthers}
use Rattle.flash_device.specs.FlashLogs.{base_in, find, slot_of}
use Rattle.flash_area.specs.HeldPages.{HavePages}
use Rattle.flash_device.specs.PutRecords.{IsPut}
use Rattle.flash_area.specs.laws.Copying.{copies_put}
use Rattle.flash_area.specs.laws.Holding.{put_held}
use Rattle.flash_area.proofs.moving.copy_page.Goals as goal

pub returns-clause-copies : goal.returns-clause-copies
returns-clause-copies g c =
    let slots = g.F.Flash.SLOTS in
    let pages = g.F.Flash.PAGES in
    let a = c.args in
    let m = (g.F.Flash.state a.flash.now).words in
    let after = (g.F.Flash.state c.put_in_spare.new.flash).words in
    let words = c.in_ok-found.found in
    let from = base_in slots a.from in
    let to = base_in slots a.to in
    let s = c.in_ok-slot.slot in
    let put = c.in_ok-slot.ensures.put in
    let kept : KeepsOthers slots m to a.page after (s + 1) =
    subst (λ (p : ℕ). KeepsOthers slots m to p after (s + 1)) c.in_ok-found.ensures.names
    (subst (λ (l : List ℕ). KeepsOthers slots l to (slice_index words 16) after (s + 1)) c.record_of.ensures.words
    put.2) in
    let size : length words ≡ 18 = omega arith in
    let table = g.F.Table.PageTable.entries a.table.now in
    let all : length table ≡ pages = g.met.F.Flash.table_fits a.table.now in
    let within : a.page < length table = omega (arith, all, c.requires.page) in
    let most = put.0 in
    let fits = g.met.F.Flash.slots_fit.0 in
    let below : s < slots = omega (arith, most, c.requires.page, fits) in
    subst (λ (l : List ℕ). CopiesPage slots m table from to a.page after l (s + 1)) (sym c.set_entry.ensures)
    (copies_put slots m after table from to a.page s words put.1 kept below size within
    c.in_ok-found.ensures.names c.in_ok-found.ensures.each)

pub returns-clause-have : goal.returns-clause-have
returns-clause-have g c = λ none have.
    let slots = g.F.Flash.SLOTS in
    let pages = g.F.Flash.PAGES in
    let a = c.args in
    let mid = (g.F.Flash.state c.record_of.new.flash).words in
    let after = (g.F.Flash.state c.put_in_spare.new.flash).words in
    let words = c.in_ok-found.found in
    let to = base_in slots a.to in
    let s = c.in_ok-slot.slot in
    let put = c.in_ok-slot.ensures.put in
    let stays = (c.in_ok-found.ensures.light.ok refl).faults in
    let alone = c.in_ok-slot.ensures.alone (omega (arith, none, stays)) in
    let size : length words ≡ 18 = omega arith in
    let most = put.0 in
    let fits = g.met.F.Flash.slots_fit.0 in
    let first = alone.0 in
    let below : a.next < slots = omega (arith, most, first, c.requires.page, fits) in
    let left : find mid to slots a.page ≡ 0 = ap (λ (l : List ℕ). find l to slots a.page) c.record_of.ensures.words
    ∙ c.requires.left in
    let kept : KeepsOthers slots mid to a.page after (a.next + 1) =
    subst (λ (t : ℕ). KeepsOthers slots mid to a.page after (t + 1)) first
    (subst (λ (p : ℕ). KeepsOthers slots mid to p after (s + 1)) c.in_ok-found.ensures.names put.2) in
    let here : IsPut after (slot_of to a.next) words =
    subst (λ (t : ℕ). IsPut after (slot_of to t) words) first put.1 in
    let had : HavePages pages slots mid to a.next =
    subst (λ (l : List ℕ). HavePages pages slots l to a.next) (sym c.record_of.ensures.words) have in
    subst (λ (t : ℕ). HavePages pages slots after to (t + 1)) (sym first)
    (put_held pages slots mid after to a.next a.page words alone.1 here kept below size c.in_ok-found.ensures.names
    c.in_ok-found.ensures.unused c.requires.page left had)

pub put_in_spare-requires-clause-end : goal.put_in_spare-requires-clause-end
put_in_spare-requires-clause-end g c =
    let fits = g.met.F.Flash.slots_fit.0 in omega (arith, fits, c.requires.page)
