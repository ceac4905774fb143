use Rattle.std.proofs.Common.{◌≡◌, ◌+◌, ℕ, List, slice_index, sym, ap, subst, ◌∙◌, arith}
use Rattle.flash_device.specs.FlashLogs.{base_in, page_word, slot_of}
use Rattle.flash_device.specs.PageTables.{AreFree}
use Rattle.flash_device.specs.PutRecords.{IsPut}
use Rattle.flash_area.specs.PageCopies.{KeepsOthers}
use Rattle.flash_area.specs.Spares.{spare_in}
use Rattle.sector_moves.specs.laws.Filling.{puts_page}
use Rattle.sector_moves.proofs.filling.put_page.Goals as goal

pub returns-clause-puts : goal.returns-clause-puts
returns-clause-puts g c = λ below le are.
    let slots = g.F.Flash.SLOTS in
    let a = c.args in
    let m = (g.F.Flash.state a.flash.now).words in
    let after = (g.F.Flash.state c.put_in_sector.new.flash).words in
    let words = c.in_ok-found.found in
    let base = spare_in slots a.turn in
    let s = c.in_ok-slot.slot in
    let put = c.in_ok-slot.ensures.put in
    let same = c.read_record.ensures.words in
    let at : base_in slots c.spare.result ≡ base = c.spare.ensures.is slots in
    let free : AreFree (g.F.Flash.state c.read_record.new.flash).words (base_in slots c.spare.result) a.next below =
    subst (λ (b : ℕ). AreFree (g.F.Flash.state c.read_record.new.flash).words b a.next below) (sym at)
    (subst (λ (l : List ℕ). AreFree l base a.next below) (sym same) are) in
    let is_put : IsPut after (slot_of base s) words =
    subst (λ (b : ℕ). IsPut after (slot_of b s) words) at put.2 in
    let kept : KeepsOthers below m base a.page after (s + 1) =
    subst (λ (p : ℕ). KeepsOthers below m base p after (s + 1)) c.in_ok-found.ensures.names
    (subst (λ (b : ℕ). KeepsOthers below m b (slice_index words 16) after (s + 1)) at
    (subst (λ (l : List ℕ). KeepsOthers below l (base_in slots c.spare.result) (slice_index words 16) after (s + 1))
    same (c.in_ok-slot.ensures.others below le free))) in
    let under = put.1 in
    puts_page slots m after (base_in slots a.turn) base below a.page s words kept is_put (omega (arith, under, le))
    (omega arith) c.in_ok-found.ensures.names
    (λ k few. c.in_ok-found.ensures.each k few
    ∙ ap (λ (b : ℕ). page_word m b slots a.page k) (c.home.ensures.is slots))
