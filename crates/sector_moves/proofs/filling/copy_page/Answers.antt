use Rattle.std.proofs.Common.{◌≡◌, ◌*◌, sym, ◌∙◌, arith}
use Rattle.flash_device.specs.FlashCalls.{SameElsewhere}
use Rattle.flash_device.specs.FlashLogs.{base_in, find}
use Rattle.flash_area.specs.Spares.{spare_in}
use Rattle.flash_area.specs.laws.Copying.{SameArea}
use Rattle.sector_moves.specs.laws.Filling.{home_same, in_slots, page_copied, past_copied}
use Rattle.sector_moves.proofs.filling.copy_page.Goals as goal

pub returns-then-entry-eq0-clause-copies : goal.returns-then-entry-eq0-clause-copies
returns-then-entry-eq0-clause-copies g c = λ below words le named are has.
    let slots = g.F.Flash.SLOTS in
    let a = c.args in
    let m = (g.F.Flash.state a.flash.now).words in
    let none : find m (base_in slots a.turn) slots a.page ≡ 0 =
    sym c.requires.entry.1 ∙ sym c.entry.ensures ∙ c.if-entry-eq0.true in
    past_copied g.F.Flash.PAGES slots m words a.turn (spare_in slots a.turn) below a.page c.requires.turn.2 named none
    c.requires.entry.0 has

pub returns-clause-free : goal.returns-clause-free
returns-clause-free g c = λ below le are. (c.in_ok-free.ensures.puts below le are).free

pub returns-clause-copies : goal.returns-clause-copies
returns-clause-copies g c = λ below words le named are has.
    let slots = g.F.Flash.SLOTS in
    let pages = g.F.Flash.PAGES in
    let a = c.args in
    let m = (g.F.Flash.state a.flash.now).words in
    let after = (g.F.Flash.state c.put_page.new.flash).words in
    let base = spare_in slots a.turn in
    let some = c.requires.some in
    let within : SameElsewhere m base (20 * slots) after =
    in_slots slots m after base a.next a.end (omega (arith, some)) some.1 c.put_page.ensures.elsewhere in
    let same : SameArea slots m after (base_in slots a.turn) = home_same pages slots m after a.turn within in
    page_copied pages slots m after words a.turn base below a.page c.in_ok-free.free c.requires.turn.2 named
    (c.in_ok-free.ensures.puts below le are) c.requires.entry.0 same has
