use Rattle.std.proofs.Common.{◌≡◌, ◌<◌, ◌+◌, ◌-◌, ◌*◌, arith}
use Rattle.flash_device.specs.FlashCalls.{SameElsewhere}
use Rattle.flash_area.specs.Spares.{spare_in}
use Rattle.flash_area.specs.laws.Copying.{SameArea}
use Rattle.flash_device.specs.FlashLogs.{base_in}
use Rattle.sector_moves.specs.laws.Filling.{home_same, in_slots, older_copied}
use Rattle.sector_moves.proofs.filling.put_older.Goals as goal

pub returns-clause-free : goal.returns-clause-free
returns-clause-free g c = λ below le are. (c.in_ok-free.ensures.puts below le are).free

pub returns-clause-copies : goal.returns-clause-copies
returns-clause-copies g c = λ below copied words le few named are has.
    let slots = g.F.Flash.SLOTS in
    let pages = g.F.Flash.PAGES in
    let a = c.args in
    let m = (g.F.Flash.state a.flash.now).words in
    let after = (g.F.Flash.state c.put_page.new.flash).words in
    let base = spare_in slots a.turn in
    let some = c.requires.some in
    let within : SameElsewhere m base (20 * slots) after =
    in_slots slots m after base a.next a.end (omega (arith, some)) some.1 c.put_page.ensures.elsewhere in
    let same : SameArea slots m after (base_in slots a.turn) = home_same pages slots m after a.turn within in
    let is_older = c.if-older-eq0.false in
    let one : a.older ≡ a.older - 1 + 1 = omega (arith, is_older) in
    let most = c.requires.index.0 in
    let inside : a.older - 1 < pages = omega (arith, is_older, most) in
    older_copied pages slots m after words a.turn base below (a.older - 1) c.in_ok-free.free c.requires.turn.2 named
    (c.in_ok-free.ensures.puts below le are) inside same copied a.older one few has
