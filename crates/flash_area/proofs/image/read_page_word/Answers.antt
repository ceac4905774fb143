use Rattle.std.proofs.Common.{◌≡◌, ◌∙◌, arith}
use Rattle.flash_device.specs.FlashLogs.{base_in, find}
use Rattle.flash_device.specs.laws.Indexing.{find_most}
use Rattle.flash_area.proofs.image.read_page_word.Goals as goal

pub slot_at-requires : goal.slot_at-requires
slot_at-requires g c =
    let slots = g.F.Flash.SLOTS in
    let m = (g.F.Flash.state c.args.flash.now).words in
    let base = base_in slots c.args.area in
    let found : c.entry-found.result ≡ find m base slots c.args.page = c.entry-found.ensures ∙ c.requires.entry in
    let most = find_most m base slots c.args.page in
    let some = c.if-found-eq0.false in
    omega (arith, found, most, some)

pub read-requires-clause-within : goal.read-requires-clause-within
read-requires-clause-within g c =
    let at = c.slot_at.ensures.within in
    let place = c.from.ensures in
    let small = c.requires.place in
    omega (arith, at, place, small)
