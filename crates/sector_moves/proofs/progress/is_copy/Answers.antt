use Rattle.std.proofs.Common.{arith}
use Rattle.flash_device.specs.laws.Indexing.{find_most}
use Rattle.flash_area.specs.Spares.{spare_in}
use Rattle.sector_moves.proofs.progress.is_copy.Goals as goal

pub word_in-requires-clause-number : goal.word_in-requires-clause-number
word_in-requires-clause-number g c =
    let m = (g.F.Flash.state c.args.flash.now).words in
    let to = spare_in g.F.Flash.SLOTS c.args.turn in
    let entry = c.entry.ensures in
    let found = c.requires.spare.each c.args.page c.requires.page.0 in
    let most = find_most m to c.args.below c.args.page in
    let below = c.requires.page.1 in
    omega (arith, entry, found, most, below)
