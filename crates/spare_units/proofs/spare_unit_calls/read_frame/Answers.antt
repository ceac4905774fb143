use Rattle.std.proofs.Common.{◌*◌, ℕ, sym, ap, ◌∙◌, slice_index}
use Rattle.spare_units.specs.SpareFrames.{word_sector, word_start}
use Rattle.program_units.specs.UnitFrames.{device_size}
use Rattle.spare_units.specs.laws.MovedWords.{index-moved_words}
use Rattle.spare_units.proofs.spare_unit_calls.read_frame.Goals as goal

pub returns-clause-word : goal.returns-clause-word
returns-clause-word g c =
    let slots = g.D.SpareUnitDevice.SLOTS in
    let sectors = g.D.MapDevice.SECTORS in
    let each = g.D.SpareUnitDevice.SECTOR_FRAMES in
    let m = (g.D.MapDevice.state c.args.device.now).flash.words in
    c.in_ok-word.ensures.word ∙ ap (λ (k : ℕ). slice_index m k) c.cell_at-cell.ensures.is
    ∙ sym (index-moved_words (word_sector slots sectors each) (word_start slots sectors each) (device_size slots)
    (32 * each) sectors g.D.MapDevice.SPARES m (g.D.MapDevice.state c.args.device.now).map c.args.at c.requires.at)
