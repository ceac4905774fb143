use Rattle.std.proofs.Common.{ℕ, sym, ap, ◌∙◌, slice_index}
use Rattle.spare_sectors.specs.laws.SpareImages.{index-spare_words}
use Rattle.spare_sectors.proofs.spare_calls.read_cell.Goals as goal

pub returns-clause-word : goal.returns-clause-word
returns-clause-word g c =
    let m = (g.D.MapDevice.state c.args.device.now).flash.words in
    c.in_ok-word.ensures.word ∙ ap (λ (k : ℕ). slice_index m k) c.place_of-place.ensures.is
    ∙ sym (index-spare_words g.D.SpareDevice.SLOTS g.D.MapDevice.SECTORS g.D.SpareDevice.SECTOR_SLOTS
    g.D.SpareDevice.SECTOR_WORDS g.D.MapDevice.SPARES m (g.D.MapDevice.state c.args.device.now).map c.args.at
    c.requires.at)
