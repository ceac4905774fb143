use Rattle.std.proofs.Common.{ℕ, sym, ap₂, ◌∙◌}
use Rattle.program_units.specs.UnitWords.{frame_word}
use Rattle.program_units.specs.laws.UnitImages.{index-unit_words}
use Rattle.program_units.proofs.unit_calls.read_word.Goals as goal

pub returns-clause-word : goal.returns-clause-word
returns-clause-word g c =
    let unit = g.D.UnitDevice.UNIT in
    let slots = g.D.UnitDevice.SLOTS in
    let m = (g.D.UnitDevice.state c.args.device.now).flash.words in
    c.in_ok-word.ensures.word
    ∙ ap₂ (λ (f r : ℕ). frame_word unit m f r) c.spot_of.ensures.frame c.spot_of.ensures.rank
    ∙ sym (index-unit_words unit slots m c.args.at c.requires.within)
